use Rattle.std.proofs.Common.{inl, refl, sym, ap, ◌∙◌}
use Rattle.instance_table.specs.Instances.{instance_of}
use Rattle.instance_table.proofs.Kept.{sound-more}
use Rattle.instance_table.proofs.instances.Instances.find_ended.Goals as goal

pub loop-ended-init : goal.loop-ended-init
loop-ended-init c q i e = inl refl

pub loop-ended-preserved : goal.loop-ended-preserved
loop-ended-preserved c q i e =
    sound-more q i c.args.drops.now c.loop-ended.ended-index _ _ c.loop-ended-test.true refl (c.loop-ended.invariant q i e)
    (λ is. c.find_sound.ensures i (ap (instance_of c.args.self.now) (sym is) ∙ e))
