use Rattle.std.proofs.Common.{◌∙◌, ap, sym, refl, take, arith}
use Rattle.std.specs.FinMap as finmap
use Rattle.file_watchers.specs.Watchers.{WatchMap}
use Rattle.file_watchers.proofs.Fews.{few-are-cut, few-cut}
use Rattle.file_watchers.proofs.Rising.{cut-absent}
use Rattle.file_watchers.proofs.Zipped.{watchers-absent_in}
use Rattle.file_watchers.proofs.few.Few.remove.Goals as goal

pub returns-in-Ok : goal.returns-in-Ok
returns-in-Ok g c =
    let few = c.self.inside in
    few-cut g.row.N few.len few.ids few.watches c.self.invariant c.in-Ok.index c.args.id c.in-Ok.ensures
    c.copy_within.new.self c.copy_within-in-Ok.new.self c.copy_within.ensures.after c.copy_within-in-Ok.ensures.after
    ∙ ap (λ (m : WatchMap). finmap.remove m c.args.id) c.self.view_is

pub invariant_of-self : goal.invariant_of-self
invariant_of-self g c =
    let few = c.self.inside in
    let at-most = c.self.invariant.0 in (
      omega (arith, at-most),
      c.copy_within.ensures.len ∙ c.self.invariant.1,
      c.copy_within-in-Ok.ensures.len ∙ c.self.invariant.2,
      few-are-cut g.row.N few.len few.ids few.watches c.self.invariant c.in-Ok.index c.args.id c.in-Ok.ensures
          c.copy_within.new.self c.copy_within-in-Ok.new.self c.copy_within.ensures.after c.copy_within-in-Ok.ensures.after,
    )

pub returns-in_default : goal.returns-in_default
returns-in_default g c =
    let n = c.self.inside.len in
    sym (cut-absent c.args.self.now c.args.id
    (watchers-absent_in (take n c.self.inside.ids) (take n c.self.inside.watches) c.self.invariant.3 refl c.self.view_is
    c.in_default.field-0 c.args.id c.in_default.ensures))
