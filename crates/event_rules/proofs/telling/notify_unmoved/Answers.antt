use Rattle.std.proofs.Common.{◌≡◌, ℕ, Bool, List, [], inl, inr, sym, ap, ◌∙◌}
use Rattle.inode_table.specs.TableWorld.{world_of}
use Rattle.inode_table.specs.World.{World}
use Rattle.tree_ops.specs.declared.call.FileCall.{FileCall}
use Rattle.tree_ops.specs.declared.call.FileCall.TheVariants.{Rename, Rename2}
use Rattle.tree_ops.specs.declared.moves.Moves.TheVariants.{Nothing}
use Rattle.tree_ops.specs.Moves.{moves_of}
use Rattle.event_rules.specs.Raised.{heard}
use Rattle.event_rules.specs.Table.{notices_of}
use Rattle.event_rules.specs.declared.notice.Notice.{Notice}
use Rattle.event_rules.proofs.Moving.{rename-tells-nothing, rename2-tells-nothing}
use Rattle.event_rules.proofs.telling.notify_unmoved.Goals as goal

rename-none : (watches : ℕ → Bool) (w : World) (call shown : FileCall) (told : List Notice) (cookie : ℕ) (old new : List (List ℕ)) → told ≡ []
    → moves_of w call ≡ Nothing → shown ≡ call → shown ≡ Rename old new → told ≡ heard watches (notices_of w call cookie)
rename-none watches w call shown told cookie old new empty still same is =
    let at : call ≡ Rename old new = sym same ∙ is in
    empty ∙ ap (heard watches) (sym (ap (λ x. notices_of w x cookie) at ∙ rename-tells-nothing w old new cookie (ap (moves_of w) (sym at) ∙ still)))

rename2-none : (watches : ℕ → Bool) (w : World) (call shown : FileCall) (told : List Notice) (cookie : ℕ) (old new : List (List ℕ)) (flags : ℕ)
    → told ≡ [] → moves_of w call ≡ Nothing → shown ≡ call → shown ≡ Rename2 old new flags → told ≡ heard watches (notices_of w call cookie)
rename2-none watches w call shown told cookie old new flags empty still same is =
    let at : call ≡ Rename2 old new flags = sym same ∙ is in
    empty ∙ ap (heard watches) (sym (ap (λ x. notices_of w x cookie) at ∙ rename2-tells-nothing w old new flags cookie (ap (moves_of w) (sym at) ∙ still)))

pub returns-in-Rename : goal.returns-in-Rename
returns-in-Rename g c =
    let w = world_of c.args.ready.now.tree in
    elim c.in-Rename.is [
      | inl of ↦
          rename-none (g.A.Audience.may_watch c.args.audience.now) w c.args.ready.now.plan.call c.call.result.now c.args.told.now c.args.cookie of.0
          of.1 c.requires.empty c.requires.still c.call.ensures of.2
      | inr of ↦
          rename2-none (g.A.Audience.may_watch c.args.audience.now) w c.args.ready.now.plan.call c.call.result.now c.args.told.now c.args.cookie of.0
          of.1 of.2 c.requires.empty c.requires.still c.call.ensures of.3
    ]

pub returns-in-Rename-2 : goal.returns-in-Rename-2
returns-in-Rename-2 g c =
    let w = world_of c.args.ready.now.tree in
    elim c.in-Rename.is [
      | inl of ↦
          rename-none (g.A.Audience.may_watch c.args.audience.now) w c.args.ready.now.plan.call c.call.result.now c.args.told.now c.args.cookie of.0
          of.1 c.requires.empty c.requires.still c.call.ensures of.2
      | inr of ↦
          rename2-none (g.A.Audience.may_watch c.args.audience.now) w c.args.ready.now.plan.call c.call.result.now c.args.told.now c.args.cookie of.0
          of.1 of.2 c.requires.empty c.requires.still c.call.ensures of.3
    ]
