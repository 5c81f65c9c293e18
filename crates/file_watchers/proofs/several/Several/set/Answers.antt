use Rattle.std.proofs.Common.{ap, subst, ◌∙◌, IsSome}
use Rattle.std.specs.Prelude.{Ok}
use Rattle.std.specs.FinMap as finmap
use Rattle.std.proofs.lemmas.Bool.{false≢true}
use Rattle.file_watchers.specs.Ids.{IsIndex}
use Rattle.file_watchers.specs.Watchers.{WatchMap}
use Rattle.file_watchers.proofs.Zipped.{watchers-absent_in, watchers-set}
use Rattle.file_watchers.proofs.several.Several.set.Goals as goal

pub unreachable-requires : goal.unreachable-requires
unreachable-requires c =
    let none = watchers-absent_in c.self.inside.ids.items c.self.inside.watches.items c.self.invariant c.as_slice.ensures.value c.self.view_is
    c.in_default.field-0 c.args.id c.in_default.ensures in
    false≢true (subst (λ o. IsSome o) none c.requires)

pub returns : goal.returns
returns c =
    let ids = c.self.inside.ids.items in
    let ws = c.self.inside.watches.items in
    let i = c.in-Ok.index in
    let slot : IsIndex ids c.args.id (Ok i) = subst (λ xs. IsIndex xs c.args.id (Ok i)) c.as_slice.ensures.value c.in-Ok.ensures in
    watchers-set ids ws c.self.invariant i c.args.id slot c.args.watch ∙ ap (λ (m : WatchMap). finmap.insert m c.args.id c.args.watch) c.self.view_is
