use Rattle.std.proofs.Common.{ap, subst, ◌∙◌, IsSome, refl, take}
use Rattle.std.specs.FinMap as finmap
use Rattle.std.proofs.lemmas.Bool.{false≢true}
use Rattle.file_watchers.specs.Watchers.{WatchMap}
use Rattle.file_watchers.proofs.Fews.{few-set}
use Rattle.file_watchers.proofs.Zipped.{watchers-absent_in}
use Rattle.file_watchers.proofs.few.Few.set.Goals as goal

pub unreachable-requires : goal.unreachable-requires
unreachable-requires g c =
    let n = c.self.inside.len in
    let none = watchers-absent_in (take n c.self.inside.ids) (take n c.self.inside.watches) c.self.invariant.3 refl c.self.view_is
    c.in_default.field-0 c.args.id c.in_default.ensures in
    false≢true (subst (λ o. IsSome o) none c.requires)

pub returns : goal.returns
returns g c =
    let few = c.self.inside in
    few-set g.row.N few.len few.ids few.watches c.self.invariant c.in-Ok.index c.args.id c.in-Ok.ensures c.args.watch
    ∙ ap (λ (m : WatchMap). finmap.insert m c.args.id c.args.watch) c.self.view_is
