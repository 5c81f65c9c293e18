use Rattle.std.proofs.Common.{ap, sym, subst, ◌∙◌, ◌++◌, ◌∷◌, take, drop}
use Rattle.std.specs.Prelude.{Ok, Err}
use Rattle.std.specs.FinMap as finmap
use Rattle.file_watchers.specs.Ids.{IsIndex}
use Rattle.file_watchers.specs.Watchers.{AreWatchers, WatchMap, watchers_map}
use Rattle.file_watchers.proofs.Zipped.{are-put, watchers-put, watchers-set}
use Rattle.file_watchers.proofs.several.Several.put.Goals as goal

pub invariant_of-self-in-Ok-insert : goal.invariant_of-self-in-Ok-insert
invariant_of-self-in-Ok-insert c =
    let ids = c.self.inside.ids.items in
    let ws = c.self.inside.watches.items in
    let i = c.in-Err.index in
    let slot : IsIndex ids c.args.id (Err i) = subst (λ xs. IsIndex xs c.args.id (Err i)) c.as_slice.ensures.value c.in-Err.ensures in
    let watches = c.in-Ok-insert.ensures.items ∙ ap (λ vs. take i vs ++ c.args.watch ∷ drop i vs) c.reserve.ensures.items in
    subst (λ xs. AreWatchers xs c.insert-in-Err.new.self.items) (sym c.in_ok-insert-in-Err.ensures.items)
    (subst (AreWatchers (take i ids ++ c.args.id ∷ drop i ids)) (sym watches) (are-put ids ws c.self.invariant i c.args.id c.args.watch slot))

pub returns-in-Ok-clause-ok : goal.returns-in-Ok-clause-ok
returns-in-Ok-clause-ok c =
    let ids = c.self.inside.ids.items in
    let ws = c.self.inside.watches.items in
    let i = c.in-Ok.index in
    let slot : IsIndex ids c.args.id (Ok i) = subst (λ xs. IsIndex xs c.args.id (Ok i)) c.as_slice.ensures.value c.in-Ok.ensures in
    watchers-set ids ws c.self.invariant i c.args.id slot c.args.watch ∙ ap (λ (m : WatchMap). finmap.insert m c.args.id c.args.watch) c.self.view_is

pub returns-in-Ok-insert-clause-ok : goal.returns-in-Ok-insert-clause-ok
returns-in-Ok-insert-clause-ok c =
    let ids = c.self.inside.ids.items in
    let ws = c.self.inside.watches.items in
    let i = c.in-Err.index in
    let slot : IsIndex ids c.args.id (Err i) = subst (λ xs. IsIndex xs c.args.id (Err i)) c.as_slice.ensures.value c.in-Err.ensures in
    let watches = c.in-Ok-insert.ensures.items ∙ ap (λ vs. take i vs ++ c.args.watch ∷ drop i vs) c.reserve.ensures.items in
    (λ k. watchers_map (c.in_ok-insert-in-Err.ensures.items k) (watches k))
    ∙ watchers-put ids ws c.self.invariant i c.args.id c.args.watch slot
    ∙ ap (λ (m : WatchMap). finmap.insert m c.args.id c.args.watch) c.self.view_is
