use Rattle.std.proofs.Common.{ap, sym, subst, suc, ◌∙◌, ◌++◌, take, drop}
use Rattle.std.specs.Prelude.{Ok}
use Rattle.std.specs.FinMap as finmap
use Rattle.file_watchers.specs.Ids.{IsIndex}
use Rattle.file_watchers.specs.Watchers.{AreWatchers, WatchMap, watchers_map}
use Rattle.file_watchers.proofs.Rising.{cut-absent}
use Rattle.file_watchers.proofs.Zipped.{are-cut, watchers-absent_in, watchers-cut}
use Rattle.file_watchers.proofs.several.Several.remove.Goals as goal

pub returns-in-Ok : goal.returns-in-Ok
returns-in-Ok c =
    let ids = c.self.inside.ids.items in
    let ws = c.self.inside.watches.items in
    let i = c.in-Ok.index in
    let slot : IsIndex ids c.args.id (Ok i) = subst (λ xs. IsIndex xs c.args.id (Ok i)) c.as_slice.ensures.value c.in-Ok.ensures in
    (λ k. watchers_map (c.remove.ensures.items k) (c.remove-in-Ok.ensures.items k))
    ∙ watchers-cut ids ws c.self.invariant i c.args.id slot
    ∙ ap (λ (m : WatchMap). finmap.remove m c.args.id) c.self.view_is

pub invariant_of-self : goal.invariant_of-self
invariant_of-self c =
    let ids = c.self.inside.ids.items in
    let ws = c.self.inside.watches.items in
    let i = c.in-Ok.index in
    let slot : IsIndex ids c.args.id (Ok i) = subst (λ xs. IsIndex xs c.args.id (Ok i)) c.as_slice.ensures.value c.in-Ok.ensures in
    subst (λ xs. AreWatchers xs c.remove-in-Ok.new.self.items) (sym c.remove.ensures.items)
    (subst (AreWatchers (take i ids ++ drop (suc i) ids)) (sym c.remove-in-Ok.ensures.items) (are-cut ids ws c.self.invariant i c.args.id slot))

pub returns-in_default : goal.returns-in_default
returns-in_default c =
    sym (cut-absent c.args.self.now c.args.id
    (watchers-absent_in c.self.inside.ids.items c.self.inside.watches.items c.self.invariant c.as_slice.ensures.value c.self.view_is
    c.in_default.field-0 c.args.id c.in_default.ensures))
