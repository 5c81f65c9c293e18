use Rattle.std.proofs.Common.{◌≡◌, ap, sym, ◌∙◌, subst, IsSome}
use Rattle.std.specs.FinMap as finmap
use Rattle.file_watchers.specs.declared.watchers.Watchers.TheInside.{Inside}
use Rattle.file_watchers.specs.WatcherRow.{row_map}
use Rattle.file_watchers.specs.Watchers.{WatchMap}
use Rattle.file_watchers.proofs.Alone.{is-one, one-again}
use Rattle.file_watchers.proofs.watchers.Watchers.set.Goals as goal
use Rattle.file_watchers.proofs.watchers.Watchers.set.Goals.{in-Eight, in-Four, in-One, in-Several, in-Sixteen}

pub returns : goal.returns
returns c =
    elim c.match-self.branch [
      | in-One w ↦
          let was : finmap.insert finmap.empty w.in-One.field-0 w.in-One.its ≡ c.args.self.now = sym (ap row_map w.in-One.is) ∙ c.self.view_is in
          let same = is-one w.in-One.field-0 c.args.id w.in-One.its (subst (λ (m : WatchMap). IsSome (finmap.get m c.args.id)) (sym was) c.requires) in
          ap (λ (a : Inside). row_map a.row) w.self-inside-is ∙ sym (one-again w.in-One.field-0 w.in-One.its c.args.watch)
          ∙ ap (λ q. finmap.insert (finmap.insert finmap.empty w.in-One.field-0 w.in-One.its) q c.args.watch) (sym same)
          ∙ ap (λ (m : WatchMap). finmap.insert m c.args.id c.args.watch) was
      | in-Four w ↦
          let lent = w.deref_mut in
          let was : lent.result.now ≡ c.args.self.now = lent.ensures.value ∙ sym (ap row_map w.in-Four.is) ∙ c.self.view_is in
          ap (λ (a : Inside). row_map a.row) w.self-inside-is ∙ w.set.ensures ∙ ap (λ (m : WatchMap). finmap.insert m c.args.id c.args.watch) was
      | in-Eight w ↦
          let lent = w.deref_mut-in-Eight in
          let was : lent.result.now ≡ c.args.self.now = lent.ensures.value ∙ sym (ap row_map w.in-Eight.is) ∙ c.self.view_is in
          ap (λ (a : Inside). row_map a.row) w.self-inside-is ∙ w.set-in-Eight.ensures ∙ ap (λ (m : WatchMap). finmap.insert m c.args.id c.args.watch) was
      | in-Sixteen w ↦
          let lent = w.deref_mut-in-Sixteen in
          let was : lent.result.now ≡ c.args.self.now = lent.ensures.value ∙ sym (ap row_map w.in-Sixteen.is) ∙ c.self.view_is in
          ap (λ (a : Inside). row_map a.row) w.self-inside-is ∙ w.set-in-Sixteen.ensures ∙ ap (λ (m : WatchMap). finmap.insert m c.args.id c.args.watch) was
      | in-Several w ↦
          let lent = w.deref_mut-in-Several in
          let was : lent.result.now ≡ c.args.self.now = lent.ensures.value ∙ sym (ap row_map w.in-Several.is) ∙ c.self.view_is in
          ap (λ (a : Inside). row_map a.row) w.self-inside-is ∙ w.set-in-Several.ensures ∙ ap (λ (m : WatchMap). finmap.insert m c.args.id c.args.watch) was
    ]
