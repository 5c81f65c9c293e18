use Rattle.std.proofs.Common.{◌≡◌, ℕ, Bool, true, ap, sym, ◌∙◌, subst}
use Rattle.std.specs.FinMap as finmap
use Rattle.file_watchers.specs.declared.watchers.Watchers.TheInside.{Inside}
use Rattle.file_watchers.specs.WatcherRow.{row_map}
use Rattle.file_watchers.specs.Watchers.{WatchMap}
use Rattle.file_watchers.proofs.Alone.{one-kept, one-left}
use Rattle.file_watchers.proofs.watchers.Watchers.remove.Goals as goal
use Rattle.file_watchers.proofs.watchers.Watchers.remove.Goals.{in-Eight, in-Four, in-One, in-Several, in-Sixteen}

-- an answer whether none is left in a row is one of the map that the row stands for
none-left : (row m : WatchMap) (id : ℕ) (is : Bool) → row ≡ m
    → ((is ≡ true → finmap.remove row id ≡ finmap.empty) × (finmap.remove row id ≡ finmap.empty → is ≡ true))
    → ((is ≡ true → finmap.remove m id ≡ finmap.empty) × (finmap.remove m id ≡ finmap.empty → is ≡ true))
none-left row m id is same =
    subst (λ (n : WatchMap). (is ≡ true → finmap.remove n id ≡ finmap.empty) × (finmap.remove n id ≡ finmap.empty → is ≡ true)) same

pub returns-clause-none : goal.returns-clause-none
returns-clause-none c =
    elim c.match-self.branch [
      | in-One w ↦
          let was : finmap.insert finmap.empty w.in-One.first w.in-One.field-1 ≡ c.args.self.now = sym (ap row_map w.in-One.is) ∙ c.self.view_is in
          none-left (finmap.insert finmap.empty w.in-One.first w.in-One.field-1) c.args.self.now c.args.id c.match-self.result was
          (one-left w.in-One.first c.args.id w.in-One.field-1 c.match-self.result (sym w.result-is))
      | in-Four w ↦
          let lent = w.deref_mut in
          let was : lent.result.now ≡ c.args.self.now = lent.ensures.value ∙ sym (ap row_map w.in-Four.is) ∙ c.self.view_is in
          let left : w.deref.result.now ≡ finmap.remove c.args.self.now c.args.id =
          w.deref.ensures ∙ w.remove.ensures ∙ ap (λ (m : WatchMap). finmap.remove m c.args.id) was in (
            (λ h. sym left ∙ w.is_empty.ensures.0 (sym w.result-is ∙ h)),
            (λ h. w.result-is ∙ w.is_empty.ensures.1 (left ∙ h)),
          )
      | in-Eight w ↦
          let lent = w.deref_mut-in-Eight in
          let was : lent.result.now ≡ c.args.self.now = lent.ensures.value ∙ sym (ap row_map w.in-Eight.is) ∙ c.self.view_is in
          let left : w.deref-in-Eight.result.now ≡ finmap.remove c.args.self.now c.args.id =
          w.deref-in-Eight.ensures ∙ w.remove-in-Eight.ensures ∙ ap (λ (m : WatchMap). finmap.remove m c.args.id) was in (
            (λ h. sym left ∙ w.is_empty-in-Eight.ensures.0 (sym w.result-is ∙ h)),
            (λ h. w.result-is ∙ w.is_empty-in-Eight.ensures.1 (left ∙ h)),
          )
      | in-Sixteen w ↦
          let lent = w.deref_mut-in-Sixteen in
          let was : lent.result.now ≡ c.args.self.now = lent.ensures.value ∙ sym (ap row_map w.in-Sixteen.is) ∙ c.self.view_is in
          let left : w.deref-in-Sixteen.result.now ≡ finmap.remove c.args.self.now c.args.id =
          w.deref-in-Sixteen.ensures ∙ w.remove-in-Sixteen.ensures ∙ ap (λ (m : WatchMap). finmap.remove m c.args.id) was in (
            (λ h. sym left ∙ w.is_empty-in-Sixteen.ensures.0 (sym w.result-is ∙ h)),
            (λ h. w.result-is ∙ w.is_empty-in-Sixteen.ensures.1 (left ∙ h)),
          )
      | in-Several w ↦
          let lent = w.deref_mut-in-Several in
          let was : lent.result.now ≡ c.args.self.now = lent.ensures.value ∙ sym (ap row_map w.in-Several.is) ∙ c.self.view_is in
          let left : w.deref-in-Several.result.now ≡ finmap.remove c.args.self.now c.args.id =
          w.deref-in-Several.ensures ∙ w.remove-in-Several.ensures ∙ ap (λ (m : WatchMap). finmap.remove m c.args.id) was in (
            (λ h. sym left ∙ w.is_empty-in-Several.ensures.0 (sym w.result-is ∙ h)),
            (λ h. w.result-is ∙ w.is_empty-in-Several.ensures.1 (left ∙ h)),
          )
    ]

pub returns-clause-rest : goal.returns-clause-rest
returns-clause-rest c =
    elim c.match-self.branch [
      | in-One w ↦ λ other.
          let was : finmap.insert finmap.empty w.in-One.first w.in-One.field-1 ≡ c.args.self.now = sym (ap row_map w.in-One.is) ∙ c.self.view_is in
          ap (λ (a : Inside). row_map a.row) w.self-inside-is
          ∙ sym (one-kept w.in-One.first c.args.id w.in-One.field-1 (sym w.result-is ∙ other))
          ∙ ap (λ (m : WatchMap). finmap.remove m c.args.id) was
      | in-Four w ↦ λ other.
          let lent = w.deref_mut in
          let was : lent.result.now ≡ c.args.self.now = lent.ensures.value ∙ sym (ap row_map w.in-Four.is) ∙ c.self.view_is in
          ap (λ (a : Inside). row_map a.row) w.self-inside-is ∙ w.remove.ensures ∙ ap (λ (m : WatchMap). finmap.remove m c.args.id) was
      | in-Eight w ↦ λ other.
          let lent = w.deref_mut-in-Eight in
          let was : lent.result.now ≡ c.args.self.now = lent.ensures.value ∙ sym (ap row_map w.in-Eight.is) ∙ c.self.view_is in
          ap (λ (a : Inside). row_map a.row) w.self-inside-is ∙ w.remove-in-Eight.ensures ∙ ap (λ (m : WatchMap). finmap.remove m c.args.id) was
      | in-Sixteen w ↦ λ other.
          let lent = w.deref_mut-in-Sixteen in
          let was : lent.result.now ≡ c.args.self.now = lent.ensures.value ∙ sym (ap row_map w.in-Sixteen.is) ∙ c.self.view_is in
          ap (λ (a : Inside). row_map a.row) w.self-inside-is ∙ w.remove-in-Sixteen.ensures ∙ ap (λ (m : WatchMap). finmap.remove m c.args.id) was
      | in-Several w ↦ λ other.
          let lent = w.deref_mut-in-Several in
          let was : lent.result.now ≡ c.args.self.now = lent.ensures.value ∙ sym (ap row_map w.in-Several.is) ∙ c.self.view_is in
          ap (λ (a : Inside). row_map a.row) w.self-inside-is ∙ w.remove-in-Several.ensures ∙ ap (λ (m : WatchMap). finmap.remove m c.args.id) was
    ]
