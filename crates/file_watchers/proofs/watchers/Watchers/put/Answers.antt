use Rattle.std.proofs.Common.{◌≡◌, true, false, ap, sym, ◌∙◌, rules}
use Rattle.std.specs.FinMap as finmap
use Rattle.std.proofs.lemmas.Bool.{false≢true}
use Rattle.file_watchers.specs.declared.watchers.Watchers.TheInside.{Inside}
use Rattle.file_watchers.specs.WatcherRow.{row_map}
use Rattle.file_watchers.specs.Watchers.{WatchMap}
use Rattle.file_watchers.proofs.Alone.{one-again}
use Rattle.file_watchers.proofs.watchers.Watchers.put.Goals as goal
use Rattle.file_watchers.proofs.watchers.Watchers.put.Goals.{in-One+then-is_first, in-One+else-is_first, in-Four, in-Eight, in-Sixteen}

pub returns-else-not-is_put-clause-ok : goal.returns-else-not-is_put-clause-ok
returns-else-not-is_put-clause-ok c =
    let put : c.match-self.is_put ≡ true = search rules in
    elim c.match-self.branch [
      | in-One+then-is_first w ↦
          let id = w.in-One.first in
          let same : id ≡ c.args.id = search rules in
          let was : finmap.insert finmap.empty id w.in-One.its ≡ c.args.self.now = sym (ap row_map w.in-One.is) ∙ c.self.view_is in
          ap (λ (a : Inside). row_map a.row) w.self-inside-is ∙ sym (one-again id w.in-One.its c.args.watch)
          ∙ ap (λ (m : WatchMap). finmap.insert m id c.args.watch) was ∙ ap (λ q. finmap.insert c.args.self.now q c.args.watch) same
      | in-One+else-is_first w ↦ let other : c.match-self.is_put ≡ false = search rules in absurd (false≢true (sym other ∙ put))
      | in-Four w ↦
          let lent = w.deref_mut in
          let was : lent.result.now ≡ c.args.self.now = lent.ensures.value ∙ sym (ap row_map w.in-Four.is) ∙ c.self.view_is in
          ap (λ (a : Inside). row_map a.row) w.self-inside-is ∙ w.put-is_put.ensures.put (sym w.is_put-is ∙ put)
          ∙ ap (λ (m : WatchMap). finmap.insert m c.args.id c.args.watch) was
      | in-Eight w ↦
          let lent = w.deref_mut-in-Eight in
          let was : lent.result.now ≡ c.args.self.now = lent.ensures.value ∙ sym (ap row_map w.in-Eight.is) ∙ c.self.view_is in
          ap (λ (a : Inside). row_map a.row) w.self-inside-is ∙ w.put-is_put-in-Eight.ensures.put (sym w.is_put-is ∙ put)
          ∙ ap (λ (m : WatchMap). finmap.insert m c.args.id c.args.watch) was
      | in-Sixteen w ↦
          let lent = w.deref_mut-in-Sixteen in
          let was : lent.result.now ≡ c.args.self.now = lent.ensures.value ∙ sym (ap row_map w.in-Sixteen.is) ∙ c.self.view_is in
          ap (λ (a : Inside). row_map a.row) w.self-inside-is ∙ w.put-is_put-in-Sixteen.ensures.put (sym w.is_put-is ∙ put)
          ∙ ap (λ (m : WatchMap). finmap.insert m c.args.id c.args.watch) was
    ]

pub returns-in_ok-self-inside-clause-ok : goal.returns-in_ok-self-inside-clause-ok
returns-in_ok-self-inside-clause-ok c = search rules
