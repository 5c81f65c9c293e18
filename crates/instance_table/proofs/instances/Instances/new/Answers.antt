use Rattle.std.proofs.Common.{◌≡◌, ℕ, None, ap, sym, subst, ◌∙◌}
use Rattle.std.specs.FinMap.{get-empty}
use Rattle.std.specs.List.Sorted.{IsStrictlySortedBy}
use Rattle.std.specs.Ordering.{nat_cmp}
use Rattle.record_codec.specs.Records.{AreEvents}
use Rattle.instance_table.specs.Instances.{instance_of, waiting_of}
use Rattle.instance_table.specs.Watchers.{watch_at}
use Rattle.instance_table.specs.Opened.{by_number, ids_of}
use Rattle.file_watchers.proofs.Rising.{rises-none}
use Rattle.instance_table.proofs.instances.Instances.new.Goals as goal

pub invariant_of-result : goal.invariant_of-result
invariant_of-result c =
    let none : (id : ℕ) → instance_of (by_number c.new.result.items) id ≡ None =
    λ id. ap (λ rows. instance_of (by_number rows) id) c.new.ensures.items ∙ get-empty nat_cmp id in
    record {
      rows = c.new-2.ensures.rows;
      noted = λ number id. c.new-2.ensures.noted number id ∙ sym (ap (watch_at number) (none id));
      records = λ id. subst (λ o. AreEvents (waiting_of o)) (sym (none id)) tt;
      rising = subst (λ rows. IsStrictlySortedBy nat_cmp (ids_of rows)) (sym c.new.ensures.items) rises-none;
    }
