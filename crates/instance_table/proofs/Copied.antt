-- Copies of an index and of the open instances.
use Rattle.std.proofs.Common.{◌≡◌, ℕ, sym, ap, ◌∙◌, subst}
use Rattle.std.specs.BTreeMap as tree
use Rattle.std.specs.FinMap as map
use Rattle.std.specs.Map.{lookup}
use Rattle.std.specs.List.Sorted.{IsStrictlySortedBy}
use Rattle.std.specs.Ordering.{nat_cmp}
use Rattle.std.proofs.lemmas.Map.Entries.{entries_from_clone}
use Rattle.instance_table.specs.declared.index.Index.{Index}
use Rattle.instance_table.specs.declared.instances.Instances.TheInside.{Inside}
use Rattle.file_watchers.specs.Watchers.{WatchMap}
use Rattle.instance_table.specs.Watchers.{row_or_none, watch_at}
use Rattle.instance_table.specs.Index.{HasSoundRows, watch_noted}
use Rattle.instance_table.specs.Filters.{passes}
use Rattle.instance_table.specs.Instances.{WaitingAreEvents, instance_of}
use Rattle.instance_table.specs.Opened.{by_number, ids_of}
use Rattle.instance_table.specs.Views.{NotesEveryWatch}

-- each key and each value is a clone of the other map's
abbrev pub IsCopy : Index → Index → Type 0
IsCopy a b = tree.IsClone (λ (x : ℕ) (y : ℕ). y ≡ x) (λ (v : WatchMap) (w : WatchMap). w ≡ v) a.watchers b.watchers

entries-copied : (a b : Index) → IsCopy a b → b.watchers.entries ≡ a.watchers.entries
entries-copied a b h =
    entries_from_clone (λ x y. y ≡ x) (λ v w. w ≡ v) (λ x y e. e) (λ v w e. e) a.watchers.entries b.watchers.entries h

pub noted-copied : (a b : Index) → IsCopy a b → (n q : ℕ) → watch_noted b n q ≡ watch_noted a n q
noted-copied a b h n q =
    ap (λ es. map.get (row_or_none (lookup (tree.is_at (nat_cmp n)) es)) q) (entries-copied a b h)

pub rows-copied : (a b : Index) → IsCopy a b → b.filter ≡ a.filter → HasSoundRows a → HasSoundRows b
rows-copied a b h filter rows n ids e =
    let row = rows n ids (sym (ap (lookup (tree.is_at (nat_cmp n))) (entries-copied a b h)) ∙ e) in
    (row.0, ap (λ m. passes m n) filter ∙ row.1)

-- the same instances, with an index that notes the same
pub NotesEveryWatch-copied : (a b : Inside) → NotesEveryWatch a → b.opened.items ≡ a.opened.items
    → ((n q : ℕ) → watch_noted b.index n q ≡ watch_noted a.index n q) → (HasSoundRows a.index → HasSoundRows b.index) → NotesEveryWatch b
NotesEveryWatch-copied a b whole same noted rows = record {
  noted = λ n q. noted n q ∙ whole.noted n q ∙ sym (ap (λ os. watch_at n (instance_of (by_number os) q)) same);
  rows = rows whole.rows;
  records = subst (λ os. WaitingAreEvents (by_number os)) (sym same) whole.records;
  rising = subst (λ os. IsStrictlySortedBy nat_cmp (ids_of os)) (sym same) whole.rising;
}
