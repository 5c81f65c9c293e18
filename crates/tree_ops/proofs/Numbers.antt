-- Which numbers the files have after a call.
use Rattle.std.proofs.Common.{◌≡◌, inl, inr, ℕ, ◌+◌, ◌<◌, ◌==◌, Bool, true, false, List, [], Option, Some, None}
use Rattle.std.proofs.Common.{is_some, refl, sym, ap, subst, ◌∙◌, arith, if◌then◌else◌}
use Rattle.std.specs.Ordering.{nat_cmp}
use Rattle.std.specs.Option.{option_map_or}
use Rattle.std.specs.Cmp.{nat_cmp_total}
use Rattle.std.specs.FinMap as finmap
use Rattle.std.specs.FinMap.{nat_cmp-IsAntisymmetric, get-empty}
use Rattle.inode_table.specs.declared.seen.Kind.TheVariants.{Directory}
use Rattle.inode_table.specs.TableWorld.{HasNumbersBelow}
use Rattle.inode_table.specs.World.{World, File, root_number, look, opening_world, links, with_file, with_path}
use Rattle.inode_table.specs.World.{without_path, with_move, with_swap, with_content, without_file, without_lost}
use Rattle.inode_table.specs.World.{changed_at}
use Rattle.inode_table.proofs.SeenLemmas.{is_value}
use Rattle.tree_ops.proofs.Keys.{get-insert_either, get-remove_was}
use Rattle.tree_ops.specs.declared.call.TheConstants.{RENAME_EXCHANGE}
use Rattle.tree_ops.specs.declared.call.FileCall.{FileCall}
use Rattle.tree_ops.specs.declared.call.FileCall.TheVariants.{Create, Write, ReadFile, Truncate, Chmod, Mkdir, Link}
use Rattle.tree_ops.specs.declared.call.FileCall.TheVariants.{Unlink, Rmdir, Rename, Rename2, Stat as Status}
use Rattle.tree_ops.specs.declared.call.FileCall.TheVariants.{List as Listed}
use Rattle.tree_ops.specs.declared.call.Counts.{Counts}
use Rattle.tree_ops.specs.After.{after, after_unlink, after_rename, numbers_of}
use Rattle.tree_ops.specs.Refused.{are_same_seen}
use Rattle.tree_ops.proofs.Changed.{after_exchange}
use Rattle.tree_ops.proofs.WorldChanges.{content_by, changed_by}

-- the number of each file is below this one
abbrev Below : World → ℕ → Type 0
Below w next = (n : ℕ) (f : File) → finmap.get w.files n ≡ Some f → n < next

below-content : (w : World) (n : ℕ) (f : File) (next : ℕ) → Below w next → n < next → Below (with_content w n f) next
unfolding with_content
below-content w n f next h here m g e = elim (get-insert_either nat_cmp_total nat_cmp-IsAntisymmetric w.files n m f g e) [
  | inl same ↦ subst (λ x. x < next) (sym same) here
  | inr was ↦ h m g was
]

below-file : (w : World) (p : List (List ℕ)) (n : ℕ) (f : File) → Below w n → Below (with_file w p n f) (n + 1)
unfolding with_file
below-file w p n f h m g e = elim (get-insert_either nat_cmp_total nat_cmp-IsAntisymmetric w.files n m f g e) [
  | inl same ↦ omega arith
  | inr was ↦ let below : m < n = h m g was in omega arith
]

below-without : (w : World) (n next : ℕ) → Below w next → Below (without_file w n) next
unfolding without_file
below-without w n next h m g e = h m g (get-remove_was nat_cmp_total w.files n m g e)

below-lost : (w : World) (o : Option ℕ) (next : ℕ) → Below w next → Below (without_lost w o) next
unfolding without_lost
below-lost w None next h = h
below-lost w (Some n) next h = elim (links w n == 0) as (λ b. Below (if b then without_file w n else w) next) [ true ↦ below-without w n next h | false ↦ h ]

below-changed : (w : World) (p : List (List ℕ)) (change : File → File) (next : ℕ) → Below w next → Below (changed_at w p change) next
unfolding changed_at
below-changed w p change next h = by (finmap.get w.paths p)
  where
    at_file : (n : ℕ) (o : Option File) → finmap.get w.files n ≡ o → Below (content_by w change n o) next
    at_file n None e = h
    at_file n (Some f) e = below-content w n (change f) next h (h n f e)

    by : (o : Option ℕ) → Below (changed_by w change o) next
    by None = h
    by (Some n) = at_file n (finmap.get w.files n) refl

below-path : (w : World) (p : List (List ℕ)) (n next : ℕ) → Below w next → Below (with_path w p n) next
unfolding with_path
below-path w p n next h = h

below-linked : (w : World) (p : List (List ℕ)) (o : Option ℕ) (next : ℕ) → Below w next → Below (option_map_or (with_path w p) o w) next
below-linked w p None next h = h
below-linked w p (Some n) next h = below-path w p n next h

below-dropped : (w : World) (p : List (List ℕ)) (next : ℕ) → Below w next → Below (without_path w p) next
unfolding without_path
below-dropped w p next h = h

below-moved : (w : World) (old new : List (List ℕ)) (next : ℕ) → Below w next → Below (with_move w old new) next
unfolding with_move
below-moved w old new next h = h

below-unlink : (w : World) (p : List (List ℕ)) (next : ℕ) → Below w next → Below (after_unlink w p) next
below-unlink w p next h = below-lost (without_path w p) (finmap.get w.paths p) next (below-dropped w p next h)

below-rename : (w : World) (old new : List (List ℕ)) (next : ℕ) → Below w next → Below (after_rename w old new) next
unfolding after_rename
below-rename w old new next h =
    elim (are_same_seen (look w old) (look w new))
    as (λ b. Below (if b then w else without_lost (with_move w old new) (finmap.get w.paths new)) next) [
      | true ↦ h
      | false ↦ below-lost (with_move w old new) (finmap.get w.paths new) next (below-moved w old new next h)
    ]

below-swapped : (w : World) (old new : List (List ℕ)) (next : ℕ) → Below w next → Below (with_swap w old new) next
unfolding with_swap
below-swapped w old new next h = h

below-exchange : (w : World) (old new : List (List ℕ)) (next : ℕ) → Below w next → Below (after_exchange w old new) next
below-exchange w old new next h =
    elim (are_same_seen (look w old) (look w new)) as (λ b. Below (if b then w else with_swap w old new) next) [
      | true ↦ h
      | false ↦ below-swapped w old new next h
    ]

below-rename2 : (b : Bool) (w : World) (old new : List (List ℕ)) (next : ℕ) → Below w next
    → Below (if b then after_exchange w old new else after_rename w old new) next
below-rename2 true w old new next h = below-exchange w old new next h
below-rename2 false w old new next h = below-rename w old new next h

none : (w : World) (next : ℕ) → Below w next → Below w (next + 0)
none w next h n f e = omega (arith, h n f e)

below-after : (w : World) (counts : Counts) (call : FileCall) → Below w counts.next_number → Below (after w counts call) (counts.next_number + numbers_of call)
below-after w counts (Create p mode) h = below-file w p counts.next_number _ h
below-after w counts (Mkdir p mode) h = below-file w p counts.next_number _ h
below-after w counts (Write p offset bytes) h = none (after w counts (Write p offset bytes)) counts.next_number (below-changed w p _ counts.next_number h)
below-after w counts (ReadFile p offset count) h = none (after w counts (ReadFile p offset count)) counts.next_number h
below-after w counts (Truncate p len) h = none (after w counts (Truncate p len)) counts.next_number (below-changed w p _ counts.next_number h)
below-after w counts (Chmod p mode) h = none (after w counts (Chmod p mode)) counts.next_number (below-changed w p _ counts.next_number h)
below-after w counts (Link old new) h =
    none (after w counts (Link old new)) counts.next_number (below-linked w new (finmap.get w.paths old) counts.next_number h)
below-after w counts (Unlink p) h = none (after w counts (Unlink p)) counts.next_number (below-unlink w p counts.next_number h)
below-after w counts (Rmdir p) h = none (after w counts (Rmdir p)) counts.next_number (below-unlink w p counts.next_number h)
below-after w counts (Rename old new) h = none (after w counts (Rename old new)) counts.next_number (below-rename w old new counts.next_number h)
below-after w counts (Rename2 old new flags) h =
    none (after w counts (Rename2 old new flags)) counts.next_number (below-rename2 (flags == RENAME_EXCHANGE) w old new counts.next_number h)
below-after w counts (Status p) h = none (after w counts (Status p)) counts.next_number h
below-after w counts (Listed p) h = none (after w counts (Listed p)) counts.next_number h

pub numbers-after : (w : World) (counts : Counts) (call : FileCall) → HasNumbersBelow w counts.next_number
    → HasNumbersBelow (after w counts call) (counts.next_number + numbers_of call)
numbers-after w counts call h n there =
    let f = is_value (finmap.get (after w counts call).files n) there in
    below-after w counts call (λ m g e. h m (ap is_some e)) n f.0 f.1

-- the root alone has number 1
pub numbers-opening : HasNumbersBelow opening_world 2
unfolding opening_world
numbers-opening n there =
    let root : File = record { kind = Directory; mode = 493; bytes = [] } in
    let f = is_value (finmap.get opening_world.files n) there in
    elim (get-insert_either nat_cmp_total nat_cmp-IsAntisymmetric finmap.empty root_number n root f.0 f.1) [
      | inl same ↦ omega arith
      | inr was ↦ absurd (let clash : None ≡ Some f.0 = sym (get-empty nat_cmp n) ∙ was in cc)
    ]

-- the next number is free
pub next-free : (w : World) (next : ℕ) → HasNumbersBelow w next → finmap.get w.files next ≡ None
next-free w next below =
    elim (finmap.get w.files next) as (λ o. finmap.get w.files next ≡ o → o ≡ None) [
      | None ↦ λ _. refl
      | Some f ↦ λ e. let less : next < next = below next (ap is_some e) in absurd (omega arith)
    ] refl
