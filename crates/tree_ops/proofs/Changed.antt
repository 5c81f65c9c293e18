-- Changes of one file, and paths of one file.
use Rattle.std.proofs.Common.{◌≡◌, ◌≢◌, ◌==◌, ℕ, List, [], true, false, Option, Some, None, IsSome, IfSome, is_some, refl, sym, ap, ◌∙◌, subst, if◌then◌else◌}
use borrow.Author.Tests.{eq-eqb}
use Rattle.std.specs.Option.{option_map, IsSomeAnd, unwrap_or}
use Rattle.std.specs.FinMap as finmap
use Rattle.inode_table.specs.World.{World, IsWorld, look, File, file_at, with_move, with_swap, without_lost}
use Rattle.inode_table.specs.declared.seen.Seen.{Seen}
use Rattle.inode_table.proofs.SeenLemmas.{is_value}
use Rattle.inode_table.proofs.MapLemmas.{keys-none}
use Rattle.inode_table.proofs.PathLemmas.{is_below-false}
use Rattle.inode_table.proofs.WorldLemmas.{has_names, path_total, path_exact}
use Rattle.tree_paths.specs.Paths.{is_below}
use Rattle.tree_ops.proofs.Worlds.{standing, regular-seen, seen-directory}
use Rattle.tree_ops.specs.Refused.{are_same_seen, has_names_seen}
use Rattle.inode_table.specs.Refusals.{Look, is_directory_seen}
use Rattle.tree_ops.specs.After.{after_rename, bytes_at}

pub all-some : {A : Type 0} (P Q : A → Type 0) (o : Option A) → ((x : A) → P x → Q x) → IsSomeAnd o P → IfSome o Q
all-some P Q None f h = absurd h
all-some P Q (Some x) f h = f x h

pub bytes-of : (w : World) (p : List (List ℕ)) (bytes : List ℕ) → IsSomeAnd (file_at w p) (λ f. f.bytes ≡ bytes) → bytes_at w p ≡ bytes
bytes-of w p bytes h = by (file_at w p) h
  where
    by : (o : Option File) → IsSomeAnd o (λ f. f.bytes ≡ bytes) → unwrap_or (option_map (λ (f : File). f.bytes) o) [] ≡ bytes
    by None h = absurd h
    by (Some f) h = h

-- what an exchange leaves
abbrev pub after_exchange : World → List (List ℕ) → List (List ℕ) → World
after_exchange w old new = if are_same_seen (look w old) (look w new) then w else with_swap w old new

pub renamed-nothing : (w : World) → IsWorld w → (old new : List (List ℕ)) → are_same_seen (look w old) (look w new) ≡ true → after_rename w old new ≡ w
unfolding after_rename
renamed-nothing w is old new e = ap (λ b. if b then w else without_lost (with_move w old new) (finmap.get w.paths new)) e

pub renamed-moved : (w : World) → IsWorld w → (old new : List (List ℕ)) → are_same_seen (look w old) (look w new) ≡ false
    → after_rename w old new ≡ without_lost (with_move w old new) (finmap.get w.paths new)
unfolding after_rename
renamed-moved w is old new e = ap (λ b. if b then w else without_lost (with_move w old new) (finmap.get w.paths new)) e

pub exchanged-nothing : (w : World) → IsWorld w → (old new : List (List ℕ)) → are_same_seen (look w old) (look w new) ≡ true → after_exchange w old new ≡ w
exchanged-nothing w is old new e = ap (λ b. if b then w else with_swap w old new) e

pub exchanged-swapped : (w : World) → IsWorld w → (old new : List (List ℕ)) → are_same_seen (look w old) (look w new) ≡ false
    → after_exchange w old new ≡ with_swap w old new
exchanged-swapped w is old new e = ap (λ b. if b then w else with_swap w old new) e

-- files that differ stand at paths that differ
pub other-paths : (at : Look) (old new : List (List ℕ)) → IsSome (at old) → are_same_seen (at old) (at new) ≡ false → old ≢ new
other-paths at old new there off same = by (at old) there (ap (λ p. are_same_seen (at old) (at p)) same ∙ off)
  where
    by : (o : Option Seen) → IsSome o → are_same_seen o o ≡ false → ⊥
    by None there e = absurd (cc)
    by (Some s) there e = let itself : (s.number == s.number) ≡ true = eq-eqb s.number s.number refl in let clash : true ≡ false = sym itself ∙ e in cc

-- ---- what is no directory

nameless : (w : World) → IsWorld w → (p : List (List ℕ)) → is_directory_seen (look w p) ≡ false → has_names w p ≡ false
nameless w is p regular =
    keys-none path_total path_exact (λ q. is_below q p) w.paths
    (λ q found. is_below-false p q (λ l s e. regular-seen w p regular (is.fronts p l s (ap (λ x. is_some (finmap.get w.paths x)) (sym e) ∙ found))))

pub nameless-seen : (w : World) → IsWorld w → (p : List (List ℕ)) → IsSome (look w p) → is_directory_seen (look w p) ≡ false
    → IsSomeAnd (look w p) (λ (s : Seen). s.has_names ≡ false)
nameless-seen w is p there regular =
    let s = is_value (look w p) there in
    let at = standing w p s.0 s.1 in
    subst (λ o. IsSomeAnd o (λ (r : Seen). r.has_names ≡ false)) (sym s.1) (ap (λ (r : Seen). r.has_names) (sym at.seen) ∙ nameless w is p regular)

pub regular-named : (w : World) → IsWorld w → (p : List (List ℕ)) → is_directory_seen (look w p) ≡ false → p ≢ []
regular-named w is p regular e =
    let yes : is_directory_seen (look w p) ≡ true = ap (λ q. is_directory_seen (look w q)) e ∙ seen-directory w [] is.root_directory in
    let clash : true ≡ false = sym yes ∙ regular in cc

pub empty-seen : (o : Option Seen) → IsSome o → has_names_seen o ≡ false → IsSomeAnd o (λ s. s.has_names ≡ false)
empty-seen None there e = absurd (cc)
empty-seen (Some s) there e = e
