-- What is known where no row holds.
use Rattle.std.proofs.Common.{◌≡◌, ◌≢◌, ◌==◌, ◌+◌, ◌++◌, ◌&&◌, ◌||◌, nat_lt, ℕ, length, Bool, true, false, not, List}
use Rattle.std.proofs.Common.{[], ◌∷◌, Option, Some, None, is_some, refl, sym, ap, ◌∙◌, if◌then◌else◌}
use Rattle.std.proofs.lemmas.Bool.{eqb-true}
use Rattle.tree_paths.specs.declared.refusal.Refusal.{Refusal}
use Rattle.tree_paths.specs.declared.refusal.Refusal.TheVariants.{Enoent, Enotdir, Eperm, Ebusy, Eexist, Eisdir, Einval, Efbig, Emlink, Enotempty}
use Rattle.tree_paths.specs.declared.limits.Limits.{Limits}
use Rattle.inode_table.specs.declared.seen.Seen.{Seen}
use Rattle.tree_paths.specs.Paths.{is_below}
use Rattle.tree_ops.specs.declared.call.TheConstants.{RENAME_EXCHANGE, RENAME_NOREPLACE}
use Rattle.tree_ops.specs.declared.call.Counts.{Counts}
use Rattle.tree_ops.specs.Refused.{has_names_seen, links_seen, are_same_seen, make_rows, write_rows, read_rows}
use Rattle.tree_ops.specs.Refused.{truncate_rows, chmod_rows, link_rows, unlink_rows, rmdir_rows, move_rows}
use Rattle.tree_ops.specs.Refused.{rename_rows, noreplace_rows, swap_rows, exchange_rows, rename2_rows}
use Rattle.tree_ops.specs.Refused.{list_rows}
use Rattle.tree_paths.specs.Rows.{row, first_row}
use Rattle.inode_table.specs.Refusals.{Look, find, parent, parent_of, is_directory_seen, longest_there}

pub no-row : (o : Option Refusal) (rows : List (Option Refusal)) → first_row (o ∷ rows) ≡ None → (o ≡ None) × (first_row rows ≡ None)
no-row None rows e = (refl, e)
no-row (Some r) rows e = absurd (cc)

-- none of the rows holds
abbrev pub Each : List (Option Refusal) → Type 0
Each [] = Unit {0}
Each (o ∷ rows) = (o ≡ None) × Each rows

pub each-none : (rows : List (Option Refusal)) → first_row rows ≡ None → Each rows
each-none [] e = tt
each-none (o ∷ rows) e = let w = no-row o rows e in (w.0, each-none rows w.1)

pub row-false : (b : Bool) (r : Refusal) → row b r ≡ None → b ≡ false
row-false true r e = absurd (cc)
row-false false r e = refl

pub found-some : (at : Look) (p : List (List ℕ)) → find at p ≡ None → is_some (at p) ≡ true
unfolding find
found-some at p e =
    elim (is_some (at p)) as (λ b.
    (if b then None else (if is_directory_seen (at (longest_there at p (length p))) then Some Enoent else Some Enotdir)) ≡ None → b ≡ true) [
      | true ↦ λ _. refl
      | false ↦ λ f. by (is_directory_seen (at (longest_there at p (length p)))) f
    ] e
  where
    by : (c : Bool) → (if c then Some Enoent else Some Enotdir) ≡ None → false ≡ true
    by true f = absurd (cc)
    by false f = absurd (cc)

not-false : (b : Bool) → not b ≡ false → b ≡ true
not-false true e = refl
not-false false e = absurd (cc)

pub parent-directory : (at : Look) (p : List (List ℕ)) → parent at p ≡ None → is_directory_seen (at (parent_of p)) ≡ true
unfolding parent
parent-directory at p e = not-false _ (row-false _ Enotdir (no-row _ [] (no-row (find at (parent_of p)) _ e).1).0)

pub is_some-none : {A : Type 0} (o : Option A) → is_some o ≡ false → o ≡ None
is_some-none None e = refl
is_some-none (Some x) e = absurd (cc)

-- ---- what is known of each call that no row refuses

not-true : (b : Bool) → not b ≡ true → b ≡ false
not-true true e = absurd (cc)
not-true false e = refl

named-by : (p : List (List ℕ)) → (length p == 0) ≡ false → p ≢ []
named-by [] e is = absurd (let f : (length {A = List ℕ} [] == 0) ≡ true = refl in cc)
named-by (l ∷ p) e is = cc

neither : (a b : Bool) → (a || b) ≡ false → (a ≡ false) × (b ≡ false)
neither true b e = absurd (cc)
neither false b e = (refl, e)

pub record MakeKnown (at : Look) (p : List (List ℕ)) : Type 0 where
  pub directory : is_directory_seen (at (parent_of p)) ≡ true
  pub free : at p ≡ None
  pub named : p ≢ []

pub make-known : (at : Look) (limits : Limits) (counts : Counts) (p : List (List ℕ)) (mode : ℕ)
    → first_row (make_rows at limits counts p mode) ≡ None → MakeKnown at p
unfolding make_rows
make-known at limits counts p mode e =
    let h = each-none (make_rows at limits counts p mode) e in
    record {
      directory = parent-directory at p h.1.1.0;
      free = is_some-none (at p) (row-false (is_some (at p)) Eexist h.1.1.1.0);
      named = named-by p (row-false (length p == 0) Eexist h.1.0);
    }

-- a regular file is there
pub record FileKnown (at : Look) (p : List (List ℕ)) : Type 0 where
  pub there : is_some (at p) ≡ true
  pub regular : is_directory_seen (at p) ≡ false

file-known : (at : Look) (p : List (List ℕ)) (r : Refusal) (rows : List (Option Refusal))
    → first_row (find at p ∷ row (is_directory_seen (at p)) r ∷ rows) ≡ None → FileKnown at p
file-known at p r rows e =
    let h = each-none (find at p ∷ row (is_directory_seen (at p)) r ∷ rows) e in
    record { there = found-some at p h.0; regular = row-false (is_directory_seen (at p)) r h.1.0 }

pub write-known : (at : Look) (limits : Limits) (p : List (List ℕ)) (offset count : ℕ) → first_row (write_rows at limits p offset count) ≡ None
    → FileKnown at p × ((nat_lt 0 count && nat_lt limits.file_bytes (offset + count)) ≡ false)
unfolding write_rows
write-known at limits p offset count e =
    let big = nat_lt 0 count && nat_lt limits.file_bytes (offset + count) in
    let h = each-none (write_rows at limits p offset count) e in
    (file-known at p Eisdir (row big Efbig ∷ []) e, row-false big Efbig h.1.1.0)

pub read-known : (at : Look) (p : List (List ℕ)) → first_row (read_rows at p) ≡ None → FileKnown at p
unfolding read_rows
read-known at p e = file-known at p Eisdir [] e

pub truncate-known : (at : Look) (limits : Limits) (p : List (List ℕ)) (len : ℕ) → first_row (truncate_rows at limits p len) ≡ None → FileKnown at p
unfolding truncate_rows
truncate-known at limits p len e = file-known at p Eisdir (row (nat_lt limits.file_bytes len) Efbig ∷ []) e

pub unlink-known : (at : Look) (p : List (List ℕ)) → first_row (unlink_rows at p) ≡ None → FileKnown at p
unfolding unlink_rows
unlink-known at p e = file-known at p Eperm [] e

pub chmod-known : (at : Look) (p : List (List ℕ)) (mode : ℕ) → first_row (chmod_rows at p mode) ≡ None → is_some (at p) ≡ true
unfolding chmod_rows
chmod-known at p mode e = found-some at p (each-none (chmod_rows at p mode) e).1.0

pub find-known : (at : Look) (p : List (List ℕ)) → first_row (find at p ∷ []) ≡ None → is_some (at p) ≡ true
find-known at p e = found-some at p (each-none (find at p ∷ []) e).0

pub record LinkKnown (at : Look) (limits : Limits) (old new : List (List ℕ)) : Type 0 where
  pub file : FileKnown at old
  pub directory : is_directory_seen (at (parent_of new)) ≡ true
  pub free : at new ≡ None
  pub named : new ≢ []
  pub links : nat_lt (links_seen (at old)) limits.links ≡ true

pub link-known : (at : Look) (limits : Limits) (old new : List (List ℕ)) → first_row (link_rows at limits old new) ≡ None → LinkKnown at limits old new
unfolding link_rows
link-known at limits old new e =
    let h = each-none (link_rows at limits old new) e in
    record {
      file = record { there = found-some at old h.0; regular = row-false (is_directory_seen (at old)) Eperm h.1.0 };
      directory = parent-directory at new h.1.1.1.0;
      free = is_some-none (at new) (row-false (is_some (at new)) Eexist h.1.1.1.1.0);
      named = named-by new (row-false (length new == 0) Eexist h.1.1.0);
      links = not-false (nat_lt (links_seen (at old)) limits.links) (row-false (not (nat_lt (links_seen (at old)) limits.links)) Emlink h.1.1.1.1.1.0);
    }

pub record RmdirKnown (at : Look) (p : List (List ℕ)) : Type 0 where
  pub named : p ≢ []
  pub there : is_some (at p) ≡ true
  pub empty : has_names_seen (at p) ≡ false

pub rmdir-known : (at : Look) (p : List (List ℕ)) → first_row (rmdir_rows at p) ≡ None → RmdirKnown at p
unfolding rmdir_rows
rmdir-known at p e =
    let h = each-none (rmdir_rows at p) e in
    record {
      named = named-by p (row-false (length p == 0) Ebusy h.0);
      there = found-some at p h.1.0;
      empty = row-false (has_names_seen (at p)) Enotempty h.1.1.1.0;
    }

pub record RenameKnown (at : Look) (old new : List (List ℕ)) : Type 0 where
  pub named : old ≢ []
  pub other_named : new ≢ []
  pub there : is_some (at old) ≡ true
  pub below : (is_directory_seen (at old) && is_below new old) ≡ false
  pub directory : is_directory_seen (at (parent_of new)) ≡ true
  pub empty : are_same_seen (at old) (at new) ≡ false → has_names_seen (at new) ≡ false

move-empty : (limits : Limits) (counts : Counts) (old new : Option Seen) → first_row (move_rows limits counts old new) ≡ None → has_names_seen new ≡ false
unfolding move_rows
move-empty limits counts old new e = row-false (has_names_seen new) Enotempty (each-none (move_rows limits counts old new) e).1.1.0

pub rename-known : (at : Look) (limits : Limits) (counts : Counts) (old new : List (List ℕ))
    → first_row (rename_rows at limits counts old new) ≡ None → RenameKnown at old new
unfolding rename_rows
rename-known at limits counts old new e =
    let last = if are_same_seen (at old) (at new) then [] else move_rows limits counts (at old) (at new) in
    let a = no-row (row ((length old == 0) || (length new == 0)) Ebusy)
    (find at old ∷ row (is_directory_seen (at old) && is_below new old) Einval ∷ parent at new ∷ last) e in
    let b = no-row (find at old) (row (is_directory_seen (at old) && is_below new old) Einval ∷ parent at new ∷ last) a.1 in
    let c = no-row (row (is_directory_seen (at old) && is_below new old) Einval) (parent at new ∷ last) b.1 in
    let d = no-row (parent at new) last c.1 in
    let names = neither (length old == 0) (length new == 0) (row-false ((length old == 0) || (length new == 0)) Ebusy a.0) in
    record {
      named = named-by old names.0;
      other_named = named-by new names.1;
      there = found-some at old b.0;
      below = row-false (is_directory_seen (at old) && is_below new old) Einval c.0;
      directory = parent-directory at new d.0;
      empty = λ f. move-empty limits counts (at old) (at new) (ap (λ b. first_row (if b then [] else move_rows limits counts (at old) (at new))) (sym f) ∙ d.1);
    }

-- what is known where nothing stands at the new path
noreplace-known : (at : Look) (limits : Limits) (counts : Counts) (old new : List (List ℕ))
    → first_row (noreplace_rows at limits counts old new) ≡ None → RenameKnown at old new
unfolding noreplace_rows
noreplace-known at limits counts old new e =
    let h = each-none (noreplace_rows at limits counts old new) e in
    let names = neither (length old == 0) (length new == 0) (row-false ((length old == 0) || (length new == 0)) Ebusy h.0) in
    record {
      named = named-by old names.0;
      other_named = named-by new names.1;
      there = found-some at old h.1.0;
      below = row-false (is_directory_seen (at old) && is_below new old) Einval h.1.1.0;
      directory = parent-directory at new h.1.1.1.0;
      empty = λ _. ap has_names_seen (is_some-none (at new) (row-false (is_some (at new)) Eexist h.1.1.1.1.0));
    }

pub record ExchangeKnown (at : Look) (old new : List (List ℕ)) : Type 0 where
  pub named : old ≢ []
  pub other_named : new ≢ []
  pub there : is_some (at old) ≡ true
  pub other_there : is_some (at new) ≡ true
  pub below : are_same_seen (at old) (at new) ≡ false → (is_directory_seen (at old) && is_below new old) ≡ false
  pub above : are_same_seen (at old) (at new) ≡ false → (is_directory_seen (at new) && is_below old new) ≡ false

swap-apart : (limits : Limits) (counts : Counts) (old new : List (List ℕ)) (one other : Option Seen)
    → first_row (swap_rows limits counts old new one other) ≡ None
    → ((is_directory_seen one && is_below new old) ≡ false) × ((is_directory_seen other && is_below old new) ≡ false)
unfolding swap_rows
swap-apart limits counts old new one other e =
    neither (is_directory_seen one && is_below new old) (is_directory_seen other && is_below old new)
    (row-false _ Einval (each-none (swap_rows limits counts old new one other) e).0)

exchanged-known : (at : Look) (limits : Limits) (counts : Counts) (old new : List (List ℕ))
    → first_row (exchange_rows at limits counts old new) ≡ None → ExchangeKnown at old new
unfolding exchange_rows
exchanged-known at limits counts old new e =
    let last = if are_same_seen (at old) (at new) then [] else swap_rows limits counts old new (at old) (at new) in
    let a = no-row (row ((length old == 0) || (length new == 0)) Ebusy) (find at old ∷ find at new ∷ last) e in
    let b = no-row (find at old) (find at new ∷ last) a.1 in
    let c = no-row (find at new) last b.1 in
    let names = neither (length old == 0) (length new == 0) (row-false ((length old == 0) || (length new == 0)) Ebusy a.0) in
    let apart : are_same_seen (at old) (at new) ≡ false
    → ((is_directory_seen (at old) && is_below new old) ≡ false) × ((is_directory_seen (at new) && is_below old new) ≡ false) =
    λ f. swap-apart limits counts old new (at old) (at new)
    (ap (λ b. first_row (if b then [] else swap_rows limits counts old new (at old) (at new))) (sym f) ∙ c.1) in
    record {
      named = named-by old names.0;
      other_named = named-by new names.1;
      there = found-some at old b.0;
      other_there = found-some at new c.0;
      below = λ f. (apart f).0;
      above = λ f. (apart f).1;
    }

module _ (at : Look) (limits : Limits) (counts : Counts) (old new : List (List ℕ)) where
  -- the rows by what the tests of the flags say
  abbrev rows_if : Bool → Bool → Bool → List (Option Refusal)
  rows_if none noreplace exchange =
      if none then rename_rows at limits counts old new
      else if noreplace then noreplace_rows at limits counts old new
      else if exchange then exchange_rows at limits counts old new
      else Some Einval ∷ []

  moves-if : (none noreplace exchange : Bool) → first_row (rows_if none noreplace exchange) ≡ None → exchange ≡ false → RenameKnown at old new
  moves-if true noreplace exchange e off = rename-known at limits counts old new e
  moves-if false true exchange e off = noreplace-known at limits counts old new e
  moves-if false false true e off = absurd (cc)
  moves-if false false false e off = absurd (cc)

  -- a rename by flags that is no exchange
  pub move-known : (flags : ℕ) → first_row (rename2_rows at limits counts old new flags) ≡ None → (flags == RENAME_EXCHANGE) ≡ false → RenameKnown at old new
  unfolding rename2_rows
  move-known flags e off = moves-if (flags == 0) (flags == RENAME_NOREPLACE) (flags == RENAME_EXCHANGE) e off

  -- an exchange
  pub exchange-known : (flags : ℕ) → first_row (rename2_rows at limits counts old new flags) ≡ None
      → (flags == RENAME_EXCHANGE) ≡ true → ExchangeKnown at old new
  unfolding rename2_rows
  exchange-known flags e is =
      let two : flags ≡ RENAME_EXCHANGE = eqb-true flags RENAME_EXCHANGE is in
      exchanged-known at limits counts old new (sym (ap (λ (n : ℕ). first_row (rows_if (n == 0) (n == RENAME_NOREPLACE) (n == RENAME_EXCHANGE))) two) ∙ e)

pub record ListKnown (at : Look) (p : List (List ℕ)) : Type 0 where
  pub there : is_some (at p) ≡ true
  pub directory : is_directory_seen (at p) ≡ true

pub list-known : (at : Look) (p : List (List ℕ)) → first_row (list_rows at p) ≡ None → ListKnown at p
unfolding list_rows
list-known at p e =
    let h = each-none (list_rows at p) e in
    record { there = found-some at p h.0; directory = not-false (is_directory_seen (at p)) (row-false (not (is_directory_seen (at p))) Enotdir h.1.0) }

-- ---- rows behind other rows

pub first-passes : (rows more : List (Option Refusal)) → first_row rows ≡ None → first_row (rows ++ more) ≡ first_row more
first-passes [] more e = refl
first-passes (None ∷ rows) more e = first-passes rows more e
first-passes (Some r ∷ rows) more e = absurd (cc)

pub first-refuses : (rows more : List (Option Refusal)) (r : Refusal) → first_row rows ≡ Some r → first_row (rows ++ more) ≡ Some r
first-refuses [] more r e = absurd (cc)
first-refuses (None ∷ rows) more r e = first-refuses rows more r e
first-refuses (Some s ∷ rows) more r e = e
