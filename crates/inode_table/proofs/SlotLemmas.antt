-- What the slots of remembered directories hold.
use Rattle.std.proofs.Common.{◌≡◌, ◌⊎◌, ◌<◌, ◌+◌, ℕ, zero, suc, Bool, true, false, not, cond, eqb, List, [], ◌∷◌, Option, Some, None}
use Rattle.std.proofs.Common.{length, take, replicate}
use Rattle.std.proofs.Common.{refl, sym, ap, subst, ◌∙◌, inl, inr, get_or, arith}
use Rattle.std.specs.Prelude.{slice_get, slice_set}
use Rattle.std.specs.Option.{option_map}
use Rattle.std.proofs.lemmas.Option.{slice_get-map, slice_get-get_or}
use lib.Pointwise.{pointwise, bytes_decides}
use borrow.Author.Tests.{eqb-true, eq-eqb}
use Rattle.tree_paths.specs.Paths.{names_of}
use Rattle.inode_table.specs.declared.recent_directory.Slot.{Slot}
use Rattle.inode_table.specs.Rows.{Label}
use Rattle.inode_table.specs.Recent.{Known, IsKnown, IsRecent, known_in, known_of}
use Rattle.inode_table.proofs.TreeLemmas.{some_none, same_some}

pub get-set : {A : Type 0} (xs : List A) (i j : ℕ) (v y : A) → slice_get (slice_set xs i v) j ≡ Some y → (slice_get xs j ≡ Some y) ⊎ (y ≡ v)
get-set [] i j v y e = inl e
get-set (x ∷ xs) zero zero v y e = inr (sym (same_some _ _ e))
get-set (x ∷ xs) zero (suc j) v y e = inl e
get-set (x ∷ xs) (suc i) zero v y e = inl e
get-set (x ∷ xs) (suc i) (suc j) v y e = get-set xs i j v y e

pub get-replicate : {A : Type 0} (n i : ℕ) (x y : A) → slice_get (replicate n x) i ≡ Some y → y ≡ x
get-replicate zero i x y e = absurd (some_none refl e)
get-replicate (suc n) zero x y e = sym (same_some _ _ e)
get-replicate (suc n) (suc i) x y e = get-replicate n i x y e

-- the slot of a directory that is remembered
pub record IsSlotOf (time : ℕ) (slots : List Slot) (i : ℕ) (p : List Label) (k : ℕ) : Type 0 where
  pub slot : Slot
  pub there : slice_get slots i ≡ Some slot
  pub time_is : slot.time ≡ time
  pub path : p ≡ names_of (take slot.len slot.text)
  pub key : k ≡ slot.key

one-known : (time : ℕ) (s : Slot) (p : List Label) (k : ℕ) → known_in time s ≡ Some (p, k)
    → (s.time ≡ time) × (p ≡ names_of (take s.len s.text)) × (k ≡ s.key)
one-known time s p k e =
    let whole : Known = (names_of (take s.len s.text), s.key) in
    let pair : Known = (p, k) in
    elim (eqb s.time time) as (λ b. eqb s.time time ≡ b → cond b (Some whole) None ≡ Some pair
    → (s.time ≡ time) × (p ≡ names_of (take s.len s.text)) × (k ≡ s.key)) [
      | true ↦ λ is f. let same : whole ≡ pair = same_some whole pair f in
          (eqb-true s.time time is, sym (ap (λ (q : Known). q.0) same), sym (ap (λ (q : Known). q.1) same))
      | false ↦ λ is f. absurd (some_none refl f)
    ] refl e

pub slot-of : (time : ℕ) (slots : List Slot) (i : ℕ) (p : List Label) (k : ℕ) → slice_get (known_of time slots) i ≡ Some (Some (p, k))
    → IsSlotOf time slots i p k
slot-of time slots i p k e =
    let pair : Option Known = Some (p, k) in
    elim (slice_get slots i) as (λ o. slice_get slots i ≡ o → option_map (known_in time) o ≡ Some pair → IsSlotOf time slots i p k) [
      | None ↦ λ is f. absurd (some_none refl f)
      | Some s ↦ λ is f.
          let h = one-known time s p k (same_some (known_in time s) pair f) in
          record { slot = s; there = is; time_is = h.0; path = h.1; key = h.2 }
    ] refl (sym (slice_get-map (known_in time) slots i) ∙ e)

pub known-slot : (time : ℕ) (slots : List Slot) (i : ℕ) (s : Slot) → slice_get slots i ≡ Some s → s.time ≡ time
    → IsKnown (known_of time slots) (names_of (take s.len s.text)) s.key
known-slot time slots i s there is =
    let whole : Known = (names_of (take s.len s.text), s.key) in (
      i,
      slice_get-map (known_in time) slots i ∙ ap (option_map (known_in time)) there
          ∙ ap (λ b. Some (cond b (Some whole) None)) (eq-eqb s.time time is),
    )

-- the slot with a text
pub find-known : (time : ℕ) (slots : List Slot) (i : ℕ) (s : Slot) (text : List ℕ) → i < length slots → s ≡ get_or slots i s → s.time ≡ time
    → s.len ≡ length text → false ≡ not (pointwise eqb (take (length text) s.text) text) → IsKnown (known_of time slots) (names_of text) s.key
find-known time slots i s text within is now len same =
    let text_is : take s.len s.text ≡ text =
    ap (λ n. take n s.text) len ∙ (bytes_decides (take (length text) s.text) text).0 (of-not (pointwise eqb (take (length text) s.text) text) same) in
    subst (λ (q : List ℕ). IsKnown (known_of time slots) (names_of q) s.key) text_is
    (known-slot time slots i s (slice_get-get_or slots i s within ∙ ap Some (sym is)) now)
  where
    of-not : (b : Bool) → false ≡ not b → b ≡ true
    of-not true e = refl
    of-not false e = absurd (cc)

-- nothing is remembered of a time that has not come
pub later-none : (time : ℕ) (slots : List Slot) → IsRecent time slots → (p : List Label) (k : ℕ) → IsKnown (known_of (time + 1) slots) p k → ⊥
later-none time slots recent p k at =
    let s = slot-of (time + 1) slots at.0 p k at.1 in
    let le = recent.earlier at.0 s.slot s.there in
    let is = s.time_is in
    omega (arith, le, is)

pub IsRecent-later : (time : ℕ) (slots : List Slot) → IsRecent time slots → IsRecent (time + 1) slots
IsRecent-later time slots recent =
    record {
      begun = let le = recent.begun in omega (arith, le);
      earlier = λ i s e. let le = recent.earlier i s e in omega (arith, le);
    }

-- nothing is remembered in slots of a time before the first
pub blank-none : (n : ℕ) (blank : Slot) (slots : List Slot) → slots ≡ replicate n blank → blank.time ≡ 0 → (p : List Label) (k : ℕ)
    → IsKnown (known_of 1 slots) p k → ⊥
blank-none n blank slots are before p k at =
    let s = slot-of 1 slots at.0 p k at.1 in
    let is : s.slot ≡ blank = get-replicate n at.0 blank s.slot (sym (ap (λ l. slice_get l at.0) are) ∙ s.there) in
    let zero_is_one : 0 ≡ 1 = sym before ∙ sym (ap (λ (q : Slot). q.time) is) ∙ s.time_is in
    omega (arith, zero_is_one)

pub IsRecent-blank : (n : ℕ) (blank : Slot) (slots : List Slot) → slots ≡ replicate n blank → blank.time ≡ 0 → IsRecent 1 slots
IsRecent-blank n blank slots are before =
    record {
      begun = omega arith;
      earlier = λ i s e.
          let is : s ≡ blank = get-replicate n i blank s (sym (ap (λ l. slice_get l i) are) ∙ e) in
          let time_is : s.time ≡ 0 = ap (λ (q : Slot). q.time) is ∙ before in omega (arith, time_is);
    }

-- a slot is written
pub put-known : (time : ℕ) (slots : List Slot) (i : ℕ) (new : Slot) (p : List Label) (k : ℕ) → IsKnown (known_of time (slice_set slots i new)) p k
    → IsKnown (known_of time slots) p k ⊎ ((p ≡ names_of (take new.len new.text)) × (k ≡ new.key))
put-known time slots i new p k at =
    let s = slot-of time (slice_set slots i new) at.0 p k at.1 in
    elim (get-set slots i at.0 new s.slot s.there) [
      | inl old ↦
          let known = known-slot time slots at.0 s.slot old s.time_is in
          inl (subst (λ (q : Known). IsKnown (known_of time slots) q.0 q.1) (λ j. (sym s.path j, sym s.key j)) known)
      | inr is ↦
          inr (s.path ∙ ap (λ (q : Slot). names_of (take q.len q.text)) is, s.key ∙ ap (λ (q : Slot). q.key) is)
    ]
