-- How bytes are cut into pieces.
use Rattle.std.proofs.Common.{◌≡◌, ◌≢◌, ◌==◌, ℕ, ◌+◌, ◌-◌, ◌≤◌, ◌<◌, Bool, true, false, not, cond}
use Rattle.std.proofs.Common.{lt-ltb, ltb}
use Rattle.std.proofs.Common.{List, [], ◌∷◌, Option, Some, None, is_some, refl, sym, ap, subst, ◌∙◌, length, take, drop, get_or, arith, length-drop}
use Rattle.std.specs.List.{list_any, position, position_or_len, prefix_len}
use Rattle.std.proofs.lemmas.Bool.Decides.{nat_tests}
use Rattle.std.proofs.lemmas.Bool.{false≢true}
use Rattle.std.proofs.lemmas.List.{length-take-le, take_all}
use Rattle.std.proofs.lemmas.List.Elements.{All-from_get_or}
use Rattle.std.proofs.lemmas.List.Folds.{list_any_at, list_any_none}
use Rattle.std.proofs.lemmas.List.Quantifiers.{position-Some}
use Rattle.std.proofs.lemmas.List.Splits.{length-slice_split, slice_split_first, slice_split_none}
use Rattle.std.proofs.lemmas.List.Sums.{count_by-le-length, fails_before_first, position_or_len_is}
use Rattle.std.proofs.lemmas.Simd.{run_in_chunk_fails, run_in_chunk_le, run_in_chunk_stops, trailing_mask_l}
use lib.Count.{count_trailing_zeros}
use lib.Lanes.{chunk}
use Rattle.memchr.specs.Find.{IsFirstByte, is_byte}
use Rattle.tree_paths.specs.Pieces.{pieces}
use Rattle.tree_paths.proofs.MaskLemmas.{none-set}
use Rattle.watchtree_script.specs.Reading.{separators_in}

-- what a slice from an index on is
pub from-index : (k : ℕ) (bs : List ℕ) → take (length bs - k) (drop k bs) ≡ drop k bs
from-index k bs = take_all (length bs - k) (drop k bs) (omega (arith, length-drop k bs))

-- there is one piece more than there are separators
pub length-pieces-le : (s : ℕ) (bs : List ℕ) → length (pieces s bs) ≤ length bs + 1
length-pieces-le s bs = omega (arith, length-slice_split (λ b. b == s) bs, count_by-le-length (λ b. b == s) bs)

-- the first piece ends at the first separator
pub pieces-at : (s : ℕ) (bs : List ℕ) (at : ℕ) → position (λ b. b == s) bs ≡ Some at → pieces s bs ≡ take at bs ∷ pieces s (drop (at + 1) bs)
pieces-at s bs at h =
    let p : ℕ → Bool = λ b. b == s in
    let found = position-Some p bs at 0 h in
    let here : position_or_len p bs ≡ at = position_or_len_is p bs at 0 (omega arith) found.2 (λ _. found.1) in
    rw here at (slice_split_first p bs 0 (omega arith))

absent : (t : Bool) (n : ℕ) → cond t (Some n) None ≡ None → t ≡ false
absent true n h = cc
absent false n h = refl

-- where no separator is there, all is one piece
pub pieces-none : (s : ℕ) (bs : List ℕ) → position (λ b. b == s) bs ≡ None → pieces s bs ≡ bs ∷ []
pieces-none s bs h =
    let p : ℕ → Bool = λ b. b == s in
    let past = absent (ltb (position_or_len p bs) (length bs)) (position_or_len p bs) h in
    slice_split_none p bs (All-from_get_or (λ x. p x ≡ false) bs 0 (λ k below. fails_before_first p bs k 0 (grind (arith, nat_tests))))

-- ---- the first separator of a block

-- it is at the lowest bit
pub first-separator : (s : ℕ) (bs : List ℕ) (at : ℕ) → 16 ≤ length bs → 0 < separators_in s (take 16 bs)
    → at ≡ count_trailing_zeros 64 (separators_in s (take 16 bs)) → Some at ≡ position (λ b. b == s) bs
first-separator s bs at long some is =
    let p : ℕ → Bool = λ b. b == s in
    let size : length (take 16 bs) ≡ 16 = length-take-le 16 bs long in
    let room : 0 + 16 ≤ length bs = omega (arith, long) in
    let counted : at ≡ prefix_len (λ b. not (p b)) (chunk 0 16 bs) = is ∙ trailing_mask_l p 64 (take 16 bs) (omega (arith, size)) some in
    let le = run_in_chunk_le p bs 0 16 at 0 room counted in
    let ne : at ≢ 16 = λ e. let none = none-set p (take 16 bs) (sym counted ∙ e ∙ sym size) in omega (arith, some, none) in
    let early : at < 16 = omega (arith, le, ne) in
    let within : at < length bs = omega (arith, early, long) in
    let start : 0 + at ≡ at = omega arith in
    let here : position_or_len p bs ≡ at =
    position_or_len_is p bs at 0 (omega (arith, within)) (λ k lt. run_in_chunk_fails p bs 0 16 at 0 room counted k (omega arith) (omega (arith, lt)))
    (λ _. subst (λ k. p (get_or bs k 0) ≡ true) start (run_in_chunk_stops p bs 0 16 at 0 room counted early)) in
    sym (ap (λ n. cond (ltb n (length bs)) (Some n) None) here ∙ ap (λ b. cond b (Some at) None) (lt-ltb at (length bs) within))

-- ---- the first byte that a search finds

-- it is at the position of the first such byte
pub first-position : (s : ℕ) (bs : List ℕ) (r : Option ℕ) → IsFirstByte (is_byte s) bs r → r ≡ position (λ b. b == s) bs
first-position s bs None h = none (position p bs) refl
  where
    p : ℕ → Bool
    p = λ b. b == s

    none : (o : Option ℕ) → position p bs ≡ o → None ≡ o
    none None e = refl
    none (Some i) e = let found = position-Some p bs i 0 e in absurd (h i (omega arith) found.0 found.1)
first-position s bs (Some k) h = some (position p bs) refl
  where
    p : ℕ → Bool
    p = λ b. b == s

    some : (o : Option ℕ) → position p bs ≡ o → Some k ≡ o
    some None e =
        let past = absent (ltb (position_or_len p bs) (length bs)) (position_or_len p bs) e in
        let fails : p (get_or bs k 0) ≡ false = fails_before_first p bs k 0 (grind (arith, nat_tests)) in
        absurd (false≢true (sym fails ∙ h.1))
    some (Some i) e =
        let found = position-Some p bs i 0 e in
        let not_before : i < k → ⊥ = λ lt. h.0.before i (omega arith) lt found.1 in
        let not_behind : k < i → ⊥ = λ lt. false≢true (sym (found.2 k lt) ∙ h.1) in
        ap Some (omega (arith, not_before, not_behind))

-- it finds one if and only if there is one
pub first-any : (s : ℕ) (bs : List ℕ) (r : Option ℕ) → IsFirstByte (is_byte s) bs r → is_some r ≡ list_any (λ b. b == s) bs
first-any s bs None h =
    let none = All-from_get_or (λ b. (b == s) ≡ false) bs 0 (λ k below. fails (get_or bs k 0 == s) (h k (omega arith) below)) in
    sym (list_any_none (λ b. b == s) bs none)
  where
    fails : (t : Bool) → (t ≡ true → ⊥) → t ≡ false
    fails true never = absurd (never refl)
    fails false _ = refl
first-any s bs (Some k) h = sym (list_any_at (λ b. b == s) bs k 0 h.0.high h.1)
