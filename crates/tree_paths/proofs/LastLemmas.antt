-- The last slash of a text, by bits.
use Rattle.std.proofs.Common.{◌≡◌, ℕ, zero, suc, ◌+◌, ◌-◌, ◌*◌, ◌/◌, ◌^◌, ◌<◌, ◌≤◌, Bool, true, false, eqb, cond}
use Rattle.std.proofs.Common.{List, [], ◌∷◌, length, drop, get_or, map, refl, sym, ap, ◌∙◌, arith}
use Rattle.std.proofs.Math.Nat.{div-eq_of_lt-le}
use Rattle.std.specs.List.{list_all}
use Rattle.std.specs.Simd.Lanes.{mask_l}
use Rattle.std.proofs.lemmas.Bool.{eqb-true}
use Rattle.std.proofs.lemmas.List.{length-drop, drop-map, drop-drop, get_or-drop}
use Rattle.tree_paths.specs.PathText.{is_other, is_slash, slashes_in, IsLastStart}
use Rattle.tree_paths.proofs.MaskLemmas.{mask-drop}

pub all-others : (xs : List ℕ) → slashes_in xs ≡ 0 → list_all is_other xs ≡ true
all-others [] none = refl
all-others (x ∷ xs) none = by (eqb x 47) refl none (all-others xs)
  where
    by : (b : Bool) → eqb x 47 ≡ b → cond b 1 0 + 2 * slashes_in xs ≡ 0 → (slashes_in xs ≡ 0 → list_all is_other xs ≡ true) → list_all is_other (x ∷ xs) ≡ true
    by true e f more = absurd (omega (arith, f))
    by false e f more = rw e (more (omega (arith, f)))

record IsLastSlash (xs : List ℕ) (k : ℕ) : Type 0 where
  inside : k < length xs
  slash : get_or xs k 0 ≡ 47
  others : list_all is_other (drop (suc k) xs) ≡ true

last-slash : (k : ℕ) (xs : List ℕ) → slashes_in (drop k xs) ≡ 1 → IsLastSlash xs k
last-slash zero [] one = absurd (omega (arith, one))
last-slash (suc k) [] one = absurd (omega (arith, one))
last-slash zero (x ∷ xs) one = by (eqb x 47) refl one
  where
    by : (b : Bool) → eqb x 47 ≡ b → cond b 1 0 + 2 * slashes_in xs ≡ 1 → IsLastSlash (x ∷ xs) 0
    by true e f = record { inside = omega arith; slash = eqb-true x 47 e; others = all-others xs (omega (arith, f)) }
    by false e f = absurd (omega (arith, f))
last-slash (suc k) (x ∷ xs) one =
    let h = last-slash k xs one in
    record { inside = omega (arith, h.inside); slash = h.slash; others = h.others }

-- the highest bit of the slashes behind an index
pub last-start-by : (text : List ℕ) (i m k : ℕ) → i ≤ length text → m ≡ slashes_in (drop i text) → 2 ^ k ≤ m → m < 2 * 2 ^ k → IsLastStart text (i + k + 1)
last-start-by text i m k within is low high =
    let one : m / 2 ^ k ≡ 1 = div-eq_of_lt-le (2 ^ k) (omega (arith, low)) (omega (arith, high)) in
    let bits : m / 2 ^ k ≡ slashes_in (drop k (drop i text)) =
    ap (λ n. n / 2 ^ k) is ∙ mask-drop k (map is_slash (drop i text)) ∙ ap mask_l (drop-map is_slash k (drop i text)) in
    let h = last-slash k (drop i text) (sym bits ∙ one) in
    let behind : i + suc k ≡ i + k + 1 = omega arith in
    let before : i + k ≡ i + k + 1 - 1 = omega arith in
    record {
      some = omega arith;
      within = omega (arith, h.inside, length-drop i text);
      at_slash = ap (λ n. get_or text n 0) (sym before) ∙ sym (get_or-drop i text k 0) ∙ h.slash;
      none = ap (list_all is_other) (ap (λ n. drop n text) (sym behind) ∙ sym (drop-drop (suc k) i text)) ∙ h.others;
    }
