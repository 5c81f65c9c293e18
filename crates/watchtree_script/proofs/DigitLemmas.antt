-- Hexadecimal digits of a block of bytes, lane by lane.
use Rattle.std.proofs.Common.{◌≡◌, ℕ, ◌+◌, ◌/◌, ◌%◌, ◌^◌, ◌<◌, Bool, true, false, cond, eqb, ltb, eqb-true, List, [], ◌∷◌, ◌++◌}
use Rattle.std.proofs.Common.{map, length, take, drop, replicate, slice_index, bit_and, zero, suc, refl, sym, ap, ◌∙◌, ◌&&◌, arith}
use Rattle.std.proofs.Common.{get_or, ltb-true, ltb-false, append_assoc, inl, inr, subst}
use Rattle.std.specs.Fmt.{digit_glyph}
use Rattle.std.proofs.lemmas.Bool.{cases_lt, and_parts}
use Rattle.std.proofs.lemmas.Nat.{and_mask}
use Rattle.std.proofs.lemmas.List.{take-append-drop}
use Rattle.std.proofs.lemmas.Simd.{zip2_splat, map-map, length-zip2, Each1-zip2, Each2-splat, Each1-weaker, Each1-all, Each1-from_get_or}
use Rattle.hex.specs.Hex.{encode_with, encode_lower, lower_digits}
use lib.Lanes.{Each1, zip2, sel_l, top, pick_l}

-- ---- the digit of a value

abbrev pub sum8 : ℕ → ℕ → ℕ
sum8 a b = (a + b) % 2 ^ 8

abbrev pub less8 : ℕ → ℕ → ℕ
less8 a b = cond (ltb a b) 255 0

abbrev pub glyphs : ℕ → List ℕ → List ℕ
glyphs n xs = zip2 sum8 xs (sel_l (map (top 7) (zip2 less8 (replicate n 9) xs)) (replicate n 87) (replicate n 48))

one-glyph : (x : ℕ) → x < 16 → sum8 x (cond (top 7 (less8 9 x)) 87 48) ≡ digit_glyph false x
one-glyph x small = go (ltb 9 x) refl
  where
    go : (t : Bool) → ltb 9 x ≡ t → sum8 x (cond (top 7 (cond t 255 0)) 87 48) ≡ digit_glyph false x
    go true e = let h = ltb-true _ _ e in grind arith
    go false e = let h = ltb-false _ _ e in grind arith

each-glyph : (xs : List ℕ) → Each1 (λ x. x < 16) xs → glyphs (length xs) xs ≡ map (digit_glyph false) xs
each-glyph [] h = refl
each-glyph (x ∷ xs) h =
    ap (λ (d : ℕ). d ∷ glyphs (length xs) xs) (one-glyph x h.0) ∙ ap (λ (ds : List ℕ). digit_glyph false x ∷ ds) (each-glyph xs h.1)

pub glyphs-are : (xs : List ℕ) (n : ℕ) → length xs ≡ n → Each1 (λ x. x < 16) xs → glyphs n xs ≡ map (digit_glyph false) xs
glyphs-are xs n e h = ap (λ (k : ℕ). glyphs k xs) (sym e) ∙ each-glyph xs h

-- ---- the digits of a byte, from a table and from its two halves

abbrev same_below : (ℕ → ℕ) → (ℕ → ℕ) → ℕ → Bool
same_below f g zero = true
same_below f g (suc n) = eqb (f n) (g n) && same_below f g n

same-at : (f g : ℕ → ℕ) (n : ℕ) → same_below f g n ≡ true → (i : ℕ) → i < n → f i ≡ g i
same-at f g zero h i lt = absurd (omega arith)
same-at f g (suc n) h i lt =
    let here : f n ≡ g n = eqb-true _ _ (and_parts _ _ h).0 in
    elim (cases_lt i n) [
      | inl less ↦ same-at f g n (and_parts _ _ h).1 i less
      | inr more ↦ let e : n ≡ i = omega arith in subst (λ k. f k ≡ g k) e here
    ]

in_table : (n : ℕ) → n < 16 → digit_glyph false n ≡ slice_index lower_digits n
in_table = same-at (digit_glyph false) (slice_index lower_digits) 16 refl

-- ---- two vectors whose lanes are taken in turn

abbrev pub woven : List ℕ → List ℕ → List ℕ
woven hs ls =
    pick_l 0 (hs ++ ls) (0 ∷ 16 ∷ 1 ∷ 17 ∷ 2 ∷ 18 ∷ 3 ∷ 19 ∷ 4 ∷ 20 ∷ 5 ∷ 21 ∷ 6 ∷ 22 ∷ 7 ∷ 23 ∷ [])
    ++ pick_l 0 (hs ++ ls) (8 ∷ 24 ∷ 9 ∷ 25 ∷ 10 ∷ 26 ∷ 11 ∷ 27 ∷ 12 ∷ 28 ∷ 13 ∷ 29 ∷ 14 ∷ 30 ∷ 15 ∷ 31 ∷ [])

abbrev high_of : ℕ → ℕ
high_of b = slice_index lower_digits (b / 16)

abbrev low_of : ℕ → ℕ
low_of b = slice_index lower_digits (b % 16)

woven-is : (v : List ℕ) → length v ≡ 16 → encode_lower v ≡ woven (map high_of v) (map low_of v)
unfolding encode_with
woven-is [] e = absurd (omega arith)
woven-is (a0 ∷ []) e = absurd (omega arith)
woven-is (a0 ∷ a1 ∷ []) e = absurd (omega arith)
woven-is (a0 ∷ a1 ∷ a2 ∷ []) e = absurd (omega arith)
woven-is (a0 ∷ a1 ∷ a2 ∷ a3 ∷ []) e = absurd (omega arith)
woven-is (a0 ∷ a1 ∷ a2 ∷ a3 ∷ a4 ∷ []) e = absurd (omega arith)
woven-is (a0 ∷ a1 ∷ a2 ∷ a3 ∷ a4 ∷ a5 ∷ []) e = absurd (omega arith)
woven-is (a0 ∷ a1 ∷ a2 ∷ a3 ∷ a4 ∷ a5 ∷ a6 ∷ []) e = absurd (omega arith)
woven-is (a0 ∷ a1 ∷ a2 ∷ a3 ∷ a4 ∷ a5 ∷ a6 ∷ a7 ∷ []) e = absurd (omega arith)
woven-is (a0 ∷ a1 ∷ a2 ∷ a3 ∷ a4 ∷ a5 ∷ a6 ∷ a7 ∷ a8 ∷ []) e = absurd (omega arith)
woven-is (a0 ∷ a1 ∷ a2 ∷ a3 ∷ a4 ∷ a5 ∷ a6 ∷ a7 ∷ a8 ∷ a9 ∷ []) e = absurd (omega arith)
woven-is (a0 ∷ a1 ∷ a2 ∷ a3 ∷ a4 ∷ a5 ∷ a6 ∷ a7 ∷ a8 ∷ a9 ∷ a10 ∷ []) e = absurd (omega arith)
woven-is (a0 ∷ a1 ∷ a2 ∷ a3 ∷ a4 ∷ a5 ∷ a6 ∷ a7 ∷ a8 ∷ a9 ∷ a10 ∷ a11 ∷ []) e = absurd (omega arith)
woven-is (a0 ∷ a1 ∷ a2 ∷ a3 ∷ a4 ∷ a5 ∷ a6 ∷ a7 ∷ a8 ∷ a9 ∷ a10 ∷ a11 ∷ a12 ∷ []) e = absurd (omega arith)
woven-is (a0 ∷ a1 ∷ a2 ∷ a3 ∷ a4 ∷ a5 ∷ a6 ∷ a7 ∷ a8 ∷ a9 ∷ a10 ∷ a11 ∷ a12 ∷ a13 ∷ []) e = absurd (omega arith)
woven-is (a0 ∷ a1 ∷ a2 ∷ a3 ∷ a4 ∷ a5 ∷ a6 ∷ a7 ∷ a8 ∷ a9 ∷ a10 ∷ a11 ∷ a12 ∷ a13 ∷ a14 ∷ []) e = absurd (omega arith)
woven-is (a0 ∷ a1 ∷ a2 ∷ a3 ∷ a4 ∷ a5 ∷ a6 ∷ a7 ∷ a8 ∷ a9 ∷ a10 ∷ a11 ∷ a12 ∷ a13 ∷ a14 ∷ a15 ∷ []) e = refl
woven-is (a0 ∷ a1 ∷ a2 ∷ a3 ∷ a4 ∷ a5 ∷ a6 ∷ a7 ∷ a8 ∷ a9 ∷ a10 ∷ a11 ∷ a12 ∷ a13 ∷ a14 ∷ a15 ∷ b ∷ bs) e = absurd (omega arith)

-- ---- the halves of a block's bytes

pub bytes-below : (v : List ℕ) → ((i : ℕ) → get_or v i 0 < 256) → Each1 (λ a. a < 256) v
bytes-below v fits = Each1-from_get_or (λ a. a < 256) v 0 (λ i lt. fits i)

abbrev pub shift8 : ℕ → ℕ → ℕ
shift8 a b = a / 2 ^ b

abbrev pub highs : List ℕ → List ℕ
highs v = zip2 shift8 v (replicate 16 4)

abbrev pub lows : List ℕ → List ℕ
lows v = zip2 bit_and v (replicate 16 15)

map-same : (P : ℕ → Type 0) (f g : ℕ → ℕ) → ((x : ℕ) → P x → f x ≡ g x) → (xs : List ℕ) → Each1 P xs → map f xs ≡ map g xs
map-same P f g h [] each = refl
map-same P f g h (x ∷ xs) each = ap (λ (y : ℕ). y ∷ map f xs) (h x each.0) ∙ ap (λ (ys : List ℕ). g x ∷ ys) (map-same P f g h xs each.1)

pub length-highs : (v : List ℕ) → length v ≡ 16 → length (highs v) ≡ 16
length-highs v e = length-zip2 shift8 v (replicate 16 4) e ∙ e

pub length-lows : (v : List ℕ) → length v ≡ 16 → length (lows v) ≡ 16
length-lows v e = length-zip2 bit_and v (replicate 16 15) e ∙ e

pub highs_below : (v : List ℕ) → Each1 (λ a. a < 256) v → Each1 (λ x. x < 16) (highs v)
highs_below v fits =
    Each1-zip2 shift8 (λ x. x < 16) v (replicate 16 4)
    (Each2-splat (λ a b. shift8 a b < 16) v 16 4 (Each1-weaker (λ a. a < 256) (λ a. shift8 a 4 < 16) (λ a h. omega arith) v fits))

pub lows_below : (v : List ℕ) → Each1 (λ x. x < 16) (lows v)
lows_below v =
    Each1-zip2 bit_and (λ x. x < 16) v (replicate 16 15)
    (Each2-splat (λ a b. bit_and a b < 16) v 16 15 (Each1-all (λ a. bit_and a 15 < 16) (λ a. omega (arith, and_mask a 4)) v))

high-digits : (v : List ℕ) → length v ≡ 16 → Each1 (λ a. a < 256) v → map (digit_glyph false) (highs v) ≡ map high_of v
high-digits v e fits =
    ap (λ (l : List ℕ). map (digit_glyph false) l) (zip2_splat shift8 v 16 4 e) ∙ map-map (digit_glyph false) (λ a. shift8 a 4) v
    ∙ map-same (λ a. a < 256) (λ a. digit_glyph false (shift8 a 4)) high_of (λ a h. in_table (a / 16) (omega arith)) v fits

low-digits : (v : List ℕ) → length v ≡ 16 → map (digit_glyph false) (lows v) ≡ map low_of v
low-digits v e =
    ap (λ (l : List ℕ). map (digit_glyph false) l) (zip2_splat bit_and v 16 15 e) ∙ map-map (digit_glyph false) (λ a. bit_and a 15) v
    ∙ map-same (λ a. Unit {0}) (λ a. digit_glyph false (bit_and a 15)) low_of
    (λ a h. ap (λ (n : ℕ). digit_glyph false n) (and_mask a 4) ∙ in_table (a % 16) (omega arith)) v (Each1-all (λ a. Unit {0}) (λ a. tt) v)

pub block-digits : (v hs ls : List ℕ) → length v ≡ 16 → Each1 (λ a. a < 256) v → hs ≡ map (digit_glyph false) (highs v) → ls ≡ map (digit_glyph false) (lows v)
    → encode_lower v ≡ woven hs ls
block-digits v hs ls e fits high low =
    woven-is v e ∙ ap (λ (l : List ℕ). woven l (map low_of v)) (sym (high ∙ high-digits v e fits))
    ∙ ap (λ (l : List ℕ). woven hs l) (sym (low ∙ low-digits v e))

-- ---- blocks one after another

encode-append : (t a b : List ℕ) → encode_with t (a ++ b) ≡ encode_with t a ++ encode_with t b
unfolding encode_with
encode-append t [] b = refl
encode-append t (x ∷ a) b = ap (λ (l : List ℕ). slice_index t (x / 16) ∷ slice_index t (x % 16) ∷ l) (encode-append t a b)

pub block-pushed : (old mid new block rest behind front back first second all : List ℕ) → old ++ encode_lower rest ≡ all
    → block ≡ take 16 rest → behind ≡ drop 16 rest → encode_lower block ≡ front ++ back → first ≡ front → second ≡ back
    → mid ≡ old ++ first → new ≡ mid ++ second → new ++ encode_lower behind ≡ all
block-pushed old mid new block rest behind front back first second all known b d digits one two p q =
    let left : List ℕ = encode_lower behind in
    let split : rest ≡ block ++ behind =
    sym (take-append-drop 16 rest) ∙ ap (λ (l : List ℕ). l ++ drop 16 rest) (sym b) ∙ ap (λ (l : List ℕ). block ++ l) (sym d) in
    let pair : first ++ second ≡ encode_lower block = ap (λ (l : List ℕ). l ++ second) one ∙ ap (λ (l : List ℕ). front ++ l) two ∙ sym digits in
    let whole : new ≡ old ++ encode_lower block =
    q ∙ ap (λ (l : List ℕ). l ++ second) p ∙ append_assoc old first second ∙ ap (λ (l : List ℕ). old ++ l) pair in
    ap (λ (l : List ℕ). l ++ left) whole ∙ append_assoc old (encode_lower block) left
    ∙ ap (λ (l : List ℕ). old ++ l) (sym (encode-append lower_digits block behind)) ∙ ap (λ (l : List ℕ). old ++ encode_lower l) (sym split) ∙ known
