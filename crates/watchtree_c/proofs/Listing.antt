-- Bytes that are put over the front of others, one part after another.
use Rattle.std.proofs.Common.{◌≡◌, ℕ, ◌+◌, ◌-◌, ◌^◌, ◌≤◌, ◌<◌, List, [], ◌∷◌, ◌++◌, length, take, drop, get_or, refl}
use Rattle.std.proofs.Common.{sym, ap, ◌∙◌, inl, inr, arith, length-append, append_assoc}
use Rattle.std.specs.Prelude.{min, pos}
use Rattle.std.specs.List.{flat_map}
use Rattle.std.proofs.Math.Seq.{take-append-add}
use Rattle.std.proofs.lemmas.Bool.{cases_lt}
use Rattle.std.proofs.lemmas.List.{append-nil, drop-drop, drop_all, length-drop, length-take, take_all, take_at, drop_at, take_more, take-append-le}
use Rattle.std.proofs.lemmas.Grind.{flat_map-append}
use borrow.Rule.Slice.PartMut.{put_mid}
use Rattle.tree_paths.specs.Paths.{pathname_of, slashed}
use Rattle.watchtree_c.specs.Answers.{count_number, overlaid}
use Rattle.watchtree_c.specs.Listings.{ended}

pub overlaid_none : (old : List ℕ) → overlaid [] old ≡ old
overlaid_none old = ap (λ (t : List ℕ). t ++ old) (take_all (length old) [] (omega arith))

overlaid-nothing : (xs : List ℕ) → overlaid xs [] ≡ []
overlaid-nothing xs = drop_all (length xs) [] (omega arith)

length-overlaid : (xs old : List ℕ) → length (overlaid xs old) ≡ length old
length-overlaid xs old = simp (length-append, length-take, length-drop) (omega arith)

-- where all of the first part fits
roomy : (xs ys old : List ℕ) → length xs ≤ length old
    → take (length xs) (overlaid xs old) ++ overlaid ys (drop (length xs) (overlaid xs old)) ≡ overlaid (xs ++ ys) old
roomy xs ys old le =
    let n = length xs in
    let k = length (drop n old) in
    let behind = drop (length ys) (drop n old) in
    let whole : overlaid xs old ≡ xs ++ drop n old = ap (λ (t : List ℕ). t ++ drop n old) (take_all (length old) xs le) in
    let front : take n (overlaid xs old) ≡ xs = ap (take n) whole ∙ take_at xs (drop n old) n refl in
    let back : drop n (overlaid xs old) ≡ drop n old = ap (drop n) whole ∙ drop_at xs (drop n old) n refl in
    let total : length old ≡ n + k = omega (arith, length-drop n old, le) in
    let left : take (length old) (xs ++ ys) ≡ xs ++ take k ys = ap (λ (j : ℕ). take j (xs ++ ys)) total ∙ take-append-add xs ys k in
    let right : drop (length (xs ++ ys)) old ≡ behind = ap (λ (j : ℕ). drop j old) (length-append xs ys) ∙ sym (drop-drop (length ys) n old) in
    let parts : overlaid (xs ++ ys) old ≡ (xs ++ take k ys) ++ behind =
    ap (λ (t : List ℕ). t ++ drop (length (xs ++ ys)) old) left ∙ ap (λ (t : List ℕ). (xs ++ take k ys) ++ t) right in
    ap (λ (t : List ℕ). t ++ overlaid ys (drop n (overlaid xs old))) front ∙ ap (λ (t : List ℕ). xs ++ overlaid ys t) back
    ∙ sym (append_assoc xs (take k ys) behind) ∙ sym parts

-- where no more than the first part fits
full : (xs ys old : List ℕ) → length old ≤ length xs → overlaid xs old ≡ overlaid (xs ++ ys) old
full xs ys old le =
    let total = length-append xs ys in
    let none : drop (length xs) old ≡ drop (length (xs ++ ys)) old =
    drop_all (length xs) old le ∙ sym (drop_all (length (xs ++ ys)) old (omega (arith, total, le))) in
    ap (λ (t : List ℕ). take (length old) xs ++ t) none ∙ ap (λ (t : List ℕ). t ++ drop (length (xs ++ ys)) old) (sym (take-append-le (length old) xs ys le))

-- a write from an index to the end
to_end : (now mid : List ℕ) (s : ℕ) → put_mid s (length now - s) now mid ≡ take s now ++ mid
to_end now mid s =
    let k = length now - s in
    let none : drop k (drop s now) ≡ [] = drop_all k (drop s now) (omega (arith, length-drop s now)) in
    ap (λ (t : List ℕ). take s now ++ (mid ++ t)) none ∙ ap (λ (t : List ℕ). take s now ++ t) (append-nil mid)

at_place : (xs ys old now : List ℕ) (len s : ℕ) → len ≡ min (length xs) (2 ^ 64 - 1) → s ≡ min len (length now) → length now < 2 ^ 64 → now ≡ overlaid xs old
    → take s now ++ overlaid ys (drop s now) ≡ overlaid (xs ++ ys) old
at_place xs ys old now len s is place fits before =
    let same : length now ≡ length old = ap length before ∙ length-overlaid xs old in
    elim (cases_lt (length xs) (length old)) [
      | inl lt ↦
          let k : s ≡ length xs = omega (arith, lt, same, is, place, fits) in
          ap (λ (j : ℕ). take j now ++ overlaid ys (drop j now)) k
          ∙ ap (λ (t : List ℕ). take (length xs) t ++ overlaid ys (drop (length xs) t)) before ∙ roomy xs ys old (omega (arith, lt))
      | inr ge ↦
          let k : s ≡ length now = omega (arith, ge, same, is, place, fits) in
          ap (λ (j : ℕ). take j now ++ overlaid ys (drop j now)) k
          ∙ ap (λ (t : List ℕ). t ++ overlaid ys (drop (length now) now)) (take_all (length now) now (omega arith))
          ∙ ap (λ (t : List ℕ). now ++ overlaid ys t) (drop_all (length now) now (omega arith))
          ∙ ap (λ (t : List ℕ). now ++ t) (overlaid-nothing ys) ∙ append-nil now ∙ before ∙ full xs ys old ge
    ]

-- bytes that are put behind others
pub more : (xs ys old now mid : List ℕ) (len s : ℕ) → len ≡ min (length xs) (2 ^ 64 - 1) → s ≡ min len (length now)
    → length now < 2 ^ 64 → now ≡ overlaid xs old
    → mid ≡ overlaid ys (drop s now) → put_mid s (length now - s) now mid ≡ overlaid (xs ++ ys) old
more xs ys old now mid len s is place fits before put =
    to_end now mid s ∙ ap (λ (t : List ℕ). take s now ++ t) put ∙ at_place xs ys old now len s is place fits before

-- the names before one, and it
pub names_next : (names : List (List ℕ)) (i : ℕ) (x : List ℕ) → i < length names → x ≡ get_or names i x
    → flat_map ended (take (i + 1) names) ≡ (flat_map ended (take i names) ++ x) ++ 0 ∷ []
names_next names i x lt is =
    ap (flat_map ended) (take_more names i x lt ∙ ap (λ (y : List ℕ). take i names ++ y ∷ []) (sym is)) ∙ flat_map-append ended (take i names) (x ∷ [])
    ∙ ap (λ (t : List ℕ). flat_map ended (take i names) ++ t) (append-nil (ended x)) ∙ sym (append_assoc (flat_map ended (take i names)) x (0 ∷ []))

-- one name more
pub slashed_behind : (front : List (List ℕ)) (x : List ℕ) → slashed (front ++ x ∷ []) ≡ (slashed front ++ 47 ∷ []) ++ x
slashed_behind front x =
    flat_map-append (λ n. 47 ∷ n) front (x ∷ []) ∙ ap (λ (t : List ℕ). slashed front ++ t) (append-nil (47 ∷ x))
    ∙ sym (append_assoc (slashed front) (47 ∷ []) x)

-- the names in front of those that are left were put at the front of what was there, as far as they fit
pub record IsPut (all left : List (List ℕ)) (n : ℕ) (old out : List ℕ) : Type 0 where
  pub front : List (List ℕ)
  pub whole : front ++ left ≡ all
  pub len : n ≡ min (length (slashed front)) (2 ^ 64 - 1)
  pub bytes : out ≡ overlaid (slashed front) old

-- a slash and one name more are put
pub put_next : (all left after : List (List ℕ)) (name bytes : List ℕ) (n m k : ℕ) (old out one two : List ℕ)
    → IsPut all left n old out → left ≡ name ∷ after → bytes ≡ name → m ≡ min (n + 1) (2 ^ 64 - 1)
    → ((front was : List ℕ) → n ≡ min (length front) (2 ^ 64 - 1) → out ≡ overlaid front was → one ≡ overlaid (front ++ 47 ∷ []) was)
    → k ≡ min (m + length bytes) (2 ^ 64 - 1)
    → ((front was : List ℕ) → m ≡ min (length front) (2 ^ 64 - 1) → one ≡ overlaid front was → two ≡ overlaid (front ++ bytes) was)
    → IsPut all after k old two
put_next all left after name bytes n m k old out one two put is same slash_len slash name_len more =
    let front = slashed put.front in
    let one_len : m ≡ min (length (front ++ 47 ∷ [])) (2 ^ 64 - 1) =
    omega (arith, slash_len, put.len, length-append front (47 ∷ [])) in
    let both_len : k ≡ min (length ((front ++ 47 ∷ []) ++ bytes)) (2 ^ 64 - 1) =
    omega (arith, name_len, one_len, length-append (front ++ 47 ∷ []) bytes) in
    let both = more (front ++ 47 ∷ []) old one_len (slash front old put.len put.bytes) in
    let next = slashed_behind put.front name ∙ ap (λ (t : List ℕ). (front ++ 47 ∷ []) ++ t) (sym same) in
    record {
      front = put.front ++ name ∷ [];
      whole = append_assoc put.front (name ∷ []) after ∙ ap (λ (t : List (List ℕ)). put.front ++ t) (sym is) ∙ put.whole;
      len = both_len ∙ ap (λ (t : List ℕ). min (length t) (2 ^ 64 - 1)) (sym next);
      bytes = both ∙ ap (λ (t : List ℕ). overlaid t old) (sym next);
    }

-- the pathname of some names
pub slashed_all : (names : List (List ℕ)) → (names ≡ [] → ⊥) → slashed names ≡ pathname_of names
slashed_all [] some = absurd (some refl)
slashed_all (name ∷ names) some = refl

-- a count that saturates at the greatest number gives the same answer
pub count_same : (n : ℕ) → count_number (min n (2 ^ 64 - 1)) ≡ count_number n
count_same n = ap pos (omega arith)
