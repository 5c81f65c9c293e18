-- A text cut at its first slash: what is asked of its names.
use Rattle.std.proofs.Common.{◌≡◌, ◌≢◌, ℕ, ◌+◌, ◌-◌, ◌<◌, ◌≤◌, Bool, true, false, not, ◌&&◌, ◌||◌, cond, eqb, ltb}
use Rattle.std.proofs.Common.{leb, inl, inr, ◌⊎◌, nat_cmp, is_lt, Less, Equal, Greater}
use Rattle.std.proofs.Common.{List, [], ◌∷◌, ◌++◌, length, take, drop, get_or, zero, suc, Result, Ok, Err, refl, sym}
use Rattle.std.proofs.Common.{ap, ◌∙◌, arith, take_all, append_assoc, length-append}
use Rattle.std.specs.Prelude.{filter, MatchResult, IfOk}
use Rattle.std.specs.Cmp.{nat_cmp_is}
use Rattle.std.specs.Int.{from_bool}
use Rattle.std.specs.Ordering.{ord_max}
use Rattle.std.specs.List.{list_any, list_all}
use Rattle.std.proofs.lemmas.Bool.{and_parts, and_right, cases_lt, le-leb, leb-true, le-ltb, lt-ltb, lt-leb, ltb-true, ltb-false, eqb-true, eqb-false, ne_eqb}
use Rattle.std.proofs.lemmas.List.{take-append-drop, drop_more, length-drop, length-take-le}
use Rattle.std.proofs.lemmas.List.Folds.{list_any-append}
use Rattle.std.proofs.lemmas.List.Splits.{slice_split_at, slice_split_none}
use Rattle.record_codec.specs.Names.{is_name, is_name_byte}
use Rattle.tree_paths.specs.declared.refusal.Refusal.{Refusal}
use Rattle.tree_paths.specs.declared.refusal.Refusal.TheVariants.{Einval, Enametoolong}
use Rattle.tree_paths.specs.declared.parse.Shape.{Shape}
use Rattle.tree_paths.specs.PathText.{shape_of}
use Rattle.tree_paths.specs.Paths.{parsed, names_of, is_null, is_dots, is_in_place, is_long, slashed}
use Rattle.tree_paths.specs.Pieces.{pieces, is_nonempty}
use Rattle.tree_paths.proofs.PathnameLemmas.{no_null, no_slashes}
use Rattle.tree_paths.proofs.PieceLemmas.{nonempty-cons, accepted, names_read}

-- ---- a front and the pieces behind it

-- what no empty piece has is looked for in the front and behind it
any_front : (p : List ℕ → Bool) → p [] ≡ false → (x : List ℕ) (ps : List (List ℕ))
    → list_any p (filter is_nonempty (x ∷ ps)) ≡ (p x || list_any p (filter is_nonempty ps))
any_front p e [] ps = sym (ap (λ (b : Bool). b || list_any p (filter is_nonempty ps)) e)
any_front p e (b ∷ bs) ps = rw (nonempty-cons b bs) refl

count_front : (x : List ℕ) (ps : List (List ℕ)) → length (filter is_nonempty (x ∷ ps)) ≡ from_bool (ltb 0 (length x)) + length (filter is_nonempty ps)
count_front [] ps = omega arith
count_front (b ∷ bs) ps =
    let some : ltb 0 (length (b ∷ bs)) ≡ true = lt-ltb 0 (length (b ∷ bs)) (omega arith) in
    rw (nonempty-cons b bs, some) (omega arith)

pub name_front : (x : List ℕ) (ps : List (List ℕ)) → 0 < length x → filter is_nonempty (x ∷ ps) ≡ x ∷ filter is_nonempty ps
name_front [] ps some = absurd (omega arith)
name_front (b ∷ bs) ps some = rw (nonempty-cons b bs) refl

pub no_front : (x : List ℕ) (ps : List (List ℕ)) → length x ≡ 0 → filter is_nonempty (x ∷ ps) ≡ filter is_nonempty ps
no_front [] ps none = refl
no_front (b ∷ bs) ps none = absurd (omega (arith, none))

-- ---- a text cut at its first slash

cut : (w : List ℕ) (n : ℕ) → n < length w → w ≡ take n w ++ get_or w n 0 ∷ drop (n + 1) w
cut w n lt = sym (take-append-drop n w) ∙ ap (λ (t : List ℕ). take n w ++ t) (drop_more w n 0 lt)

pub names_cut : (w : List ℕ) (n : ℕ) → n < length w → list_all is_name_byte (take n w) ≡ true → get_or w n 0 ≡ 47
    → names_of w ≡ filter is_nonempty (take n w ∷ pieces 47 (drop (n + 1) w))
names_cut w n lt h e =
    ap names_of (cut w n lt ∙ ap (λ (b : ℕ). take n w ++ b ∷ drop (n + 1) w) e)
    ∙ ap (filter is_nonempty) (slice_split_at (λ b. eqb b 47) (take n w) 47 (drop (n + 1) w) (no_slashes (take n w) h) refl)

pub names_end : (w : List ℕ) (n : ℕ) → n ≡ length w → list_all is_name_byte (take n w) ≡ true → names_of w ≡ filter is_nonempty (take n w ∷ [])
names_end w n e h =
    let whole : take n w ≡ w = take_all n w (omega (arith, e)) in
    ap names_of (sym whole) ∙ ap (filter is_nonempty) (slice_split_none (λ b. eqb b 47) (take n w) (no_slashes (take n w) h))

null_cut : (w : List ℕ) (n : ℕ) → n < length w → list_all is_name_byte (take n w) ≡ true
    → list_any is_null w ≡ (eqb (get_or w n 0) 0 || list_any is_null (drop (n + 1) w))
null_cut w n lt h =
    ap (list_any is_null) (cut w n lt) ∙ list_any-append is_null (take n w) (get_or w n 0 ∷ drop (n + 1) w)
    ∙ ap (λ (b : Bool). b || (eqb (get_or w n 0) 0 || list_any is_null (drop (n + 1) w))) (no_null (take n w) h)

pub null_behind : (w : List ℕ) (n : ℕ) → n < length w → list_all is_name_byte (take n w) ≡ true → get_or w n 0 ≡ 47
    → list_any is_null w ≡ list_any is_null (drop (n + 1) w)
null_behind w n lt h e = null_cut w n lt h ∙ ap (λ (b : ℕ). eqb b 0 || list_any is_null (drop (n + 1) w)) e

pub null_end : (w : List ℕ) (n : ℕ) → n ≡ length w → list_all is_name_byte (take n w) ≡ true → list_any is_null w ≡ false
null_end w n e h = let whole : take n w ≡ w = take_all n w (omega (arith, e)) in ap (list_any is_null) (sym whole) ∙ no_null (take n w) h

not_both : (a b : Bool) → (not a && not b) ≡ false → b ≡ false → a ≡ true
not_both true b h k = refl
not_both false true h k = absurd cc
not_both false false h k = absurd cc

-- a byte of no name that is no slash
pub null_there : (w : List ℕ) (n : ℕ) → n < length w → list_all is_name_byte (take n w) ≡ true
    → is_name_byte (get_or w n 0) ≡ false → eqb (get_or w n 0) 47 ≡ false → list_any is_null w ≡ true
null_there w n lt h k ne =
    null_cut w n lt h ∙ ap (λ (b : Bool). b || list_any is_null (drop (n + 1) w)) (not_both (eqb (get_or w n 0) 0) (eqb (get_or w n 0) 47) k ne)

second : (a b c : Bool) → (not a && not b) ≡ false → (a || c) ≡ false → b ≡ true
second true b c h k = absurd cc
second false true c h k = refl
second false false c h k = absurd cc

-- the byte where a front ends, in a text with no zero byte
pub slash_there : (w : List ℕ) (n : ℕ) → n < length w → list_all is_name_byte (take n w) ≡ true
    → is_name_byte (get_or w n 0) ≡ false → list_any is_null w ≡ false → get_or w n 0 ≡ 47
slash_there w n lt h k none =
    let zero_or : (eqb (get_or w n 0) 0 || list_any is_null (drop (n + 1) w)) ≡ false = sym (null_cut w n lt h) ∙ none in
    eqb-true (get_or w n 0) 47 (second (eqb (get_or w n 0) 0) (eqb (get_or w n 0) 47) (list_any is_null (drop (n + 1) w)) k zero_or)

or_or : (a b c : Bool) → (a || (b || c)) ≡ ((a || b) || c)
or_or true b c = refl
or_or false b c = refl

or_false : (a : Bool) → (a || false) ≡ a
or_false true = refl
or_false false = refl

-- ---- what is left of a text behind a front and its slash

abbrev pub behind_front : List ℕ → ℕ → List ℕ
behind_front w n = take (length w - (n + 1)) (drop (n + 1) w)

pub behind_is : (w : List ℕ) (n : ℕ) → drop (n + 1) w ≡ behind_front w n
behind_is w n = sym (take_all (length w - (n + 1)) (drop (n + 1) w) (omega (arith, length-drop (n + 1) w)))

pub record IsCut (w : List ℕ) (n : ℕ) : Type 0 where
  pub inside : n < length w
  pub front : list_all is_name_byte (take n w) ≡ true
  pub slash : get_or w n 0 ≡ 47

pub record IsWhole (w : List ℕ) (n : ℕ) : Type 0 where
  pub all : n ≡ length w
  pub front : list_all is_name_byte (take n w) ≡ true

pub null_step : (w : List ℕ) (n : ℕ) → IsCut w n → list_any is_null w ≡ list_any is_null (behind_front w n)
null_step w n c = null_behind w n c.inside c.front c.slash ∙ ap (list_any is_null) (behind_is w n)

pub names_step : (w : List ℕ) (n : ℕ) → IsCut w n → names_of w ≡ filter is_nonempty (take n w ∷ pieces 47 (behind_front w n))
names_step w n c = names_cut w n c.inside c.front c.slash ∙ ap (λ (t : List ℕ). filter is_nonempty (take n w ∷ pieces 47 t)) (behind_is w n)

pub dots_step : (w : List ℕ) (n : ℕ) → IsCut w n → is_dots (take n w) ≡ false → list_any is_dots (names_of w) ≡ list_any is_dots (names_of (behind_front w n))
dots_step w n c none =
    ap (list_any is_dots) (names_step w n c) ∙ any_front is_dots refl (take n w) (pieces 47 (behind_front w n))
    ∙ ap (λ (b : Bool). b || list_any is_dots (names_of (behind_front w n))) none

pub long_step : (w : List ℕ) (n : ℕ) → IsCut w n → (has : Bool)
    → (has || list_any is_long (names_of w)) ≡ ((has || ltb 255 n) || list_any is_long (names_of (behind_front w n)))
long_step w n c has =
    ap (λ (b : Bool). has || b)
    (ap (list_any is_long) (names_step w n c) ∙ any_front is_long refl (take n w) (pieces 47 (behind_front w n))
    ∙ ap (λ (k : ℕ). ltb 255 k || list_any is_long (names_of (behind_front w n))) (length-take-le n w (omega (arith, c.inside))))
    ∙ or_or has (ltb 255 n) (list_any is_long (names_of (behind_front w n)))

pub count_step : (w : List ℕ) (n : ℕ) → IsCut w n → length (names_of w) ≡ from_bool (ltb 0 n) + length (names_of (behind_front w n))
count_step w n c =
    ap (λ (t : List (List ℕ)). length t) (names_step w n c) ∙ count_front (take n w) (pieces 47 (behind_front w n))
    ∙ ap (λ (k : ℕ). from_bool (ltb 0 k) + length (names_of (behind_front w n))) (length-take-le n w (omega (arith, c.inside)))

abbrev text_len : List (List ℕ) → ℕ
text_len names = length (slashed names)

len_front : (x : List ℕ) (ps : List (List ℕ))
    → text_len (filter is_nonempty (x ∷ ps)) ≡ (from_bool (ltb 0 (length x)) + length x) + text_len (filter is_nonempty ps)
len_front [] ps = omega arith
len_front (b ∷ bs) ps =
    let some : ltb 0 (length (b ∷ bs)) ≡ true = lt-ltb 0 (length (b ∷ bs)) (omega arith) in
    rw (nonempty-cons b bs, some) (omega (arith, length-append (b ∷ bs) (slashed (filter is_nonempty ps))))

fits_front : (x : List ℕ) (ps : List (List ℕ))
    → list_all is_in_place (filter is_nonempty (x ∷ ps)) ≡ (leb (length x) 31 && list_all is_in_place (filter is_nonempty ps))
fits_front [] ps = refl
fits_front (b ∷ bs) ps = rw (nonempty-cons b bs) refl

and_and : (a b c : Bool) → (a && (b && c)) ≡ ((a && b) && c)
and_and true b c = refl
and_and false b c = refl

pub len_step : (w : List ℕ) (n : ℕ) → IsCut w n → length (slashed (names_of w)) ≡ (from_bool (ltb 0 n) + n) + length (slashed (names_of (behind_front w n)))
len_step w n c =
    ap text_len (names_step w n c) ∙ len_front (take n w) (pieces 47 (behind_front w n))
    ∙ ap (λ (k : ℕ). (from_bool (ltb 0 k) + k) + text_len (names_of (behind_front w n))) (length-take-le n w (omega (arith, c.inside)))

pub fits_step : (w : List ℕ) (n : ℕ) → IsCut w n → (fits : Bool)
    → (fits && list_all is_in_place (names_of w)) ≡ ((fits && leb n 31) && list_all is_in_place (names_of (behind_front w n)))
fits_step w n c fits =
    ap (λ (b : Bool). fits && b)
    (ap (list_all is_in_place) (names_step w n c) ∙ fits_front (take n w) (pieces 47 (behind_front w n))
    ∙ ap (λ (k : ℕ). leb k 31 && list_all is_in_place (names_of (behind_front w n))) (length-take-le n w (omega (arith, c.inside))))
    ∙ and_and fits (leb n 31) (list_all is_in_place (names_of (behind_front w n)))

pub len_end : (w : List ℕ) (n : ℕ) → IsWhole w n → length (slashed (names_of w)) ≡ from_bool (ltb 0 n) + n
len_end w n c =
    ap text_len (names_end w n c.all c.front) ∙ len_front (take n w) []
    ∙ ap (λ (k : ℕ). (from_bool (ltb 0 k) + k) + 0) (length-take-le n w (omega (arith, c.all))) ∙ omega arith

and_true : (a : Bool) → (a && true) ≡ a
and_true true = refl
and_true false = refl

pub fits_end : (w : List ℕ) (n : ℕ) → IsWhole w n → (fits : Bool) → (fits && list_all is_in_place (names_of w)) ≡ (fits && leb n 31)
fits_end w n c fits =
    ap (λ (b : Bool). fits && b)
    (ap (list_all is_in_place) (names_end w n c.all c.front) ∙ fits_front (take n w) []
    ∙ ap (λ (k : ℕ). leb k 31 && true) (length-take-le n w (omega (arith, c.all))) ∙ and_true (leb n 31))

-- the greater of two numbers is one of them
max_is : (a b : ℕ) → ((ord_max nat_cmp a b ≡ a) × (b ≤ a)) ⊎ ((ord_max nat_cmp a b ≡ b) × (a ≤ b))
max_is a b = elim (cases_lt b a) [
  | inl lt ↦ inl (ap (λ o. cond (is_lt o) a b) (sym (nat_cmp_is b a Less lt)), omega (arith, lt))
  | inr le ↦ inr (
    elim (cases_lt a b) [
      | inl lt ↦ ap (λ o. cond (is_lt o) a b) (sym (nat_cmp_is b a Greater lt))
      | inr ge ↦ ap (λ o. cond (is_lt o) a b) (sym (nat_cmp_is b a Equal (omega (arith, ge, le))))
    ],
    le,
  )
]

-- the longer of two names is long if one of them is
pub long_max : (a b m : ℕ) → m ≡ ord_max nat_cmp a b → ltb 255 m ≡ (ltb 255 a || ltb 255 b)
long_max a b m is = elim (max_is a b) [
  | inl first ↦ ap (ltb 255) (is ∙ first.0) ∙ more (ltb 255 a) (ltb 255 b) (λ h. lt-ltb 255 a (omega (arith, first.1, ltb-true 255 b h)))
  | inr second ↦
      ap (ltb 255) (is ∙ second.0) ∙ more (ltb 255 b) (ltb 255 a) (λ h. lt-ltb 255 b (omega (arith, second.1, ltb-true 255 a h)))
      ∙ swap (ltb 255 b) (ltb 255 a)
]
  where
    more : (t u : Bool) → (u ≡ true → t ≡ true) → t ≡ (t || u)
    more true u h = refl
    more false true h = h refl
    more false false h = refl

    swap : (t u : Bool) → (t || u) ≡ (u || t)
    swap true true = refl
    swap true false = refl
    swap false true = refl
    swap false false = refl

-- and is kept in itself where both are
pub fits_max : (a b m : ℕ) → m ≡ ord_max nat_cmp a b → leb m 31 ≡ (leb a 31 && leb b 31)
fits_max a b m is = elim (max_is a b) [
  | inl first ↦ ap (λ n. leb n 31) (is ∙ first.0) ∙ both (leb a 31) (leb b 31) (λ h. le-leb b 31 (omega (arith, first.1, leb-true a 31 h)))
  | inr second ↦
      ap (λ n. leb n 31) (is ∙ second.0) ∙ both (leb b 31) (leb a 31) (λ h. le-leb a 31 (omega (arith, second.1, leb-true b 31 h)))
      ∙ swap (leb b 31) (leb a 31)
]
  where
    both : (t u : Bool) → (t ≡ true → u ≡ true) → t ≡ (t && u)
    both true u h = sym (h refl)
    both false u h = refl

    swap : (t u : Bool) → (t && u) ≡ (u && t)
    swap true true = refl
    swap true false = refl
    swap false true = refl
    swap false false = refl

-- the shape of names, by its parts
pub shape_by : (names : List (List ℕ)) (count len : ℕ) (fits : Bool) → length names ≡ count → length (slashed names) ≡ len → list_all is_in_place names ≡ fits
    → ◌≡◌ {A = Shape} (record { count = count; len = len; fits = fits }) (shape_of names)
unfolding shape_of
shape_by names count len fits a b e = λ i. record { count = sym a i; len = sym b i; fits = sym e i }

pub one_most : (n : ℕ) → from_bool (ltb 0 n) ≤ 1
one_most zero = omega arith
one_most (suc n) = let some : ltb 0 (suc n) ≡ true = lt-ltb 0 (suc n) (omega arith) in rw some (omega arith)

pub dots_end : (w : List ℕ) (n : ℕ) → IsWhole w n → is_dots (take n w) ≡ false → list_any is_dots (names_of w) ≡ false
dots_end w n c none =
    ap (list_any is_dots) (names_end w n c.all c.front) ∙ any_front is_dots refl (take n w) [] ∙ ap (λ (b : Bool). b || false) none

pub long_end : (w : List ℕ) (n : ℕ) → IsWhole w n → (has : Bool) → (has || list_any is_long (names_of w)) ≡ (has || ltb 255 n)
long_end w n c has =
    ap (λ (b : Bool). has || b)
    (ap (list_any is_long) (names_end w n c.all c.front) ∙ any_front is_long refl (take n w) []
    ∙ ap (λ (k : ℕ). ltb 255 k || false) (length-take-le n w (omega (arith, c.all))) ∙ or_false (ltb 255 n))

pub count_end : (w : List ℕ) (n : ℕ) → IsWhole w n → length (names_of w) ≡ from_bool (ltb 0 n)
count_end w n c =
    ap (λ (t : List (List ℕ)). length t) (names_end w n c.all c.front) ∙ count_front (take n w) []
    ∙ ap (λ (k : ℕ). from_bool (ltb 0 k) + 0) (length-take-le n w (omega (arith, c.all))) ∙ omega arith

-- ---- the first slash

pub behind_slash : (text : List ℕ) → 0 < length text → get_or text 0 0 ≡ 47 → text ≡ 47 ∷ take (length text - 1) (drop 1 text)
behind_slash [] some e = absurd (omega (arith, some))
behind_slash (b ∷ bs) some e = ap (λ (k : ℕ). k ∷ bs) e ∙ ap (λ (t : List ℕ). 47 ∷ t) (sym (take_all (suc (length bs) - 1) bs (omega arith)))

-- ---- what `parsed` says, by the names behind the first slash

pub some_by : (text : List ℕ) → eqb (length text) 0 ≡ false → 0 < length text
some_by text e = let ne : length text ≢ 0 = eqb-false (length text) 0 e in omega (arith, ne)

pub no_end : (text : List ℕ) → eqb (get_or text (length text - 1) 0) 47 ≡ false → (ltb 1 (length text) && eqb (get_or text (length text - 1) 0) 47) ≡ false
no_end text e = and_right (ltb 1 (length text)) (eqb (get_or text (length text - 1) 0) 47) e

pub no_more : (text : List ℕ) → length text ≤ 1 → (ltb 1 (length text) && eqb (get_or text (length text - 1) 0) 47) ≡ false
no_more text few = ap (λ (b : Bool). b && eqb (get_or text (length text - 1) 0) 47) (le-ltb 1 (length text) few)

abbrev chain : Bool → Bool → Bool → Result (List (List ℕ)) Refusal → Result (List (List ℕ)) Refusal
chain null dots long r = cond null (Err Einval) (cond dots (Err Einval) (cond long (Err Enametoolong) r))

pub record IsAnswer (r : Result Shape Refusal) (p : Result (List (List ℕ)) Refusal) (names : List (List ℕ)) : Type 0 where
  pub answer : MatchResult r (λ shape. p ≡ Ok names) (λ refusal. p ≡ Err refusal)
  pub shape : IfOk r (λ shape. shape ≡ shape_of names)

by_chain : (null dots long : Bool) (names : List (List ℕ)) (r : Result Shape Refusal) (p : Result (List (List ℕ)) Refusal)
    → r ≡ cond null (Err Einval) (cond dots (Err Einval) (cond long (Err Enametoolong) (Ok (shape_of names))))
    → p ≡ chain null dots long (Ok names) → IsAnswer r p names
by_chain true dots long names r p h k = record { answer = rw h k; shape = rw h tt }
by_chain false true long names r p h k = record { answer = rw h k; shape = rw h tt }
by_chain false false true names r p h k = record { answer = rw h k; shape = rw h tt }
by_chain false false false names r p h k = record { answer = rw h k; shape = rw h refl }

pub text_answer : (text : List ℕ) (r : Result Shape Refusal) → 0 < length text → length text < 4096 → get_or text 0 0 ≡ 47
    → (ltb 1 (length text) && eqb (get_or text (length text - 1) 0) 47) ≡ false
    → r ≡ (let rest = take (length text - 1) (drop 1 text) in
    cond (list_any is_null rest) (Err Einval)
    (cond (list_any is_dots (names_of rest)) (Err Einval)
    (cond (list_any is_long (names_of rest)) (Err Enametoolong) (Ok (shape_of (names_of rest))))))
    → IsAnswer r (parsed text) (names_of text)
unfolding parsed
text_answer text r some less first ends h =
    let rest = take (length text - 1) (drop 1 text) in
    let e : text ≡ 47 ∷ rest = behind_slash text some first in
    let null : list_any is_null text ≡ list_any is_null rest = ap (list_any is_null) e in
    let names : names_of text ≡ names_of rest = ap names_of e in
    let none : eqb (length text) 0 ≡ false = ne_eqb (length text) 0 (λ z. omega (arith, some, z)) in
    let much : leb 4096 (length text) ≡ false = lt-leb 4096 (length text) less in
    let back : cond (list_any is_null rest) (Err Einval)
    (cond (list_any is_dots (names_of rest)) (Err Einval) (cond (list_any is_long (names_of rest)) (Err Enametoolong) (Ok (shape_of (names_of rest)))))
    ≡ cond (list_any is_null text) (Err Einval)
    (cond (list_any is_dots (names_of text)) (Err Einval)
    (cond (list_any is_long (names_of text)) (Err Enametoolong) (Ok (shape_of (names_of text))))) =
    rw (null, names) refl in
    by_chain (list_any is_null text) (list_any is_dots (names_of text)) (list_any is_long (names_of text)) (names_of text) r
    (parsed text) (h ∙ back) (rw (none, much, first, ends) refl)

-- ---- the names of a text that is a path

pub record IsPath (text : List ℕ) : Type 0 where
  pub some : 0 < length text
  pub first : get_or text 0 0 ≡ 47
  pub named : list_all is_name (names_of text) ≡ true
  pub no_null : list_any is_null text ≡ false

not_false : (b : Bool) → not b ≡ false → b ≡ true
not_false true h = refl
not_false false h = absurd cc

more_pass : (p : List ℕ → Bool) (x : List ℕ) (xs : List (List ℕ)) (t : Bool) → p x ≡ t → list_all p xs ≡ true → list_all p (cond t (x ∷ xs) xs) ≡ true
more_pass p x xs true e h = rw e h
more_pass p x xs false e h = h

all_pass : (p : List ℕ → Bool) (xs : List (List ℕ)) → list_all p (filter p xs) ≡ true
all_pass p [] = refl
all_pass p (x ∷ xs) = more_pass p x (filter p xs) (p x) refl (all_pass p xs)

pub is_path : (text : List ℕ) → parsed text ≡ Ok (names_of text) → IsPath text
is_path text h =
    let a = accepted text (names_of text) h in
    let some : length text ≢ 0 = eqb-false (length text) 0 a.some in
    record {
      some = omega (arith, some);
      first = eqb-true (get_or text 0 0) 47 (not_false (eqb (get_or text 0 0) 47) a.absolute);
      named = ap (list_all is_name) (sym (names_read text (names_of text) h)) ∙ all_pass is_name (pieces 47 text);
      no_null = a.no_zero;
    }

pub record IsFront (w : List ℕ) (n : ℕ) : Type 0 where
  pub within : n ≤ length w
  pub front : list_all is_name_byte (take n w) ≡ true
  pub end : n < length w → is_name_byte (get_or w n 0) ≡ false
  pub no_null : list_any is_null w ≡ false

pub is_cut : (w : List ℕ) (n : ℕ) → IsFront w n → n ≢ length w → IsCut w n
is_cut w n f ne =
    let inside : n < length w = omega (arith, f.within, ne) in
    record { inside = inside; front = f.front; slash = slash_there w n inside f.front (f.end inside) f.no_null }

pub front_by : (w : List ℕ) (n : ℕ) → IsFront w n → (t : Bool) → ltb n (length w) ≡ t → (ps : List (List ℕ)) × (names_of w ≡ filter is_nonempty (take n w ∷ ps))
front_by w n f true e = let lt = ltb-true n (length w) e in (pieces 47 (behind_front w n), names_step w n (is_cut w n f (λ z. omega (arith, lt, z))))
front_by w n f false e = let ge = ltb-false n (length w) e in ([], names_end w n (omega (arith, ge, f.within)) f.front)

pub front_is_name : (w : List ℕ) (n : ℕ) → IsFront w n → 0 < n → list_all is_name (names_of w) ≡ true → is_name (take n w) ≡ true
front_is_name w n f some h =
    let split = front_by w n f (ltb n (length w)) refl in
    let has : 0 < length (take n w) = omega (arith, length-take-le n w f.within, some) in
    (and_parts (is_name (take n w)) (list_all is_name (filter is_nonempty split.0))
    (sym (ap (list_all is_name) (split.1 ∙ name_front (take n w) split.0 has)) ∙ h)).0

named_by : (x : List ℕ) (ps : List (List ℕ)) → list_all is_name (filter is_nonempty (x ∷ ps)) ≡ true → list_all is_name (filter is_nonempty ps) ≡ true
named_by [] ps h = h
named_by (b ∷ bs) ps h =
    (and_parts (is_name (b ∷ bs)) (list_all is_name (filter is_nonempty ps)) (sym (ap (list_all is_name) (name_front (b ∷ bs) ps (omega arith))) ∙ h)).1

pub named_step : (w : List ℕ) (n : ℕ) → IsCut w n → list_all is_name (names_of w) ≡ true → list_all is_name (names_of (behind_front w n)) ≡ true
named_step w n c h = named_by (take n w) (pieces 47 (behind_front w n)) (sym (ap (list_all is_name) (names_step w n c)) ∙ h)

-- ---- names that are gathered

pub pushed : (all names more : List (List ℕ)) (x : List ℕ) (ps : List (List ℕ)) → all ≡ names ++ filter is_nonempty (x ∷ ps)
    → 0 < length x → more ≡ names ++ x ∷ [] → all ≡ more ++ filter is_nonempty ps
pushed all names more x ps h some e =
    h ∙ ap (λ (t : List (List ℕ)). names ++ t) (name_front x ps some) ∙ sym (append_assoc names (x ∷ []) (filter is_nonempty ps))
    ∙ ap (λ (t : List (List ℕ)). t ++ filter is_nonempty ps) (sym e)

pub passed : (all names more : List (List ℕ)) (x : List ℕ) (ps : List (List ℕ)) → all ≡ names ++ filter is_nonempty (x ∷ ps)
    → length x ≡ 0 → more ≡ names → all ≡ more ++ filter is_nonempty ps
passed all names more x ps h none e =
    h ∙ ap (λ (t : List (List ℕ)). names ++ t) (no_front x ps none) ∙ ap (λ (t : List (List ℕ)). t ++ filter is_nonempty ps) (sym e)
