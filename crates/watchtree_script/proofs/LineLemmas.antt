-- Lines, and the printable bytes at the front of a text.
use Rattle.std.proofs.Common.{All, ◌≡◌, ◌==◌, ◌&&◌, ◌||◌, ℕ, zero, suc, ◌+◌, ◌%◌, ◌^◌, ◌≤◌, ◌<◌, Bool, true, false, not, cond, eqb}
use Rattle.std.proofs.Common.{List, [], ◌∷◌, ◌++◌, refl, sym, ap, ◌∙◌, length, take, drop, get_or, map, Fits, w8, arith, inl, inr, ◌⊎◌}
use Rattle.std.specs.List.{list_all, prefix_len}
use Rattle.std.specs.Simd.Lanes.{mask_l}
use Rattle.std.proofs.lemmas.Bool.{agree_below, agree_below_at, cases_eq, cases_lt, eq-eqb, ne_eqb, and_parts, eqb-true}
use Rattle.std.proofs.lemmas.List.{drop_more, get_or-take, length-map, length-take-le, take-append-drop, take_all}
use Rattle.std.proofs.lemmas.List.Elements.{All-from_get_or}
use Rattle.std.proofs.lemmas.List.Folds.{list_all_at, list_any-append, list_any_at, prefix_len-append}
use Rattle.std.proofs.lemmas.List.Splits.{slice_split_at, slice_split_none}
use Rattle.std.proofs.lemmas.List.Sums.{list_all-from_AllPass, prefix_len-drop_all, prefix_len-le-length, prefix_len_passes, prefix_len_stops}
use Rattle.std.proofs.lemmas.Simd.{leading_from_mask_l, map-map, mask_l-mod, trailing_mask_l}
use lib.Count.{count_trailing_zeros}
use lib.Lanes.{Each1, top}
use Rattle.tree_paths.specs.Pieces.{pieces}
use Rattle.tree_paths.proofs.MaskLemmas.{none-set}
use Rattle.watchtree_script.specs.Lines.{is_line_byte}
use Rattle.watchtree_script.specs.Reading.{is_before, stops_in}
use Rattle.watchtree_script.specs.Words.{is_escaped}

-- ---- a block

abbrev pub is_stop : ℕ → ℕ → Bool
is_stop stop b = not (is_before stop b)

map-agree : (f g : Bool → ℕ → Bool) → ((t : Bool) → agree_below (f t) (g t) 256 ≡ true) → (p : ℕ → Bool) (bs : List ℕ) → Each1 (Fits w8) bs
    → map (λ b. f (p b) b) bs ≡ map (λ b. g (p b) b) bs
map-agree f g all p [] fits = refl
map-agree f g all p (b ∷ bs) fits = λ i. agree_below_at (f (p b)) (g (p b)) 256 b (all (p b)) fits.0.fits i ∷ map-agree f g all p bs fits.1 i

-- lanes that were computed from bytes, and from whether each is the stop, have their top bits set where the bytes are stops
pub stops-are : (stop : ℕ) (block lanes : List ℕ) → length block ≡ 16 → Each1 (Fits w8) block → (f : Bool → ℕ → ℕ)
    → lanes ≡ map (λ b. f (b == stop) b) block → ((t : Bool) → agree_below (λ b. top 7 (f t b)) (λ b. not (is_line_byte b && not t)) 256 ≡ true)
    → mask_l (map (top 7) lanes) % 2 ^ 64 ≡ stops_in stop block
stops-are stop block lanes long fits f are all =
    ap (λ l. mask_l l % 2 ^ 64)
    (ap (map (top 7)) are ∙ map-map (top 7) (λ b. f (b == stop) b) block
    ∙ map-agree (λ t b. top 7 (f t b)) (λ t b. not (is_line_byte b && not t)) all (λ b. b == stop) block fits)
    ∙ mask_l-mod (map (is_stop stop) block) 64 (omega (arith, length-map block (is_stop stop), long))

-- ---- the front before a stop

abbrev pub front_len : ℕ → List ℕ → ℕ
front_len stop bs = prefix_len (is_before stop) bs

twice : (t : Bool) → not (not t) ≡ t
twice true = refl
twice false = refl

still : (stop : ℕ) (bs : List ℕ) → prefix_len (λ b. not (is_stop stop b)) bs ≡ front_len stop bs
still stop bs = λ i. prefix_len (λ b. twice (is_before stop b) i) bs

split : (stop n : ℕ) (bs : List ℕ) → n ≤ length bs
    → front_len stop bs ≡ cond (eqb (front_len stop (take n bs)) n) (n + front_len stop (drop n bs)) (front_len stop (take n bs))
split stop n bs le =
    let front = take n bs in
    ap (front_len stop) (sym (take-append-drop n bs)) ∙ prefix_len-append (is_before stop) front (drop n bs)
    ∙ ap (λ m. cond (eqb (front_len stop front) m) (m + front_len stop (drop n bs)) (front_len stop front)) (length-take-le n bs le)

-- a block without a stop
pub block-passes : (stop : ℕ) (bs : List ℕ) → 16 ≤ length bs → stops_in stop (take 16 bs) ≡ 0
    → front_len stop bs ≡ 16 + front_len stop (drop 16 bs)
block-passes stop bs long none =
    let block = take 16 bs in
    let size : length block ≡ 16 = length-take-le 16 bs long in
    let whole : front_len stop block ≡ 16 = sym (still stop block) ∙ leading_from_mask_l (is_stop stop) block none ∙ size in
    split stop 16 bs long
    ∙ ap (λ t. cond t (16 + front_len stop (drop 16 bs)) (front_len stop block)) (eq-eqb (front_len stop block) 16 whole)

-- and one with a stop
pub block-stops : (stop : ℕ) (bs : List ℕ) → 16 ≤ length bs → 0 < stops_in stop (take 16 bs)
    → front_len stop bs ≡ count_trailing_zeros 64 (stops_in stop (take 16 bs))
block-stops stop bs long some =
    let block = take 16 bs in
    let size : length block ≡ 16 = length-take-le 16 bs long in
    let at = count_trailing_zeros 64 (stops_in stop block) in
    let counted : at ≡ prefix_len (λ b. not (is_stop stop b)) block = trailing_mask_l (is_stop stop) 64 block (omega (arith, size)) some in
    let here : front_len stop block ≡ at = sym (still stop block) ∙ sym counted in
    let ne : front_len stop block ≡ 16 → ⊥ =
    λ e. let none = none-set (is_stop stop) block (still stop block ∙ e ∙ sym size) in omega (arith, some, none) in
    split stop 16 bs long
    ∙ ap (λ t. cond t (16 + front_len stop (drop 16 bs)) (front_len stop block)) (ne_eqb (front_len stop block) 16 ne) ∙ here

pub front-within : (stop : ℕ) (bs : List ℕ) → front_len stop bs ≤ length bs
front-within stop bs = prefix_len-le-length (is_before stop) bs

-- ---- the printable front

and-true : (t : Bool) → (t && true) ≡ t
and-true true = refl
and-true false = refl

-- a line feed is no printable byte, so that what stands before it is the printable front
pub printable-len : (bs : List ℕ) → front_len 10 bs ≡ prefix_len is_line_byte bs
printable-len bs = λ i. prefix_len (λ b. same b i) bs
  where
    same : (b : ℕ) → is_before 10 b ≡ is_line_byte b
    same b = by (b == 10) refl
      where
        by : (t : Bool) → (b == 10) ≡ t → (is_line_byte b && not t) ≡ is_line_byte b
        by true e = let is : b ≡ 10 = eqb-true b 10 e in ap (λ x. is_line_byte x && false) is ∙ sym (ap is_line_byte is)
        by false e = and-true (is_line_byte b)

-- what stands before an escape, and behind it
pub behind-escape : (bs : List ℕ) → prefix_len is_line_byte bs ≡ front_len 37 bs + prefix_len is_line_byte (drop (front_len 37 bs) bs)
behind-escape [] = refl
behind-escape (b ∷ bs) =
    by (is_before 37 b) (is_line_byte b) refl (λ h. (and_parts (is_line_byte b) (not (b == 37)) h).0) (behind-escape bs)
  where
    front : ℕ
    front = front_len 37 bs

    printable : ℕ
    printable = prefix_len is_line_byte bs

    by : (t u : Bool) → u ≡ is_line_byte b → (t ≡ true → u ≡ true) → printable ≡ front + prefix_len is_line_byte (drop front bs)
        → cond u (1 + printable) 0 ≡ cond t (1 + front) 0 + prefix_len is_line_byte (drop (cond t (1 + front) 0) (b ∷ bs))
    by true true e h more =
        let index : 1 + front ≡ suc front = omega arith in
        let rest : prefix_len is_line_byte (drop (1 + front) (b ∷ bs)) ≡ prefix_len is_line_byte (drop front bs) =
        ap (λ m. prefix_len is_line_byte (drop m (b ∷ bs))) index in
        omega (arith, rest, more)
    by true false e h more = absurd (let never = h refl in cc)
    by false u e h more = let same = ap (λ t. cond t (1 + printable) 0) e in omega (arith, same)

-- where the bytes before an escape are counted, and then those from it to a line feed, these are the printable front
pub escaped-front : (bs : List ℕ) (n rest : ℕ) → n ≡ front_len 37 bs → rest ≡ front_len 10 (drop n bs)
    → n + rest ≡ prefix_len is_line_byte bs
escaped-front bs n rest front len =
    let at = ap (λ m. prefix_len is_line_byte (drop m bs)) front in
    omega (arith, len ∙ printable-len (drop n bs), at, front, behind-escape bs)

-- no byte before it is escaped
pub unescaped-front : (bs : List ℕ) → is_escaped (take (front_len 37 bs) bs) ≡ false
unescaped-front [] = refl
unescaped-front (b ∷ bs) =
    by (is_before 37 b) (λ h. unset (b == 37) (and_parts (is_line_byte b) (not (b == 37)) h).1) (unescaped-front bs)
  where
    front : ℕ
    front = front_len 37 bs

    unset : (t : Bool) → not t ≡ true → t ≡ false
    unset false h = refl
    unset true h = absurd cc

    by : (t : Bool) → (t ≡ true → (b == 37) ≡ false) → is_escaped (take front bs) ≡ false → is_escaped (take (cond t (1 + front) 0) (b ∷ bs)) ≡ false
    by true h more =
        let index : 1 + front ≡ suc front = omega arith in
        ap (λ m. is_escaped (take m (b ∷ bs))) index ∙ rw (h refl) more
    by false h more = refl

-- and all are printable
pub plain-front : (bs : List ℕ) → list_all is_line_byte (take (front_len 37 bs) bs) ≡ true
plain-front [] = refl
plain-front (b ∷ bs) =
    by (is_before 37 b) (λ h. (and_parts (is_line_byte b) (not (b == 37)) h).0) (plain-front bs)
  where
    front : ℕ
    front = front_len 37 bs

    by : (t : Bool) → (t ≡ true → is_line_byte b ≡ true) → list_all is_line_byte (take front bs) ≡ true
        → list_all is_line_byte (take (cond t (1 + front) 0) (b ∷ bs)) ≡ true
    by true h more =
        let index : 1 + front ≡ suc front = omega arith in
        ap (λ m. list_all is_line_byte (take m (b ∷ bs))) index ∙ rw (h refl) more
    by false h more = refl

unprintable : (t u : Bool) → (t && not u) ≡ false → u ≡ false → t ≡ false
unprintable true true h e = absurd cc
unprintable true false h e = absurd cc
unprintable false u h e = refl

-- where it ends at no escape, it is the printable front
pub ends-unescaped : (bs : List ℕ) → (front_len 37 bs < length bs → (get_or bs (front_len 37 bs) 0 == 37) ≡ false)
    → prefix_len is_line_byte bs ≡ front_len 37 bs
ends-unescaped bs none = by (cases_lt (front_len 37 bs) (length bs))
  where
    n : ℕ
    n = front_len 37 bs

    by : ((n < length bs) ⊎ (length bs ≤ n)) → prefix_len is_line_byte bs ≡ n
    by (inl lt) =
        let b = get_or bs n 0 in
        let stop : is_before 37 b ≡ false = prefix_len_stops (is_before 37) bs 0 lt in
        let other = unprintable (is_line_byte b) (b == 37) stop (none lt) in
        let nothing : prefix_len is_line_byte (drop n bs) ≡ 0 =
        ap (prefix_len is_line_byte) (drop_more bs n 0 lt)
        ∙ ap (λ t. cond t (1 + prefix_len is_line_byte (drop (n + 1) bs)) 0) other in
        omega (arith, behind-escape bs, nothing)
    by (inr ge) =
        let nothing : prefix_len is_line_byte (drop n bs) ≡ 0 = prefix_len-drop_all is_line_byte bs n ge in
        omega (arith, behind-escape bs, nothing)

-- and else a byte of the printable front is escaped
pub ends-escaped : (bs : List ℕ) → front_len 37 bs < length bs → get_or bs (front_len 37 bs) 0 ≡ 37
    → is_escaped (take (prefix_len is_line_byte bs) bs) ≡ true
ends-escaped bs lt is =
    let n = front_len 37 bs in
    let m = prefix_len is_line_byte bs in
    let within : m ≤ length bs = prefix_len-le-length is_line_byte bs in
    let one : prefix_len is_line_byte (drop n bs) ≡ 1 + prefix_len is_line_byte (drop (n + 1) bs) =
    ap (prefix_len is_line_byte) (drop_more bs n 0 lt ∙ ap (λ b. b ∷ drop (n + 1) bs) is) in
    let before : n < m = omega (arith, behind-escape bs, one) in
    list_any_at (λ b. b == 37) (take m bs) n 0 (omega (arith, before, length-take-le m bs within))
    (ap (λ b. b == 37) (get_or-take m bs n 0 before ∙ is))

pub front-passes : (bs : List ℕ) → list_all is_line_byte (take (prefix_len is_line_byte bs) bs) ≡ true
front-passes bs =
    let n = prefix_len is_line_byte bs in
    let within : n ≤ length bs = prefix_len-le-length is_line_byte bs in
    list_all-from_AllPass is_line_byte (take n bs)
    (All-from_get_or (λ b. is_line_byte b ≡ true) (take n bs) 0
    (λ k lt. let less : k < n = omega (arith, lt, length-take-le n bs within) in
    ap is_line_byte (get_or-take n bs k 0 less) ∙ prefix_len_passes is_line_byte bs k 0 less))

-- all are printable if and only if the front is all
pub all-printable : (bs : List ℕ) → (prefix_len is_line_byte bs == length bs) ≡ list_all is_line_byte bs
all-printable bs =
    let n = prefix_len is_line_byte bs in
    elim (cases_eq n (length bs)) [
      | inl e ↦
          let whole : take n bs ≡ bs = take_all n bs (omega (arith, e)) in
          eq-eqb n (length bs) e ∙ sym (ap (list_all is_line_byte) (sym whole) ∙ front-passes bs)
      | inr ne ↦
          let lt : n < length bs = omega (arith, ne, prefix_len-le-length is_line_byte bs) in
          ne_eqb n (length bs) ne ∙ sym (list_all_at is_line_byte bs n 0 lt (prefix_len_stops is_line_byte bs 0 lt))
    ]

-- the escaped bytes of two parts are those of both
pub all-escaped : (n : ℕ) (bs : List ℕ) → (is_escaped (take n bs) || is_escaped (drop n bs)) ≡ is_escaped bs
all-escaped n bs = sym (list_any-append (λ b. b == 37) (take n bs) (drop n bs)) ∙ ap is_escaped (take-append-drop n bs)

-- ---- a line of printable bytes

no_feed : (b : ℕ) → is_line_byte b ≡ true → (b == 10) ≡ false
no_feed b h = not_feed (b == 10) refl
  where
    not_feed : (t : Bool) → (b == 10) ≡ t → t ≡ false
    not_feed false e = refl
    not_feed true e = let is : b ≡ 10 = eqb-true b 10 e in absurd (let off : is_line_byte 10 ≡ true = ap is_line_byte (sym is) ∙ h in cc)

pub no_feeds : (bs : List ℕ) → list_all is_line_byte bs ≡ true → All (λ b. (b == 10) ≡ false) bs
no_feeds [] h k d lt = absurd (omega (arith, lt))
no_feeds (b ∷ bs) h zero d lt = no_feed b (and_parts (is_line_byte b) (list_all is_line_byte bs) h).0
no_feeds (b ∷ bs) h (suc k) d lt = no_feeds bs (and_parts (is_line_byte b) (list_all is_line_byte bs) h).1 k d (omega (arith, lt))

-- it ends at the line feed behind it
pub line-cut : (bs : List ℕ) (n : ℕ) → n < length bs → list_all is_line_byte (take n bs) ≡ true → get_or bs n 0 ≡ 10
    → pieces 10 bs ≡ take n bs ∷ pieces 10 (drop (n + 1) bs)
line-cut bs n lt h e =
    let parts : bs ≡ take n bs ++ 10 ∷ drop (n + 1) bs =
    sym (take-append-drop n bs) ∙ ap (λ (t : List ℕ). take n bs ++ t) (drop_more bs n 0 lt) ∙ ap (λ (b : ℕ). take n bs ++ b ∷ drop (n + 1) bs) e in
    ap (pieces 10) parts ∙ slice_split_at (λ b. b == 10) (take n bs) 10 (drop (n + 1) bs) (no_feeds (take n bs) h) refl

-- and where nothing stands behind it, it is all
pub line-end : (bs : List ℕ) (n : ℕ) → n ≡ length bs → list_all is_line_byte (take n bs) ≡ true → pieces 10 bs ≡ bs ∷ []
line-end bs n e h =
    let whole : take n bs ≡ bs = take_all n bs (omega (arith, e)) in
    slice_split_none (λ b. b == 10) bs (no_feeds bs (ap (list_all is_line_byte) (sym whole) ∙ h))
