-- The order of names, which the numbers of their first bytes decide where these differ.
use Rattle.std.proofs.Common.{◌≡◌, ◌≢◌, ℕ, zero, suc, ◌<◌, ◌≤◌, ◌+◌, ◌*◌, ◌^◌, ◌%◌, true, List, [], ◌∷◌, length, take, drop, IsTrue}
use Rattle.std.proofs.Common.{refl, sym, ap, ◌∙◌, arith, inl, inr}
use Rattle.std.specs.Prelude.{slice_index, slice_range}
use Rattle.std.specs.List.{list_all}
use Rattle.std.specs.Cmp.{nat_cmp_is}
use Rattle.std.specs.Cmp.Lexicographic.{slice_cmp}
use Rattle.std.specs.Ordering.{nat_cmp, ordering_then}
use Rattle.std.specs.declared.cmp.Ordering.TheVariants.{Less, Equal, Greater}
use Rattle.std.proofs.lemmas.Bool.{cases_order}
use Rattle.std.proofs.lemmas.List.{drop-drop, get_or-drop, length-drop, length-take}
use Rattle.std.proofs.lemmas.Nat.{mul-add-lt}
use Rattle.std.proofs.Math.Nat.{mul_comm}
use Rattle.byteorder.specs.Endian.{big_from}
use Rattle.byteorder.specs.Numbers.{big_from-cons, big_from-lt, big_from-take}
use Rattle.record_codec.specs.Names.{IsBytes, IsName, is_name, is_name_byte}
use Rattle.record_codec.proofs.FieldLaws.{and_both}

tail-bytes : (x : ℕ) (xs : List ℕ) → IsBytes (x ∷ xs) → IsBytes xs
tail-bytes x xs h i = h (suc i)

none-from : (n i : ℕ) → big_from i n [] ≡ 0
none-from zero i = refl
none-from (suc n) i = let rest = none-from n (suc i) in omega (arith, rest)

apart : (x y p r s : ℕ) → x < y → r < p → x * p + r < y * p + s
apart x y p r s under small = let h = mul-add-lt x p r y under small in let e = mul_comm p y in omega (arith, h, e)

-- the one with the smaller number comes first
below : (n : ℕ) (xs ys : List ℕ) → IsBytes xs → IsBytes ys → list_all is_name_byte xs ≡ true → list_all is_name_byte ys ≡ true
    → big_from 0 n xs < big_from 0 n ys → slice_cmp nat_cmp xs ys ≡ Less
below zero xs ys bx by nx ny h = absurd (omega (arith, h))
below (suc n) [] [] bx by nx ny h = absurd (omega (arith, h))
below (suc n) [] (y ∷ ys) bx by nx ny h = refl
below (suc n) (x ∷ xs) [] bx by nx ny h = let none = none-from (suc n) 0 in absurd (omega (arith, h, none))
below (suc n) (x ∷ xs) (y ∷ ys) bx by nx ny h =
    let front = big_from-cons 0 n x xs in
    let other = big_from-cons 0 n y ys in
    elim (cases_order x y) [
      | inl same ↦
          let e : x * 256 ^ n ≡ y * 256 ^ n = ap (λ k. k * 256 ^ n) same in
          ap (λ o. ordering_then o (slice_cmp nat_cmp xs ys)) (sym (nat_cmp_is x y Equal same))
          ∙ below n xs ys (tail-bytes x xs bx) (tail-bytes y ys by) (and_both _ _ nx).1 (and_both _ _ ny).1 (omega (arith, h, front, other, e))
      | inr (inl under) ↦ ap (λ o. ordering_then o (slice_cmp nat_cmp xs ys)) (sym (nat_cmp_is x y Less under))
      | inr (inr above) ↦
          let off = apart y x (256 ^ n) (big_from 0 n ys) (big_from 0 n xs) above (big_from-lt 0 n ys (tail-bytes y ys by)) in
          absurd (omega (arith, h, front, other, off))
    ]

-- and the one with the greater number behind
above : (n : ℕ) (xs ys : List ℕ) → IsBytes xs → IsBytes ys → list_all is_name_byte xs ≡ true → list_all is_name_byte ys ≡ true
    → big_from 0 n ys < big_from 0 n xs → slice_cmp nat_cmp xs ys ≡ Greater
above zero xs ys bx by nx ny h = absurd (omega (arith, h))
above (suc n) [] [] bx by nx ny h = absurd (omega (arith, h))
above (suc n) (x ∷ xs) [] bx by nx ny h = refl
above (suc n) [] (y ∷ ys) bx by nx ny h = let none = none-from (suc n) 0 in absurd (omega (arith, h, none))
above (suc n) (x ∷ xs) (y ∷ ys) bx by nx ny h =
    let front = big_from-cons 0 n x xs in
    let other = big_from-cons 0 n y ys in
    elim (cases_order x y) [
      | inl same ↦
          let e : x * 256 ^ n ≡ y * 256 ^ n = ap (λ k. k * 256 ^ n) same in
          ap (λ o. ordering_then o (slice_cmp nat_cmp xs ys)) (sym (nat_cmp_is x y Equal same))
          ∙ above n xs ys (tail-bytes x xs bx) (tail-bytes y ys by) (and_both _ _ nx).1 (and_both _ _ ny).1 (omega (arith, h, front, other, e))
      | inr (inr over) ↦ ap (λ o. ordering_then o (slice_cmp nat_cmp xs ys)) (sym (nat_cmp_is x y Greater over))
      | inr (inl under) ↦
          let off = apart x y (256 ^ n) (big_from 0 n xs) (big_from 0 n ys) under (big_from-lt 0 n xs (tail-bytes x xs bx)) in
          absurd (omega (arith, h, front, other, off))
    ]

-- no more bytes than these, with one number, are one list
positive : (x n : ℕ) → x ≢ 0 → 0 < x * 256 ^ n
positive x n some = let h = mul-add-lt 0 (256 ^ n) 0 x (omega (arith, some)) (pow-pos n) in let e = mul_comm (256 ^ n) x in omega (arith, h, e)
  where
    pow-pos : (n : ℕ) → 0 < 256 ^ n
    pow-pos zero = omega arith
    pow-pos (suc n) = let h = pow-pos n in omega (arith, h)

named-byte : (b : ℕ) → is_name_byte b ≡ true → b ≢ 0
named-byte zero h e = absurd cc
named-byte (suc b) h e = absurd (omega (arith, e))

alike : (n : ℕ) (xs ys : List ℕ) → IsBytes xs → IsBytes ys → list_all is_name_byte xs ≡ true → list_all is_name_byte ys ≡ true
    → length xs ≤ n → length ys ≤ n
    → big_from 0 n xs ≡ big_from 0 n ys → slice_cmp nat_cmp xs ys ≡ Equal
alike n [] [] bx by nx ny lx ly h = refl
alike zero [] (y ∷ ys) bx by nx ny lx ly h = absurd (omega (arith, ly))
alike zero (x ∷ xs) ys bx by nx ny lx ly h = absurd (omega (arith, lx))
alike (suc n) [] (y ∷ ys) bx by nx ny lx ly h =
    let none = none-from (suc n) 0 in
    let front = big_from-cons 0 n y ys in
    let some = positive y n (named-byte y (and_both _ _ ny).0) in
    absurd (omega (arith, h, none, front, some))
alike (suc n) (x ∷ xs) [] bx by nx ny lx ly h =
    let none = none-from (suc n) 0 in
    let front = big_from-cons 0 n x xs in
    let some = positive x n (named-byte x (and_both _ _ nx).0) in
    absurd (omega (arith, h, none, front, some))
alike (suc n) (x ∷ xs) (y ∷ ys) bx by nx ny lx ly h =
    let front = big_from-cons 0 n x xs in
    let other = big_from-cons 0 n y ys in
    elim (cases_order x y) [
      | inl same ↦
          let e : x * 256 ^ n ≡ y * 256 ^ n = ap (λ k. k * 256 ^ n) same in
          ap (λ o. ordering_then o (slice_cmp nat_cmp xs ys)) (sym (nat_cmp_is x y Equal same))
          ∙ alike n xs ys (tail-bytes x xs bx) (tail-bytes y ys by) (and_both _ _ nx).1 (and_both _ _ ny).1 (omega (arith, lx))
          (omega (arith, ly)) (omega (arith, h, front, other, e))
      | inr (inl under) ↦
          let off = apart x y (256 ^ n) (big_from 0 n xs) (big_from 0 n ys) under (big_from-lt 0 n xs (tail-bytes x xs bx)) in
          absurd (omega (arith, h, front, other, off))
      | inr (inr above) ↦
          let off = apart y x (256 ^ n) (big_from 0 n ys) (big_from 0 n xs) above (big_from-lt 0 n ys (tail-bytes y ys by)) in
          absurd (omega (arith, h, front, other, off))
    ]

-- bytes that are the same at each index have the same number
pub same-front : (n i : ℕ) (xs ys : List ℕ) → ((k : ℕ) → slice_index xs k ≡ slice_index ys k) → big_from i n xs ≡ big_from i n ys
same-front zero i xs ys same = refl
same-front (suc n) i xs ys same = (λ k. same i k * 256 ^ n + same-front n (suc i) xs ys same k)

-- the first bytes, with zero bytes behind them
pub taken-front : (len : ℕ) (xs : List ℕ) → ((i : ℕ) → len ≤ i → slice_index xs i ≡ 0) → (k : ℕ) → slice_index xs k ≡ slice_index (take len xs) k
taken-front len [] zeros k = ap (λ ys. slice_index ys k) (sym (empty len))
  where
    empty : (len : ℕ) → ◌≡◌ {A = List ℕ} (take len []) []
    empty zero = refl
    empty (suc len) = refl
taken-front zero (x ∷ xs) zeros k = zeros k (omega arith)
taken-front (suc len) (x ∷ xs) zeros zero = refl
taken-front (suc len) (x ∷ xs) zeros (suc k) = taken-front len xs (λ i h. zeros (suc i) (omega arith)) k

bytes-named : (name : List ℕ) → IsTrue (is_name name) → list_all is_name_byte name ≡ true
unfolding is_name
bytes-named name h = (and_both _ _ h).1

-- bytes that stand in a name, and those behind some of them do too
record AreNamed (xs : List ℕ) : Type 0 where
  bytes : IsBytes xs
  named : list_all is_name_byte xs ≡ true

named : (name : List ℕ) → IsName name → AreNamed name
named name h = record { bytes = h.bytes; named = bytes-named name h.named }

dropped : (k : ℕ) (xs : List ℕ) → AreNamed xs → AreNamed (drop k xs)
dropped zero xs h = h
dropped (suc k) [] h = h
dropped (suc k) (x ∷ xs) h = dropped k xs (record { bytes = tail-bytes x xs h.bytes; named = (and_both _ _ h.named).1 })

-- where the first bytes have one number, those behind decide the order
behind : (n k : ℕ) (xs ys : List ℕ) → AreNamed xs → AreNamed ys → k ≤ n → big_from 0 n xs ≡ big_from 0 n ys
    → slice_cmp nat_cmp xs ys ≡ slice_cmp nat_cmp (drop k xs) (drop k ys)
behind n zero xs ys mine theirs kn h = refl
behind zero (suc k) xs ys mine theirs kn h = absurd (omega (arith, kn))
behind (suc n) (suc k) [] [] mine theirs kn h = refl
behind (suc n) (suc k) [] (y ∷ ys) mine theirs kn h =
    let none = none-from (suc n) 0 in
    let front = big_from-cons 0 n y ys in
    let some = positive y n (named-byte y (and_both _ _ theirs.named).0) in
    absurd (omega (arith, h, none, front, some))
behind (suc n) (suc k) (x ∷ xs) [] mine theirs kn h =
    let none = none-from (suc n) 0 in
    let front = big_from-cons 0 n x xs in
    let some = positive x n (named-byte x (and_both _ _ mine.named).0) in
    absurd (omega (arith, h, none, front, some))
behind (suc n) (suc k) (x ∷ xs) (y ∷ ys) mine theirs kn h =
    let front = big_from-cons 0 n x xs in
    let other = big_from-cons 0 n y ys in
    elim (cases_order x y) [
      | inl same ↦
          let e : x * 256 ^ n ≡ y * 256 ^ n = ap (λ k. k * 256 ^ n) same in
          ap (λ o. ordering_then o (slice_cmp nat_cmp xs ys)) (sym (nat_cmp_is x y Equal same))
          ∙ behind n k xs ys (dropped 1 (x ∷ xs) mine) (dropped 1 (y ∷ ys) theirs) (omega (arith, kn)) (omega (arith, h, front, other, e))
      | inr (inl under) ↦
          let off = apart x y (256 ^ n) (big_from 0 n xs) (big_from 0 n ys) under (big_from-lt 0 n xs (tail-bytes x xs mine.bytes)) in
          absurd (omega (arith, h, front, other, off))
      | inr (inr above) ↦
          let off = apart y x (256 ^ n) (big_from 0 n ys) (big_from 0 n xs) above (big_from-lt 0 n ys (tail-bytes y ys theirs.bytes)) in
          absurd (omega (arith, h, front, other, off))
    ]

-- where the first bytes have two numbers, these decide it
parted : (n : ℕ) (xs ys : List ℕ) → AreNamed xs → AreNamed ys → big_from 0 n xs ≢ big_from 0 n ys
    → nat_cmp (big_from 0 n xs) (big_from 0 n ys) ≡ slice_cmp nat_cmp xs ys
parted n xs ys mine theirs differ =
    let f = big_from 0 n xs in
    let g = big_from 0 n ys in
    elim (cases_order f g) [
      | inl same ↦ absurd (differ same)
      | inr (inl under) ↦ sym (nat_cmp_is f g Less under) ∙ sym (below n xs ys mine.bytes theirs.bytes mine.named theirs.named under)
      | inr (inr over) ↦ sym (nat_cmp_is f g Greater over) ∙ sym (above n xs ys mine.bytes theirs.bytes mine.named theirs.named over)
    ]

-- the numbers of all bytes decide it
whole : (n : ℕ) (xs ys : List ℕ) → AreNamed xs → AreNamed ys → length xs ≤ n → length ys ≤ n
    → nat_cmp (big_from 0 n xs) (big_from 0 n ys) ≡ slice_cmp nat_cmp xs ys
whole n xs ys mine theirs lx ly =
    let f = big_from 0 n xs in
    let g = big_from 0 n ys in
    elim (cases_order f g) [
      | inl same ↦
          sym (nat_cmp_is f g Equal same) ∙ sym (alike n xs ys mine.bytes theirs.bytes mine.named theirs.named lx ly same)
      | inr (inl under) ↦ parted n xs ys mine theirs (λ e. absurd (omega (arith, under, e)))
      | inr (inr over) ↦ parted n xs ys mine theirs (λ e. absurd (omega (arith, over, e)))
    ]

-- names whose first bytes have two numbers are ordered as these
pub fronts_decide : (xs ys vs ws : List ℕ) (f g : ℕ) → xs ≡ vs → ys ≡ ws → IsName xs → IsName ys → f ≡ big_from 0 8 xs
    → g ≡ big_from 0 8 ys → f ≢ g → nat_cmp f g ≡ slice_cmp nat_cmp vs ws
fronts_decide xs ys vs ws f g same also nx ny front other differ =
    (λ k. nat_cmp (front k) (other k))
    ∙ parted 8 xs ys (named xs nx) (named ys ny) (λ e. differ (front ∙ e ∙ sym other))
    ∙ (λ k. slice_cmp nat_cmp (same k) (also k))

by-last : (x p n : ℕ) → p ≡ 256 * n → x * p ≡ 256 * (x * n)
by-last x p n e = ap (λ (q : ℕ). x * q) e ∙ regrouped
  where
    regrouped : x * (256 * n) ≡ 256 * (x * n)
    regrouped = omega arith

-- a number of bytes whose last byte is zero is that of fewer bytes
last-zero : (n : ℕ) (xs : List ℕ) → AreNamed xs → big_from 0 (suc n) xs % 256 ≡ 0 → length xs ≤ n
last-zero n [] h e = omega arith
last-zero zero (x ∷ xs) h e =
    let front = big_from-cons 0 0 x xs in
    let small = h.bytes 0 in
    let some = named-byte x (and_both _ _ h.named).0 in
    absurd (omega (arith, e, front, small, some))
last-zero (suc n) (x ∷ xs) h e =
    let first : big_from 0 (suc (suc n)) (x ∷ xs) ≡ x * 256 ^ suc n + big_from 1 (suc n) (x ∷ xs) = refl in
    let front = big_from-cons 0 (suc n) x xs in
    let times : x * 256 ^ suc n ≡ 256 * (x * 256 ^ n) = by-last x (256 ^ suc n) (256 ^ n) (omega arith) in
    let rest = last-zero n xs (dropped 1 (x ∷ xs) h) (omega (arith, e, first, front, times)) in
    omega (arith, rest)

-- names of fewer than eight bytes whose first bytes have one number are one name
pub fronts_agree : (xs ys vs ws : List ℕ) (f g : ℕ) → xs ≡ vs → ys ≡ ws → IsName xs → IsName ys → f ≡ big_from 0 8 xs
    → g ≡ big_from 0 8 ys → f ≡ g → f % 256 ≡ 0 → Equal ≡ slice_cmp nat_cmp vs ws
fronts_agree xs ys vs ws f g also too nx ny front other same ends =
    let mine = last-zero 7 xs (named xs nx) (ap (λ (n : ℕ). n % 256) (sym front) ∙ ends) in
    let theirs = last-zero 7 ys (named ys ny) (ap (λ (n : ℕ). n % 256) (sym other ∙ sym same) ∙ ends) in
    sym (alike 8 xs ys nx.bytes ny.bytes (named xs nx).named (named ys ny).named (omega (arith, mine)) (omega (arith, theirs))
    (sym front ∙ same ∙ other))
    ∙ (λ k. slice_cmp nat_cmp (also k) (too k))

-- bytes behind a short name are zero, so those from one byte on have one number with and without them
kept-number : (n i m len : ℕ) (kept : List ℕ) → n ≤ m → ((k : ℕ) → len ≤ k → slice_index kept k ≡ 0)
    → big_from 0 n (take m (drop i kept)) ≡ big_from 0 n (drop i (take len kept))
kept-number n i m len kept within zeros =
    big_from-take 0 n m (drop i kept) (omega arith)
    ∙ same-front n 0 (drop i kept) (drop i (take len kept)) (λ k.
    get_or-drop i kept k 0 ∙ taken-front len kept zeros (i + k) ∙ sym (get_or-drop i (take len kept) k 0))

-- two short names: how many bytes each has, and the bytes where it is kept
pub record AreShort (len other_len : ℕ) (kept other : List ℕ) : Type 0 where
  pub name : IsName (take len kept)
  pub other_name : IsName (take other_len other)
  pub short : len < 31
  pub other_short : other_len < 31
  pub zeros : (k : ℕ) → len ≤ k → slice_index kept k ≡ 0
  pub other_zeros : (k : ℕ) → other_len ≤ k → slice_index other k ≡ 0
  pub fronts : big_from 0 8 (take len kept) ≡ big_from 0 8 (take other_len other)

-- the bytes behind the first eight, where they have two numbers
pub middles_decide : (len other_len : ℕ) (kept other : List ℕ) (f g : ℕ) → AreShort len other_len kept other
    → f ≡ big_from 0 16 (slice_range kept 8 30) → g ≡ big_from 0 16 (slice_range other 8 30) → f ≢ g
    → nat_cmp f g ≡ slice_cmp nat_cmp (take len kept) (take other_len other)
middles_decide len other_len kept other f g h middle other_middle differ =
    let xs = take len kept in
    let ys = take other_len other in
    let one = middle ∙ kept-number 16 8 22 len kept (omega arith) h.zeros in
    let two = other_middle ∙ kept-number 16 8 22 other_len other (omega arith) h.other_zeros in
    (λ k. nat_cmp (one k) (two k))
    ∙ parted 16 (drop 8 xs) (drop 8 ys) (dropped 8 xs (named xs h.name)) (dropped 8 ys (named ys h.other_name)) (λ e. differ (one ∙ e ∙ sym two))
    ∙ sym (behind 8 8 xs ys (named xs h.name) (named ys h.other_name) (omega arith) h.fronts)

last-eight : (len : ℕ) (kept : List ℕ) → len < 31 → length (drop 22 (take len kept)) ≤ 8
last-eight len kept short =
    let e = length-drop 22 (take len kept) in
    let f = length-take len kept in
    omega (arith, e, f, short)

-- and where they have one number, the last eight of thirty
pub backs_decide : (len other_len : ℕ) (kept other : List ℕ) (m n f g : ℕ) → AreShort len other_len kept other
    → m ≡ big_from 0 16 (slice_range kept 8 30) → n ≡ big_from 0 16 (slice_range other 8 30) → m ≡ n
    → f ≡ big_from 0 8 (slice_range kept 22 30) → g ≡ big_from 0 8 (slice_range other 22 30)
    → nat_cmp f g ≡ slice_cmp nat_cmp (take len kept) (take other_len other)
backs_decide len other_len kept other m n f g h middle other_middle same back other_back =
    let xs = take len kept in
    let ys = take other_len other in
    let mine = named xs h.name in
    let theirs = named ys h.other_name in
    let middles : big_from 0 16 (drop 8 xs) ≡ big_from 0 16 (drop 8 ys) =
    sym (kept-number 16 8 22 len kept (omega arith) h.zeros) ∙ sym middle ∙ same ∙ other_middle
    ∙ kept-number 16 8 22 other_len other (omega arith) h.other_zeros in
    (λ k. nat_cmp ((back ∙ kept-number 8 22 8 len kept (omega arith) h.zeros) k)
    ((other_back ∙ kept-number 8 22 8 other_len other (omega arith) h.other_zeros) k))
    ∙ whole 8 (drop 22 xs) (drop 22 ys) (dropped 22 xs mine) (dropped 22 ys theirs)
    (last-eight len kept h.short) (last-eight other_len other h.other_short)
    ∙ sym ((λ k. slice_cmp nat_cmp (drop-drop 14 8 xs k) (drop-drop 14 8 ys k)))
    ∙ sym (behind 16 14 (drop 8 xs) (drop 8 ys) (dropped 8 xs mine) (dropped 8 ys theirs) (omega arith) middles)
    ∙ sym (behind 8 8 xs ys mine theirs (omega arith) h.fronts)
