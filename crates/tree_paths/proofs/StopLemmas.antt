-- Stops as bits: where the names of a text end.
use Rattle.std.proofs.Common.{◌≡◌, ◌≢◌, ℕ, ◌+◌, ◌-◌, ◌*◌, ◌/◌, ◌%◌, ◌^◌, ◌<◌, ◌≤◌, Bool, true, false, not, cond}
use Rattle.std.proofs.Common.{List, [], ◌∷◌, ◌++◌, length, take, drop, get_or, map, Fits, w8, w64, refl, sym, ap, subst, ◌∙◌, arith, inl, inr}
use Rattle.std.proofs.Common.{length-append, take_all, pow_mono}
use Rattle.std.proofs.Math.Nat.{mod-eq_of_lt}
use Rattle.std.proofs.Math.Seq.{take-add}
use Rattle.std.specs.List.{list_all, prefix_len}
use Rattle.std.specs.Simd.Lanes.{mask_l}
use Rattle.std.proofs.lemmas.Bool.{agree_below, agree_below_at, not-true, not-false, cases_lt}
use Rattle.std.proofs.lemmas.List.{length-map, get_or-drop, take-append-le, length-drop, length-take-le, map-append}
use Rattle.std.proofs.lemmas.List.{drop-map, drop-take, drop-drop, drop-append-le, take-append-drop, get_or-take, get_or_append_left}
use Rattle.std.proofs.lemmas.List.Folds.{list_all-append}
use Rattle.std.proofs.lemmas.List.Sums.{list_all-from_AllPass}
use Rattle.std.proofs.lemmas.List.Elements.{All-from_get_or}
use Rattle.std.proofs.lemmas.Simd.{map-map, mask_l-mod, mask_l-lt, chunk-fits, length-chunk, trailing_mask_l}
use Rattle.std.proofs.lemmas.Simd.{run_in_chunk_le, run_in_chunk_fails, run_in_chunk_stops}
use lib.Lanes.{Each1, chunk, top}
use lib.Count.{count_trailing_zeros}
use Rattle.record_codec.specs.Names.{is_name_byte}
use Rattle.tree_paths.specs.PathText.{is_stop, stops_in, IsMarked}
use Rattle.tree_paths.proofs.MaskLemmas.{mask-append, mask-drop, none-set}

-- ---- a block

map-agree : (f g : ℕ → Bool) → agree_below f g 256 ≡ true → (xs : List ℕ) → Each1 (Fits w8) xs → map f xs ≡ map g xs
map-agree f g all [] fits = refl
map-agree f g all (x ∷ xs) fits = λ i. agree_below_at f g 256 x all fits.0.fits i ∷ map-agree f g all xs fits.1 i

pub block-is : (d : List ℕ) (i n : ℕ) (z : List ℕ) → n ≤ 64 → i + n ≤ length d → ((k : ℕ) → Fits w8 (get_or d k 0)) → (f : ℕ → ℕ)
    → z ≡ map f (chunk i n d) → agree_below (λ x. top 7 (f x)) is_stop 256 ≡ true → mask_l (map (top 7) z) % 2 ^ 64 ≡ stops_in (take n (drop i d))
block-is d i n z few within fits f lanes all =
    let v = chunk i n d in
    let long = length-chunk i n d within in
    ap (λ l. mask_l l % 2 ^ 64) (ap (map (top 7)) lanes ∙ map-map (top 7) f v ∙ map-agree (λ x. top 7 (f x)) is_stop all v (chunk-fits w8 i n d fits))
    ∙ mask_l-mod (map is_stop v) 64 (omega (arith, length-map v is_stop, long))

-- ---- stops

pub stops-drop : (k : ℕ) (xs : List ℕ) → stops_in xs / 2 ^ k ≡ stops_in (drop k xs)
stops-drop k xs = mask-drop k (map is_stop xs) ∙ ap mask_l (drop-map is_stop k xs)

pub stops-append : (xs ys : List ℕ) → stops_in (xs ++ ys) ≡ stops_in xs + stops_in ys * 2 ^ length xs
stops-append xs ys =
    ap mask_l (map-append is_stop xs ys) ∙ mask-append (map is_stop xs) (map is_stop ys)
    ∙ ap (λ n. stops_in xs + stops_in ys * 2 ^ n) (length-map xs is_stop)

pub stops-lt : (xs : List ℕ) → stops_in xs < 2 ^ length xs
stops-lt xs = let h = mask_l-lt (map is_stop xs) in subst (λ n. stops_in xs < 2 ^ n) (length-map xs is_stop) h

pub stops-fit : (xs : List ℕ) → length xs ≤ 64 → Fits w64 (stops_in xs)
stops-fit xs few = record { fits = omega (arith, stops-lt xs, pow_mono {i = length xs} {j = 64} few) }

stops-joined : (xs ys : List ℕ) (i : ℕ) → length xs ≡ i → i + length ys ≤ 64 → stops_in xs + stops_in ys * 2 ^ i % 2 ^ 64 ≡ stops_in (xs ++ ys)
stops-joined xs ys i long few =
    let whole : stops_in (xs ++ ys) ≡ stops_in xs + stops_in ys * 2 ^ i = stops-append xs ys ∙ ap (λ n. stops_in xs + stops_in ys * 2 ^ n) long in
    let fit = stops-fit (xs ++ ys) (omega (arith, length-append xs ys, long, few)) in
    ap (λ n. stops_in xs + n) (mod-eq_of_lt (omega (arith, fit.fits, whole))) ∙ sym whole

-- one more block
pub block-joined : (d : List ℕ) (i n a b : ℕ) → i + n ≤ length d → i + n ≤ 64 → a ≡ stops_in (take i d) → b ≡ stops_in (take n (drop i d))
    → a + b * 2 ^ i % 2 ^ 64 ≡ stops_in (take (i + n) d)
block-joined d i n a b within few f g =
    let front = length-take-le i d (omega (arith, within)) in
    let back = length-take-le n (drop i d) (omega (arith, within, length-drop i d)) in
    (λ k. f k + g k * 2 ^ i % 2 ^ 64) ∙ stops-joined (take i d) (take n (drop i d)) i front (omega (arith, back, few)) ∙ ap stops_in (sym (take-add i n d))

-- the last block, of which the front was seen
pub last-joined : (d : List ℕ) (i n a b : ℕ) → i ≤ length d → n ≤ length d → length d - i < n → length d ≤ 64
    → a ≡ stops_in (take i d) → b ≡ stops_in (take n (drop (length d - n) d)) → a + b / 2 ^ (n - (length d - i)) * 2 ^ i % 2 ^ 64 ≡ stops_in d
last-joined d i n a b within long left few f g =
    let skip = n - (length d - i) in
    let all : take n (drop (length d - n) d) ≡ drop (length d - n) d =
    take_all n (drop (length d - n) d) (omega (arith, length-drop (length d - n) d)) in
    let at : length d - n + skip ≡ i = omega arith in
    let rest : b / 2 ^ skip ≡ stops_in (drop i d) =
    ap (λ m. m / 2 ^ skip) (g ∙ ap stops_in all) ∙ stops-drop skip (drop (length d - n) d) ∙ ap stops_in (drop-drop skip (length d - n) d)
    ∙ ap (λ k. stops_in (drop k d)) at in
    (λ k. f k + rest k * 2 ^ i % 2 ^ 64)
    ∙ stops-joined (take i d) (drop i d) i (length-take-le i d within) (omega (arith, few, length-drop i d)) ∙ ap stops_in (take-append-drop i d)

-- a slash behind the text
pub end-joined : (d : List ℕ) (a : ℕ) → length d < 64 → a ≡ stops_in d → a + 1 * 2 ^ length d % 2 ^ 64 ≡ stops_in (d ++ 47 ∷ [])
end-joined d a few f = ap (λ n. n + 1 * 2 ^ length d % 2 ^ 64) f ∙ stops-joined d (47 ∷ []) (length d) refl (omega (arith, few))

pub marked-whole : (d : List ℕ) (stops : ℕ) → length d < 64 → stops ≡ stops_in (d ++ 47 ∷ []) → IsMarked d stops
marked-whole d stops few e = record {
  window = length d + 1;
  few = omega (arith, few);
  within = omega arith;
  is = e ∙ ap stops_in (sym (take_all (length d + 1) (d ++ 47 ∷ []) (omega (arith, length-append d (47 ∷ [])))));
}

-- ---- the first stop

no_stop : (b : ℕ) → is_stop b ≡ false → is_name_byte b ≡ true
no_stop b h = not-false (is_name_byte b) h

a_stop : (b : ℕ) → is_stop b ≡ true → is_name_byte b ≡ false
a_stop b h = not-true (is_name_byte b) h

pub record IsFirstStop (text : List ℕ) (at : ℕ) : Type 0 where
  pub within : at ≤ length text
  pub front : list_all is_name_byte (take at text) ≡ true
  pub end : at < length text → is_name_byte (get_or text at 0) ≡ false

front-by : (text : List ℕ) (at : ℕ) → at ≤ length text → ((k : ℕ) → k < at → is_name_byte (get_or text k 0) ≡ true)
    → list_all is_name_byte (take at text) ≡ true
front-by text at within h =
    list_all-from_AllPass is_name_byte (take at text)
    (All-from_get_or (λ b. is_name_byte b ≡ true) (take at text) 0
    (λ k lt. let less : k < at = omega (arith, lt, length-take-le at text within) in ap is_name_byte (get_or-take at text k 0 less) ∙ h k less))

module _ (text : List ℕ) (stops at : ℕ) (m : IsMarked text stops) (some : 0 < stops) (is : at ≡ count_trailing_zeros 64 stops) where
  abbrev ended : List ℕ
  ended = text ++ 47 ∷ []

  len : length ended ≡ length text + 1
  len = length-append text (47 ∷ [])

  room : 0 + m.window ≤ length ended
  room = omega (arith, len, m.within)

  counted : at ≡ prefix_len (λ b. not (is_stop b)) (chunk 0 m.window ended)
  counted =
      is ∙ ap (count_trailing_zeros 64) m.is
      ∙ trailing_mask_l is_stop 64 (take m.window ended) (omega (arith, m.few, length-chunk 0 m.window ended room)) (subst (λ n. 0 < n) m.is some)

  early : at < m.window
  early =
      let le = run_in_chunk_le is_stop ended 0 m.window at 0 room counted in
      let ne : at ≢ m.window = λ e.
      let none = none-set is_stop (take m.window ended) (sym counted ∙ e ∙ sym (length-chunk 0 m.window ended room)) in omega (arith, some, m.is, none) in
      omega (arith, le, ne)

  first : (k : ℕ) → k < length text → get_or ended k 0 ≡ get_or text k 0
  first k lt = get_or_append_left text (47 ∷ []) 0 k lt

  stops-at : is_stop (get_or ended at 0) ≡ true
  stops-at =
      let here : 0 + at ≡ at = omega arith in
      subst (λ k. is_stop (get_or ended k 0) ≡ true) here (run_in_chunk_stops is_stop ended 0 m.window at 0 room counted early)

  pub first-stop : IsFirstStop text at
  first-stop =
      let within : at ≤ length text = omega (arith, early, m.within) in record {
        within = within;
        front = front-by text at within (λ k lt. ap is_name_byte (sym (first k (omega (arith, lt, within))))
            ∙ no_stop (get_or ended k 0) (run_in_chunk_fails is_stop ended 0 m.window at 0 room counted k (omega arith) (omega (arith, lt))));
        end = λ lt. ap is_name_byte (sym (first at lt)) ∙ a_stop (get_or ended at 0) stops-at;
      }

  pub stops-behind : IsMarked (drop (at + 1) text) (stops / 2 ^ at / 2)
  stops-behind =
      let w = m.window - (at + 1) in
      let whole : m.window ≡ at + 1 + w = omega (arith, early) in
      let cut : drop (at + 1) (take m.window ended) ≡ take w (drop (at + 1) ended) =
      ap (λ n. drop (at + 1) (take n ended)) whole ∙ drop-take (at + 1) w ended in
      let halved : stops / 2 ^ at / 2 ≡ stops_in (drop (at + 1) (take m.window ended)) =
      ap (λ n. n / 2 ^ at / 2) m.is ∙ ap (λ n. n / 2) (stops-drop at (take m.window ended))
      ∙ stops-drop 1 (drop at (take m.window ended)) ∙ ap stops_in (drop-drop 1 at (take m.window ended)) in
      elim (cases_lt at (length text)) [
        | inl lt ↦
            let ends : drop (at + 1) ended ≡ drop (at + 1) text ++ 47 ∷ [] = drop-append-le (at + 1) text (47 ∷ []) (omega (arith, lt)) in
            record {
              window = w;
              few = omega (arith, m.few);
              within = omega (arith, m.within, length-drop (at + 1) text);
              is = halved ∙ ap stops_in (cut ∙ ap (take w) ends);
            }
        | inr ge ↦
            let none : w ≡ 0 = omega (arith, m.within, early, ge) in
            record {
              window = 0;
              few = omega arith;
              within = omega arith;
              is = halved ∙ ap stops_in (cut ∙ ap (λ n. take n (drop (at + 1) ended)) none);
            }
      ]

-- ---- a front, by blocks

pub front-more : (text : List ℕ) (i k : ℕ) → list_all is_name_byte (take i text) ≡ true → list_all is_name_byte (take k (drop i text)) ≡ true
    → list_all is_name_byte (take (i + k) text) ≡ true
front-more text i k f g =
    ap (list_all is_name_byte) (take-add i k text) ∙ list_all-append is_name_byte (take i text) (take k (drop i text)) ∙ rw (f, g) refl

pub no-stops : (xs : List ℕ) → stops_in xs ≡ 0 → list_all is_name_byte xs ≡ true
no-stops [] none = refl
no-stops (x ∷ xs) none = by (is_stop x) refl none (no-stops xs)
  where
    by : (b : Bool) → is_stop x ≡ b → cond b 1 0 + 2 * stops_in xs ≡ 0 → (stops_in xs ≡ 0 → list_all is_name_byte xs ≡ true)
        → list_all is_name_byte (x ∷ xs) ≡ true
    by true e f more = absurd (omega (arith, f))
    by false e f more = rw (no_stop x e) (more (omega (arith, f)))

marked-block : (rest : List ℕ) (stops : ℕ) → 16 ≤ length rest → stops ≡ stops_in (take 16 rest) → IsMarked rest stops
marked-block rest stops long e = record {
  window = 16;
  few = omega arith;
  within = omega (arith, long);
  is = e ∙ ap stops_in (sym (take-append-le 16 rest (47 ∷ []) long));
}

pub block-front : (text : List ℕ) (i stops at : ℕ) → i + 16 ≤ length text → list_all is_name_byte (take i text) ≡ true
    → stops ≡ stops_in (take 16 (drop i text)) → 0 < stops → at ≡ count_trailing_zeros 64 stops → IsFirstStop text (i + at)
block-front text i stops at within front e some is =
    let m = marked-block (drop i text) stops (omega (arith, within, length-drop i text)) e in
    let f = first-stop (drop i text) stops at m some is in
    let lt = early (drop i text) stops at m some is in
    record {
      within = omega (arith, within, f.within, length-drop i text);
      front = front-more text i at front f.front;
      end = λ lt. ap is_name_byte (sym (get_or-drop i text at 0)) ∙ f.end (omega (arith, lt, length-drop i text));
    }
