-- The pathname of names stands for them.
use Rattle.std.proofs.Common.{◌≡◌, ℕ, zero, suc, ◌+◌, ◌-◌, ◌<◌, ◌≤◌, Bool, true, false, not, ◌&&◌, ◌||◌, eqb, ltb, leb}
use Rattle.std.proofs.Common.{List, [], ◌∷◌, ◌++◌, length, get_or, Ok, refl, ap, ◌∙◌, arith, IsTrue, length-append}
use Rattle.std.specs.Prelude.{filter, codes}
use Rattle.std.specs.List.{list_any, list_all, flat_map, All}
use Rattle.std.specs.Str.{bytes_eq}
use Rattle.std.proofs.lemmas.Bool.{le-ltb, lt-leb, ltb-true, leb-true, ne_eqb, and_parts, and_right}
use Rattle.std.proofs.lemmas.List.{append-nil, get_or-append-add}
use Rattle.std.proofs.lemmas.List.Folds.{list_any-append}
use Rattle.std.proofs.lemmas.List.Splits.{slice_split_at, slice_split_none}
use Rattle.record_codec.specs.Names.{is_name, is_name_byte, IsName}
use Rattle.tree_paths.specs.Paths.{parsed, is_dots, is_long, is_null, pathname_of}
use Rattle.tree_paths.specs.Pieces.{pieces, is_nonempty}
use Rattle.tree_paths.proofs.PieceLemmas.{nonempty-cons}

pub record NameIs (name : List ℕ) : Type 0 where
  pub some : 0 < length name
  pub short : length name ≤ 255
  pub no_dots : is_dots name ≡ false
  pub bytes : list_all is_name_byte name ≡ true

both_not : (a b : Bool) → not a ≡ true → not b ≡ true → (a || b) ≡ false
both_not true b h k = absurd cc
both_not false true h k = absurd cc
both_not false false h k = refl

pub name_is : (name : List ℕ) → IsTrue (is_name name) → NameIs name
unfolding is_name
name_is name h =
    let e = and_parts _ _ h in
    let d = and_parts _ _ e.0 in
    let c = and_parts _ _ d.0 in
    let b = and_parts _ _ c.0 in
    record {
      some = ltb-true 0 (length name) b.0;
      short = leb-true (length name) 255 b.1;
      no_dots = both_not (bytes_eq name (codes ".")) (bytes_eq name (codes "..")) c.1 d.1;
      bytes = e.1;
    }

abbrev pub AreNames : List (List ℕ) → Type 0
AreNames [] = Unit {0}
AreNames (x ∷ xs) = NameIs x × AreNames xs

pub are_names : (xs : List (List ℕ)) → All IsName xs → AreNames xs
are_names [] h = tt
are_names (x ∷ xs) h = (name_is x (h 0 [] (omega arith)).named, are_names xs (λ k d lt. h (suc k) d (omega (arith, lt))))

-- names, each behind a slash
abbrev pub behind : List (List ℕ) → List ℕ
behind xs = flat_map (λ n. 47 ∷ n) xs

-- ---- no zero

pub no_null : (x : List ℕ) → list_all is_name_byte x ≡ true → list_any is_null x ≡ false
no_null [] h = refl
no_null (b ∷ bs) h =
    let both = and_parts (is_name_byte b) (list_all is_name_byte bs) h in
    both_not (eqb b 0) (list_any is_null bs) (and_parts (not (eqb b 0)) (not (eqb b 47)) both.0).0 (ap not (no_null bs both.1))

behind-no_null : (xs : List (List ℕ)) → AreNames xs → list_any is_null (behind xs) ≡ false
behind-no_null [] h = refl
behind-no_null (x ∷ xs) h = list_any-append is_null x (behind xs) ∙ rw (no_null x h.0.bytes) (behind-no_null xs h.1)

-- ---- no slash at the end

last_more : (b : ℕ) (w : List ℕ) → 0 < length w → get_or (b ∷ w) (length (b ∷ w) - 1) 0 ≡ get_or w (length w - 1) 0
last_more b w some =
    let n : length (b ∷ w) - 1 ≡ suc (length w - 1) = omega arith in
    ap (λ (k : ℕ). get_or (b ∷ w) k 0) n

last_passes : (p : ℕ → Bool) (w : List ℕ) → 0 < length w → list_all p w ≡ true → p (get_or w (length w - 1) 0) ≡ true
last_passes p [] some h = absurd (omega arith)
last_passes p (b ∷ []) some h = (and_parts (p b) true h).0
last_passes p (b ∷ c ∷ w) some h =
    ap p (last_more b (c ∷ w) (omega arith)) ∙ last_passes p (c ∷ w) (omega arith) (and_parts (p b) (list_all p (c ∷ w)) h).1

last_behind : (x : List ℕ) (xs : List (List ℕ)) → NameIs x → AreNames xs → is_name_byte (get_or (x ++ behind xs) (length (x ++ behind xs) - 1) 0) ≡ true
last_behind x [] f fs = rw (append-nil x) (last_passes is_name_byte x f.some f.bytes)
last_behind x (m ∷ ms) f fs =
    let w = m ++ behind ms in
    let some : 0 < length w = omega (arith, fs.0.some, length-append m (behind ms)) in
    let at : length (x ++ 47 ∷ w) - 1 ≡ length x + (length (47 ∷ w) - 1) = omega (arith, length-append x (47 ∷ w)) in
    let same : get_or (x ++ 47 ∷ w) (length (x ++ 47 ∷ w) - 1) 0 ≡ get_or w (length w - 1) 0 =
    ap (λ (k : ℕ). get_or (x ++ 47 ∷ w) k 0) at ∙ get_or-append-add x (47 ∷ w) (length (47 ∷ w) - 1) 0 ∙ last_more 47 w some in
    ap is_name_byte same ∙ last_behind m ms fs.0 fs.1

not_true : (t : Bool) → not t ≡ true → t ≡ false
not_true true e = absurd cc
not_true false e = refl

no_slash : (b : ℕ) → is_name_byte b ≡ true → eqb b 47 ≡ false
no_slash b h = not_true (eqb b 47) (and_parts (not (eqb b 0)) (not (eqb b 47)) h).1

-- ---- the names

pub no_slashes : (x : List ℕ) → list_all is_name_byte x ≡ true → All (λ b. eqb b 47 ≡ false) x
no_slashes [] h k d lt = absurd (omega (arith, lt))
no_slashes (b ∷ bs) h zero d lt = no_slash b (and_parts (is_name_byte b) (list_all is_name_byte bs) h).0
no_slashes (b ∷ bs) h (suc k) d lt = no_slashes bs (and_parts (is_name_byte b) (list_all is_name_byte bs) h).1 k d (omega (arith, lt))

pub pieces-behind : (x : List ℕ) (xs : List (List ℕ)) → NameIs x → AreNames xs → pieces 47 (x ++ behind xs) ≡ x ∷ xs
pieces-behind x [] f fs = rw (append-nil x) (slice_split_none (λ b. eqb b 47) x (no_slashes x f.bytes))
pieces-behind x (m ∷ ms) f fs =
    slice_split_at (λ b. eqb b 47) x 47 (m ++ behind ms) (no_slashes x f.bytes) refl ∙ ap (λ (t : List (List ℕ)). x ∷ t) (pieces-behind m ms fs.0 fs.1)

name-nonempty : (x : List ℕ) → 0 < length x → is_nonempty x ≡ true
name-nonempty [] some = absurd (omega arith)
name-nonempty (b ∷ bs) some = nonempty-cons b bs

pub filter-names : (xs : List (List ℕ)) → AreNames xs → filter is_nonempty xs ≡ xs
filter-names [] h = refl
filter-names (x ∷ xs) h = rw (name-nonempty x h.0.some) (ap (λ (t : List (List ℕ)). x ∷ t) (filter-names xs h.1))

no_dots : (xs : List (List ℕ)) → AreNames xs → list_any is_dots xs ≡ false
no_dots [] h = refl
no_dots (x ∷ xs) h = rw h.0.no_dots (no_dots xs h.1)

none_long : (xs : List (List ℕ)) → AreNames xs → list_any is_long xs ≡ false
none_long [] h = refl
none_long (x ∷ xs) h = rw (le-ltb 255 (length x) h.0.short) (none_long xs h.1)

-- ---- all rows

pub pathname-parsed_some : (x : List ℕ) (xs : List (List ℕ)) → NameIs x → AreNames xs → length (47 ∷ (x ++ behind xs)) < 4096
    → parsed (47 ∷ (x ++ behind xs)) ≡ Ok (x ∷ xs)
unfolding parsed
pathname-parsed_some x xs f fs short =
    let w = x ++ behind xs in
    let some : 0 < length w = omega (arith, f.some, length-append x (behind xs)) in
    let none : eqb (length (47 ∷ w)) 0 ≡ false = ne_eqb (length (47 ∷ w)) 0 (λ e. omega (arith, e)) in
    let much : leb 4096 (length (47 ∷ w)) ≡ false = lt-leb 4096 (length (47 ∷ w)) short in
    let nonzero : list_any is_null w ≡ false = behind-no_null (x ∷ xs) (f, fs) in
    let ends : eqb (get_or (47 ∷ w) (length (47 ∷ w) - 1) 0) 47 ≡ false =
    ap (λ (k : ℕ). eqb k 47) (last_more 47 w some) ∙ no_slash (get_or w (length w - 1) 0) (last_behind x xs f fs) in
    let names : filter is_nonempty (pieces 47 w) ≡ x ∷ xs = ap (filter is_nonempty) (pieces-behind x xs f fs) ∙ filter-names (x ∷ xs) (f, fs) in
    let row : (ltb 1 (length (47 ∷ w)) && eqb (get_or (47 ∷ w) (length (47 ∷ w) - 1) 0) 47) ≡ false =
    and_right (ltb 1 (length (47 ∷ w))) (eqb (get_or (47 ∷ w) (length (47 ∷ w) - 1) 0) 47) ends in
    rw (none, much, nonzero, row, names, no_dots (x ∷ xs) (f, fs), none_long (x ∷ xs) (f, fs)) refl

pub pathname-parsed : (names : List (List ℕ)) → All IsName names → length (pathname_of names) < 4096 → parsed (pathname_of names) ≡ Ok names
unfolding parsed
pathname-parsed [] h short = refl
pathname-parsed (x ∷ xs) h short = let all = are_names (x ∷ xs) h in pathname-parsed_some x xs all.0 all.1 short
