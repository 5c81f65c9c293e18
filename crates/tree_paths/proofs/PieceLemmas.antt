-- The pieces of a path's text, and the names among them.
use Rattle.std.proofs.Common.{◌≡◌, ℕ, zero, suc, ◌-◌, ◌<◌, Bool, true, false, not, ◌&&◌, ◌||◌, cond, eqb, ltb, leb}
use Rattle.std.proofs.Common.{List, [], ◌∷◌, length, get_or, Ok, Err, refl, sym, ap, subst, ◌∙◌, arith}
use Rattle.std.specs.Prelude.{filter}
use Rattle.std.specs.List.{list_any, list_all, onto_first, All}
use Rattle.std.proofs.lemmas.List.Elements.{All-cons}
use Rattle.std.proofs.lemmas.Bool.{lt-ltb, le-leb, ltb-false, ne_eqb, and_parts}
use Rattle.std.specs.Prelude.{codes}
use Rattle.std.specs.Str.{bytes_eq}
use Rattle.record_codec.specs.Names.{is_name, is_name_byte, IsName, IsBytes}
use Rattle.tree_paths.specs.declared.refusal.Refusal.TheVariants.{Enoent, Einval, Enametoolong}
use Rattle.tree_paths.specs.Paths.{parsed, names_of, is_dots, is_long}
use Rattle.tree_paths.specs.Pieces.{pieces, is_nonempty}

pub nonempty-cons : (b : ℕ) (bs : List ℕ) → is_nonempty (b ∷ bs) ≡ true
nonempty-cons b bs = ap not (ne_eqb (suc (length bs)) 0 (λ e. omega (arith, e)))

-- what no empty piece has is looked for among the others
pub list_any-nonempty : (p : List ℕ → Bool) → p [] ≡ false → (xs : List (List ℕ)) → list_any p xs ≡ list_any p (filter is_nonempty xs)
list_any-nonempty p e [] = refl
list_any-nonempty p e ([] ∷ xs) = ap (λ (b : Bool). b || list_any p xs) e ∙ list_any-nonempty p e xs
list_any-nonempty p e ((b ∷ bs) ∷ xs) = rw (nonempty-cons b bs) (ap (λ (r : Bool). p (b ∷ bs) || r) (list_any-nonempty p e xs))

-- ---- the rows of `parsed` that did not hold

pub record Passes (none relative nul dots long : Bool) (names given : List (List ℕ)) : Type 0 where
  pub some : none ≡ false
  pub absolute : relative ≡ false
  pub no_zero : nul ≡ false
  pub no_dots : dots ≡ false
  pub none_long : long ≡ false
  pub all : names ≡ given

passes : (none much relative nul ends dots long : Bool) (names given : List (List ℕ))
    → cond none (Err Enoent) (cond much (Err Enametoolong)
    (cond relative (Err Einval) (cond nul (Err Einval) (cond ends (Err Einval) (cond dots (Err Einval) (cond long (Err Enametoolong) (Ok names)))))))
    ≡ Ok given → Passes none relative nul dots long names given
passes true much relative nul ends dots long names given h = absurd cc
passes false true relative nul ends dots long names given h = absurd cc
passes false false true nul ends dots long names given h = absurd cc
passes false false false true ends dots long names given h = absurd cc
passes false false false false true dots long names given h = absurd cc
passes false false false false false true long names given h = absurd cc
passes false false false false false false true names given h = absurd cc
passes false false false false false false false names given h =
    record { some = refl; absolute = refl; no_zero = refl; no_dots = refl; none_long = refl; all = cc }

pub accepted : (text : List ℕ) (names : List (List ℕ)) → parsed text ≡ Ok names
    → Passes (eqb (length text) 0) (not (eqb (get_or text 0 0) 47)) (list_any (λ b. eqb b 0) text)
    (list_any is_dots (names_of text)) (list_any is_long (names_of text)) (names_of text) names
unfolding parsed
accepted text names h =
    passes (eqb (length text) 0) (leb 4096 (length text)) (not (eqb (get_or text 0 0) 47)) (list_any (λ b. eqb b 0) text)
    (ltb 1 (length text) && eqb (get_or text (length text - 1) 0) 47) (list_any is_dots (names_of text))
    (list_any is_long (names_of text)) (names_of text) names h

-- ---- the bytes of pieces

or_none : (a b : Bool) → (a || b) ≡ false → (a ≡ false) × (b ≡ false)
or_none true b h = absurd cc
or_none false b h = (refl, h)

abbrev are_name_bytes : List (List ℕ) → Bool
are_name_bytes xs = list_all (list_all is_name_byte) xs

are_name_bytes-onto : (b : ℕ) (xs : List (List ℕ)) → is_name_byte b ≡ true → are_name_bytes xs ≡ true → are_name_bytes (onto_first b xs) ≡ true
are_name_bytes-onto b [] e h = rw e refl
are_name_bytes-onto b (x ∷ xs) e h = rw e h

pieces-step : (b : ℕ) (bs : List ℕ) (t : Bool) → eqb b 47 ≡ t → eqb b 0 ≡ false → are_name_bytes (pieces 47 bs) ≡ true
    → are_name_bytes (cond t ([] ∷ pieces 47 bs) (onto_first b (pieces 47 bs))) ≡ true
pieces-step b bs true e z h = h
pieces-step b bs false e z h = are_name_bytes-onto b (pieces 47 bs) (rw (z, e) refl) h

pieces-name_bytes : (text : List ℕ) → list_any (λ b. eqb b 0) text ≡ false → are_name_bytes (pieces 47 text) ≡ true
pieces-name_bytes [] h = refl
pieces-name_bytes (b ∷ bs) h =
    let both = or_none (eqb b 0) (list_any (λ k. eqb k 0) bs) h in
    pieces-step b bs (eqb b 47) refl both.0 (pieces-name_bytes bs both.1)

-- ---- names

pub piece_is_name : (x : List ℕ) → is_dots x ≡ false → is_long x ≡ false → list_all is_name_byte x ≡ true → is_name x ≡ is_nonempty x
unfolding is_name
piece_is_name [] d l a = refl
piece_is_name (b ∷ bs) d l a =
    let both = or_none (bytes_eq (b ∷ bs) (codes ".")) (bytes_eq (b ∷ bs) (codes "..")) d in
    let some : ltb 0 (length (b ∷ bs)) ≡ true = lt-ltb 0 (length (b ∷ bs)) (omega arith) in
    let short : leb (length (b ∷ bs)) 255 ≡ true = le-leb (length (b ∷ bs)) 255 (ltb-false 255 (length (b ∷ bs)) l) in
    rw (some, short, both.0, both.1, a) (sym (nonempty-cons b bs))

names_among : (xs : List (List ℕ)) → list_any is_dots xs ≡ false → list_any is_long xs ≡ false → are_name_bytes xs ≡ true
    → filter is_name xs ≡ filter is_nonempty xs
names_among [] d l a = refl
names_among (x ∷ xs) d l a =
    let dots = or_none (is_dots x) (list_any is_dots xs) d in
    let long = or_none (is_long x) (list_any is_long xs) l in
    let bytes = and_parts (list_all is_name_byte x) (are_name_bytes xs) a in
    rw (piece_is_name x dots.0 long.0 bytes.0, names_among xs dots.1 long.1 bytes.1) refl

pub names_read : (text : List ℕ) (names : List (List ℕ)) → parsed text ≡ Ok names → filter is_name (pieces 47 text) ≡ names_of text
names_read text names h =
    let a = accepted text names h in
    names_among (pieces 47 text) (list_any-nonempty is_dots refl (pieces 47 text) ∙ a.no_dots) (list_any-nonempty is_long refl (pieces 47 text) ∙ a.none_long)
    (pieces-name_bytes text a.no_zero)

-- ---- what is parsed are names

named-cons : (x : List ℕ) (xs : List (List ℕ)) (t : Bool) → is_name x ≡ t → IsBytes x → All IsName xs → All IsName (cond t (x ∷ xs) xs)
named-cons x xs true e f all = All-cons IsName x xs (record { named = e; bytes = f }) all
named-cons x xs false e f all = all

abbrev AreBytes : List (List ℕ) → Type 0
AreBytes [] = Unit {0}
AreBytes (x ∷ xs) = IsBytes x × AreBytes xs

are_named : (xs : List (List ℕ)) → AreBytes xs → All IsName (filter is_name xs)
are_named [] h = λ k d lt. absurd (omega (arith, lt))
are_named (x ∷ xs) h = named-cons x (filter is_name xs) (is_name x) refl h.0 (are_named xs h.1)

IsBytes-nil : IsBytes []
IsBytes-nil i = omega arith

IsBytes-cons : (b : ℕ) (bs : List ℕ) → b < 256 → IsBytes bs → IsBytes (b ∷ bs)
IsBytes-cons b bs h f zero = h
IsBytes-cons b bs h f (suc i) = f i

AreBytes-onto : (b : ℕ) (xs : List (List ℕ)) → b < 256 → AreBytes xs → AreBytes (onto_first b xs)
AreBytes-onto b [] h f = (IsBytes-cons b [] h IsBytes-nil, tt)
AreBytes-onto b (x ∷ xs) h f = (IsBytes-cons b x h f.0, f.1)

AreBytes-step : (b : ℕ) (xs : List (List ℕ)) (t : Bool) → b < 256 → AreBytes xs → AreBytes (cond t ([] ∷ xs) (onto_first b xs))
AreBytes-step b xs true h f = (IsBytes-nil, f)
AreBytes-step b xs false h f = AreBytes-onto b xs h f

pieces-bytes : (text : List ℕ) → IsBytes text → AreBytes (pieces 47 text)
pieces-bytes [] f = (IsBytes-nil, tt)
pieces-bytes (b ∷ bs) f = AreBytes-step b (pieces 47 bs) (eqb b 47) (f 0) (pieces-bytes bs (λ i. f (suc i)))

pub parsed-named : (text : List ℕ) (names : List (List ℕ)) → IsBytes text → parsed text ≡ Ok names → All IsName names
parsed-named text names f h =
    subst (All IsName) (names_read text names h ∙ (accepted text names h).all) (are_named (pieces 47 text) (pieces-bytes text f))
