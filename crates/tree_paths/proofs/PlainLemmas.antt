-- A short text with one slash before each name, of which none begins with a dot.
use Rattle.std.proofs.Common.{◌≡◌, ℕ, ◌+◌, ◌<◌, ◌≤◌, Bool, true, false, not, ◌&&◌, ◌||◌, eqb, ltb}
use Rattle.std.proofs.Common.{List, [], ◌∷◌, length, drop, get_or, Ok, refl, sym, ap, subst, ◌∙◌, arith, length-append}
use Rattle.std.specs.Prelude.{codes}
use Rattle.std.specs.Str.{bytes_eq}
use Rattle.std.specs.List.{list_all, onto_first}
use Rattle.std.proofs.lemmas.Bool.{le-ltb, le-leb, eqb-true, and_parts, ltb-true}
use Rattle.std.proofs.lemmas.List.{drop_all, drop_more}
use Rattle.std.proofs.lemmas.Slice.Eq.{bytes_eq-Decides}
use Rattle.record_codec.specs.Names.{is_name, is_name_byte}
use Rattle.tree_paths.specs.PathText.{IsSlashed, is_plain, is_plain_name, is_special}
use Rattle.tree_paths.specs.Paths.{parsed, names_of, is_dots, is_in_place, slashed}
use Rattle.tree_paths.specs.Pieces.{pieces, is_nonempty}
use Rattle.tree_paths.proofs.PathnameLemmas.{NameIs, AreNames, pathname-parsed_some}
use Rattle.tree_paths.proofs.PieceLemmas.{nonempty-cons, piece_is_name}
use Rattle.tree_paths.proofs.SlashedLemmas.{names-are, slashed-pieces}

-- ---- byte by byte: the argument says whether a name has to begin

abbrev pub goes_on : Bool → List ℕ → Bool
goes_on begins [] = not begins
goes_on begins (b ∷ bs) = not (is_special begins b) && goes_on (eqb b 47) bs

-- the first piece goes on with a name, or is a whole one
abbrev fits : Bool → List (List ℕ) → Bool
fits true ps = list_all is_plain_name ps
fits false [] = true
fits false (p ∷ ps) = list_all is_name_byte p && list_all is_plain_name ps

at_slash : (begins : Bool) (bs : List ℕ) → goes_on true bs ≡ fits true (pieces 47 bs)
    → goes_on begins (47 ∷ bs) ≡ fits begins ([] ∷ pieces 47 bs)
at_slash true bs h = refl
at_slash false bs h = h

other-goes : (z : Bool) (rest : Bool) (p : List ℕ) (ps : List (List ℕ)) → rest ≡ (list_all is_name_byte p && list_all is_plain_name ps)
    → (not (z || false) && rest) ≡ ((not z && true) && list_all is_name_byte p) && list_all is_plain_name ps
other-goes true rest p ps h = refl
other-goes false rest p ps h = h

other-begins : (z d : Bool) (rest a all : Bool) → rest ≡ (a && all)
    → (not (z || d) && rest) ≡ (not d && ((not z && true) && a)) && all
other-begins true true rest a all h = refl
other-begins true false rest a all h = refl
other-begins false true rest a all h = refl
other-begins false false rest a all h = h

other-cons : (begins : Bool) (b : ℕ) (rest : Bool) (p : List ℕ) (ps : List (List ℕ)) → eqb b 47 ≡ false
    → rest ≡ (list_all is_name_byte p && list_all is_plain_name ps)
    → (not (eqb b 0 || begins && (false || eqb b 46)) && rest) ≡ fits begins ((b ∷ p) ∷ ps)
other-cons true b rest p ps other h =
    rw (other, nonempty-cons b p) (other-begins (eqb b 0) (eqb b 46) rest (list_all is_name_byte p) (list_all is_plain_name ps) h)
other-cons false b rest p ps other h = rw other (other-goes (eqb b 0) rest p ps h)

at_other : (begins : Bool) (b : ℕ) (rest : Bool) (ps : List (List ℕ)) → eqb b 47 ≡ false → rest ≡ fits false ps
    → (not (eqb b 0 || begins && (false || eqb b 46)) && rest) ≡ fits begins (onto_first b ps)
at_other begins b rest [] other h = other-cons begins b rest [] [] other h
at_other begins b rest (p ∷ ps) other h = other-cons begins b rest p ps other h

at_byte : (begins : Bool) (b : ℕ) (bs : List ℕ) (t : Bool) → eqb b 47 ≡ t → goes_on t bs ≡ fits t (pieces 47 bs)
    → goes_on begins (b ∷ bs) ≡ fits begins (pieces 47 (b ∷ bs))
at_byte begins b bs true e h =
    subst (λ (k : ℕ). goes_on begins (k ∷ bs) ≡ fits begins (pieces 47 (k ∷ bs))) (sym (eqb-true b 47 e)) (at_slash begins bs h)
at_byte begins b bs false e h = rw e (at_other begins b (goes_on false bs) (pieces 47 bs) e h)

goes-fits : (begins : Bool) (w : List ℕ) → goes_on begins w ≡ fits begins (pieces 47 w)
goes-fits true [] = refl
goes-fits false [] = refl
goes-fits begins (b ∷ bs) = at_byte begins b bs (eqb b 47) refl (goes-fits (eqb b 47) bs)

-- ---- the steps of the loop

pub plain-begun : (w : List ℕ) → list_all is_plain_name (pieces 47 w) ≡ goes_on true w
plain-begun w = sym (goes-fits true w)

pub plain-step : (begins : Bool) (w : List ℕ) (i : ℕ) → i < length w → is_special begins (get_or w i 0) ≡ false
    → goes_on begins (drop i w) ≡ goes_on (eqb (get_or w i 0) 47) (drop (i + 1) w)
plain-step begins w i inside none =
    ap (goes_on begins) (drop_more w i 0 inside) ∙ ap (λ (t : Bool). not t && goes_on (eqb (get_or w i 0) 47) (drop (i + 1) w)) none

pub plain-stop : (begins : Bool) (w : List ℕ) (i : ℕ) → i < length w → is_special begins (get_or w i 0) ≡ true → goes_on begins (drop i w) ≡ false
plain-stop begins w i inside some =
    ap (goes_on begins) (drop_more w i 0 inside) ∙ ap (λ (t : Bool). not t && goes_on (eqb (get_or w i 0) 47) (drop (i + 1) w)) some

pub plain-end : (begins : Bool) (w : List ℕ) (i : ℕ) → length w ≤ i → goes_on begins (drop i w) ≡ not begins
plain-end begins w i all = ap (goes_on begins) (drop_all i w all)

-- ---- such a text is a path's, and is kept as it is

undotted : (b : ℕ) (bs dots : List ℕ) (t : Bool) → eqb b 46 ≡ false → bytes_eq (b ∷ bs) (46 ∷ dots) ≡ t → t ≡ false
undotted b bs dots true other e =
    let first : b ≡ 46 = ap (λ (w : List ℕ). get_or w 0 0) ((bytes_eq-Decides (b ∷ bs) (46 ∷ dots)).0 e) in
    let same : eqb b 46 ≡ true = ap (λ (k : ℕ). eqb k 46) first in
    absurd cc
undotted b bs dots false other e = refl

no-dots : (b : ℕ) (bs : List ℕ) → eqb b 46 ≡ false → is_dots (b ∷ bs) ≡ false
no-dots b bs other =
    let one : bytes_eq (b ∷ bs) (codes ".") ≡ false = undotted b bs [] (bytes_eq (b ∷ bs) (codes ".")) other refl in
    let two : bytes_eq (b ∷ bs) (codes "..") ≡ false = undotted b bs (46 ∷ []) (bytes_eq (b ∷ bs) (codes "..")) other refl in
    rw (one, two) refl

none-true : (t : Bool) → not t ≡ true → t ≡ false
none-true true h = absurd cc
none-true false h = refl

plain-name : (x : List ℕ) → is_plain_name x ≡ true → length x ≤ 30 → NameIs x
plain-name [] h few = absurd cc
plain-name (b ∷ bs) h few =
    let parts = and_parts (is_nonempty (b ∷ bs) && not (eqb b 46)) (list_all is_name_byte (b ∷ bs)) h in
    let first = and_parts (is_nonempty (b ∷ bs)) (not (eqb b 46)) parts.0 in
    record {
      some = omega arith;
      short = omega (arith, few);
      no_dots = no-dots b bs (none-true (eqb b 46) first.1);
      bytes = parts.1;
    }

is-name : (x : List ℕ) → NameIs x → is_name x ≡ true
is-name [] f = absurd (omega (arith, f.some))
is-name (b ∷ bs) f = piece_is_name (b ∷ bs) f.no_dots (le-ltb 255 (length (b ∷ bs)) f.short) f.bytes ∙ nonempty-cons b bs

record Plain (xs : List (List ℕ)) : Type 0 where
  are : AreNames xs
  named : list_all is_name xs ≡ true
  in_place : list_all is_in_place xs ≡ true

plain-names : (xs : List (List ℕ)) → list_all is_plain_name xs ≡ true → length (slashed xs) ≤ 31 → Plain xs
plain-names [] h few = record { are = tt; named = refl; in_place = refl }
plain-names (x ∷ xs) h few =
    let both = and_parts (is_plain_name x) (list_all is_plain_name xs) h in
    let len = length-append x (slashed xs) in
    let name = plain-name x both.0 (omega (arith, few, len)) in
    let rest = plain-names xs both.1 (omega (arith, few, len)) in
    record {
      are = (name, rest.are);
      named = rw (is-name x name) rest.named;
      in_place = rw (le-leb (length x) 31 (omega (arith, few, len))) rest.in_place;
    }

parsed-names : (xs : List (List ℕ)) → Plain xs → 0 < length (slashed xs) → length (slashed xs) ≤ 31 → parsed (slashed xs) ≡ Ok xs
parsed-names [] p some few = absurd (omega (arith, some))
parsed-names (x ∷ xs) p some few = pathname-parsed_some x xs p.are.0 p.are.1 (omega (arith, few))

pub record IsPlainPath (text : List ℕ) : Type 0 where
  pub path : parsed text ≡ Ok (names_of text)
  pub slashed : IsSlashed text
  pub short : length text ≤ 30

plain-by : (w : List ℕ) → list_all is_plain_name (pieces 47 w) ≡ true → length w < 16 → IsPlainPath (47 ∷ w)
plain-by w h few =
    let is : slashed (pieces 47 w) ≡ 47 ∷ w = slashed-pieces w in
    let len : length (slashed (pieces 47 w)) ≡ length (47 ∷ w) = ap (λ (t : List ℕ). length t) is in
    let p = plain-names (pieces 47 w) h (omega (arith, len, few)) in
    let sound : IsSlashed (47 ∷ w) = record { names = pieces 47 w; named = p.named; in_place = p.in_place; is = sym is } in
    record {
      path =
          ap parsed (sym is) ∙ parsed-names (pieces 47 w) p (omega (arith, len)) (omega (arith, len, few))
          ∙ ap Ok (sym (names-are (47 ∷ w) sound));
      slashed = sound;
      short = omega (arith, few);
    }

pub plain-path : (text : List ℕ) → is_plain text ≡ true → IsPlainPath text
unfolding is_plain
plain-path [] h = absurd cc
plain-path (a ∷ w) h =
    let parts = and_parts (ltb (length (a ∷ w)) 16 && eqb a 47) (list_all is_plain_name (pieces 47 w)) h in
    let front = and_parts (ltb (length (a ∷ w)) 16) (eqb a 47) parts.0 in
    let few : length (a ∷ w) < 16 = ltb-true (length (a ∷ w)) 16 front.0 in
    subst (λ (k : ℕ). IsPlainPath (k ∷ w)) (sym (eqb-true a 47 front.1)) (plain-by w parts.1 (omega (arith, few)))
