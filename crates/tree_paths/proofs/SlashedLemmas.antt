-- Names as a text with a slash before each.
use Rattle.std.proofs.Common.{◌≡◌, ◌≢◌, ℕ, zero, suc, ◌+◌, ◌-◌, ◌<◌, ◌≤◌, Bool, true, false, not, cond, eqb, List}
use Rattle.std.proofs.Common.{[], ◌∷◌, ◌++◌, length, take, drop, get_or, Ok, refl, sym, ap, subst, ◌∙◌, arith, IsTrue}
use Rattle.std.proofs.Common.{nat_eq, length-append, take_all}
use Rattle.std.specs.Prelude.{filter}
use Rattle.std.specs.List.{list_all, onto_first}
use Rattle.std.proofs.lemmas.Bool.{and_parts, and_right, eqb-true, le-leb, leb-true}
use Rattle.std.proofs.lemmas.List.{append-nil, drop_more, get_or-append-add, take-append-drop, take_at, length-drop}
use Rattle.std.proofs.lemmas.List.Concat.{flat_map-append}
use Rattle.std.proofs.lemmas.List.Folds.{list_all-append}
use Rattle.std.proofs.lemmas.Slice.Eq.{bytes_eq-Decides, starts_is}
use Rattle.std.proofs.lemmas.Bool.Decides.{Decides-eqb}
use Rattle.std.specs.Cmp.Lexicographic.{pointwise}
use Rattle.std.specs.Str.{bytes_eq}
use Rattle.record_codec.specs.Names.{is_name, is_name_byte}
use Rattle.tree_paths.specs.PathText.{IsSlashed, IsSplit, IsLastStart, is_other, shape_of}
use Rattle.tree_paths.specs.declared.parse.Shape.{Shape}
use Rattle.tree_paths.specs.Paths.{names_of, parsed, is_below, is_in_place, IsBelow, IsParentText, slashed}
use Rattle.tree_paths.specs.Pieces.{pieces, is_nonempty}
use Rattle.tree_paths.proofs.BelowLemmas.{same-test}
use Rattle.tree_paths.proofs.PathLemmas.{names_eq-Decides}
use Rattle.tree_paths.proofs.FrontLemmas.{behind_slash, is_path}
use Rattle.tree_paths.proofs.PathnameLemmas.{AreNames, name_is, filter-names, pieces-behind}
use Rattle.tree_paths.proofs.PieceLemmas.{nonempty-cons}

-- ---- the names of such a text

pub are_named : (xs : List (List ℕ)) → list_all is_name xs ≡ true → AreNames xs
are_named [] h = tt
are_named (x ∷ xs) h = let both = and_parts (is_name x) (list_all is_name xs) h in (name_is x both.0, are_named xs both.1)

pub names-slashed : (xs : List (List ℕ)) → list_all is_name xs ≡ true → names_of (slashed xs) ≡ xs
names-slashed [] h = refl
names-slashed (x ∷ xs) h =
    let all = are_named (x ∷ xs) h in
    ap (filter is_nonempty) (pieces-behind x xs all.0 all.1) ∙ filter-names (x ∷ xs) all

pub names-are : (text : List ℕ) → (s : IsSlashed text) → names_of text ≡ s.names
names-are text s = ap names_of s.is ∙ names-slashed s.names s.named

-- such a text has a slash before its names
pub text-is : (text : List ℕ) → IsSlashed text → text ≡ slashed (names_of text)
text-is text s = s.is ∙ ap slashed (sym (names-are text s))

pub text-in-place : (text : List ℕ) → IsSlashed text → list_all is_in_place (names_of text) ≡ true
text-in-place text s = ap (list_all is_in_place) (names-are text s) ∙ s.in_place

-- it has no name where it has no byte
pub none-if-empty : (text : List ℕ) → length text ≡ 0 → names_of text ≡ []
none-if-empty [] e = refl
none-if-empty (b ∷ bs) e = absurd (omega (arith, e))

pub empty-if-none : (text : List ℕ) → IsSlashed text → names_of text ≡ [] → length text ≡ 0
empty-if-none text s e = ap (λ (t : List ℕ). length t) (text-is text s ∙ ap slashed e)

pub empty-decides : (text : List ℕ) (names : List (List ℕ)) (r : Bool) → IsSlashed text → names_of text ≡ names
    → r ≡ eqb (length text) 0 → (IsTrue r → names ≡ []) × (names ≡ [] → IsTrue r)
empty-decides text names r s is e = (
  λ (t : IsTrue r). sym is ∙ none-if-empty text (eqb-true (length text) 0 (sym e ∙ t)),
  λ (none : names ≡ []). e ∙ ap (λ (n : ℕ). eqb n 0) (empty-if-none text s (is ∙ none)),
)

-- ---- the first name

abbrev Stops : List ℕ → Type 0
Stops [] = Unit {0}
Stops (b ∷ bs) = is_name_byte b ≡ false

front_split : (p q a b : List ℕ) → list_all is_name_byte p ≡ true → list_all is_name_byte q ≡ true → Stops a → Stops b → p ++ a ≡ q ++ b → (p ≡ q) × (a ≡ b)
front_split [] [] a b hp hq sa sb e = (refl, e)
front_split [] (y ∷ q) a b hp hq sa sb e =
    let off : is_name_byte y ≡ false = subst Stops e sa in
    let on = (and_parts (is_name_byte y) (list_all is_name_byte q) hq).0 in
    absurd cc
front_split (x ∷ p) [] a b hp hq sa sb e =
    let off : is_name_byte x ≡ false = subst Stops (sym e) sb in
    let on = (and_parts (is_name_byte x) (list_all is_name_byte p) hp).0 in
    absurd cc
front_split (x ∷ p) (y ∷ q) a b hp hq sa sb e =
    let same : x ≡ y = cc in
    let rest : p ++ a ≡ q ++ b = cc in
    let r = front_split p q a b (and_parts (is_name_byte x) (list_all is_name_byte p) hp).1
    (and_parts (is_name_byte y) (list_all is_name_byte q) hq).1 sa sb rest in
    ((λ i. same i ∷ r.0 i), r.1)

Stops-slashed : (xs : List (List ℕ)) → Stops (slashed xs)
Stops-slashed [] = tt
Stops-slashed (x ∷ xs) = refl

Stops-drop : (w : List ℕ) (n : ℕ) → (n < length w → is_name_byte (get_or w n 0) ≡ false) → Stops (drop n w)
Stops-drop [] zero h = tt
Stops-drop [] (suc n) h = tt
Stops-drop (b ∷ w) zero h = h (omega arith)
Stops-drop (b ∷ w) (suc n) h = Stops-drop w n (λ lt. h (omega arith))

rest-is : (w : List ℕ) (n : ℕ) → take (length w - n) (drop n w) ≡ drop n w
rest-is w n = take_all (length w - n) (drop n w) (omega (arith, length-drop n w))

split-by : (names : List (List ℕ)) (text w : List ℕ) (n : ℕ) → list_all is_name names ≡ true → list_all is_in_place names ≡ true
    → text ≡ slashed names → 0 < length text → w ≡ drop 1 text
    → list_all is_name_byte (take n w) ≡ true → (n < length w → is_name_byte (get_or w n 0) ≡ false) → IsSplit text (take n w) (take (length w - n) (drop n w))
split-by [] text w n named fits is some at front end = let e : length text ≡ 0 = ap (λ (t : List ℕ). length t) is in absurd (omega (arith, e, some))
split-by (x ∷ xs) text w n named fits is some at front end =
    let parts = and_parts (is_name x) (list_all is_name xs) named in
    let small = and_parts (is_in_place x) (list_all is_in_place xs) fits in
    let good = name_is x parts.0 in
    let rest : w ≡ x ++ slashed xs = at ∙ ap (drop 1) is in
    let r = front_split x (take n w) (slashed xs) (drop n w) good.bytes front (Stops-slashed xs) (Stops-drop w n end) (sym rest ∙ sym (take-append-drop n w)) in
    let behind : slashed xs ≡ take (length w - n) (drop n w) = r.1 ∙ sym (rest-is w n) in
    let none : names_of text ≡ x ∷ xs = ap names_of is ∙ names-slashed (x ∷ xs) named in
    let more : names_of (take (length w - n) (drop n w)) ≡ xs = ap names_of (sym behind) ∙ names-slashed xs parts.1 in
    record {
      names = none ∙ (λ i. r.0 i ∷ sym more i);
      named = subst (λ (y : List ℕ). IsTrue (is_name y)) r.0 parts.0;
      short = subst (λ (y : List ℕ). length y ≤ 31) r.0 (leb-true (length x) 31 small.0);
      sound = record { names = xs; named = parts.1; in_place = small.1; is = sym behind };
    }

pub first-split : (text w : List ℕ) (n : ℕ) → IsSlashed text → 0 < length text → w ≡ drop 1 text
    → list_all is_name_byte (take n w) ≡ true → (n < length w → is_name_byte (get_or w n 0) ≡ false) → IsSplit text (take n w) (take (length w - n) (drop n w))
first-split text w n s some at front end = split-by s.names text w n s.named s.in_place s.is some at front end

-- ---- one more name

all-more : (p : List ℕ → Bool) (xs : List (List ℕ)) (x : List ℕ) → list_all p xs ≡ true → p x ≡ true → list_all p (xs ++ x ∷ []) ≡ true
all-more p xs x h k = list_all-append p xs (x ∷ []) ∙ rw (h, k) refl

slashed-more : (xs : List (List ℕ)) (x : List ℕ) → slashed (xs ++ x ∷ []) ≡ slashed xs ++ 47 ∷ x
slashed-more xs x = flat_map-append (λ n. 47 ∷ n) xs (x ∷ []) ∙ ap (λ (t : List ℕ). slashed xs ++ 47 ∷ t) (append-nil x)

pub IsSlashed-more : (text name : List ℕ) → IsSlashed text → IsTrue (is_name name) → length name ≤ 31 → IsSlashed (text ++ 47 ∷ name)
IsSlashed-more text name s named short =
    record {
      names = s.names ++ name ∷ [];
      named = all-more is_name s.names name s.named named;
      in_place = all-more is_in_place s.names name s.in_place (le-leb (length name) 31 short);
      is = ap (λ (t : List ℕ). t ++ 47 ∷ name) s.is ∙ sym (slashed-more s.names name);
    }

pub names-more : (text name : List ℕ) → IsSlashed text → IsTrue (is_name name) → length name ≤ 31 → names_of (text ++ 47 ∷ name) ≡ names_of text ++ name ∷ []
names-more text name s named short =
    ap names_of (ap (λ (t : List ℕ). t ++ 47 ∷ name) s.is ∙ sym (slashed-more s.names name))
    ∙ names-slashed (s.names ++ name ∷ []) (all-more is_name s.names name s.named named) ∙ ap (λ (t : List (List ℕ)). t ++ name ∷ []) (sym (names-are text s))

-- ---- the last name

record Snoc (xs : List (List ℕ)) : Type 0 where
  front : List (List ℕ)
  last : List ℕ
  is : xs ≡ front ++ last ∷ []

snoc : (x : List ℕ) (xs : List (List ℕ)) → Snoc (x ∷ xs)
snoc x [] = record { front = []; last = x; is = refl }
snoc x (y ∷ ys) = let r = snoc y ys in record { front = x ∷ r.front; last = r.last; is = ap (λ (t : List (List ℕ)). x ∷ t) r.is }

snoc-take : (front : List (List ℕ)) (last : List ℕ) → front ≡ take (length (front ++ last ∷ []) - 1) (front ++ last ∷ [])
snoc-take front last = sym (take_at front (last ∷ []) (length (front ++ last ∷ []) - 1) (omega (arith, length-append front (last ∷ []))))

has-slash : (b y : List ℕ) → list_all is_other (b ++ 47 ∷ y) ≡ false
has-slash [] y = refl
has-slash (c ∷ b) y = and_right (is_other c) (list_all is_other (b ++ 47 ∷ y)) (has-slash b y)

-- what stands on both sides of the last slash
last-split : (a b x y : List ℕ) → list_all is_other x ≡ true → list_all is_other y ≡ true → a ++ 47 ∷ x ≡ b ++ 47 ∷ y → (a ≡ b) × (x ≡ y)
last-split [] [] x y hx hy e = (refl, cc)
last-split [] (c ∷ b) x y hx hy e =
    let r : x ≡ b ++ 47 ∷ y = cc in
    let off : list_all is_other x ≡ false = ap (list_all is_other) r ∙ has-slash b y in
    absurd cc
last-split (c ∷ a) [] x y hx hy e =
    let r : y ≡ a ++ 47 ∷ x = cc in
    let off : list_all is_other y ≡ false = ap (list_all is_other) r ∙ has-slash a x in
    absurd cc
last-split (c ∷ a) (d ∷ b) x y hx hy e =
    let same : c ≡ d = cc in
    let r = last-split a b x y hx hy (cc) in
    ((λ i. same i ∷ r.0 i), r.1)

others : (x : List ℕ) → list_all is_name_byte x ≡ true → list_all is_other x ≡ true
others [] h = refl
others (b ∷ bs) h =
    let both = and_parts (is_name_byte b) (list_all is_name_byte bs) h in
    rw ((and_parts (not (eqb b 0)) (not (eqb b 47)) both.0).1, others bs both.1) refl

all-parts : (p : List ℕ → Bool) (front : List (List ℕ)) (last : List ℕ) → list_all p (front ++ last ∷ []) ≡ true → (list_all p front ≡ true) × (p last ≡ true)
all-parts p front last h =
    let both = and_parts (list_all p front) (list_all p (last ∷ [])) (sym (list_all-append p front (last ∷ [])) ∙ h) in
    (both.0, (and_parts (p last) true both.1).0)

-- the names of a text, whose last name begins at an index
record Ends (text : List ℕ) (start : ℕ) : Type 0 where
  front : List (List ℕ)
  last : List ℕ
  is : names_of text ≡ front ++ last ∷ []
  front_named : list_all is_name front ≡ true
  last_named : is_name last ≡ true
  last_short : length last ≤ 31
  before : slashed front ≡ take (start - 1) text
  behind : last ≡ take (length text - start) (drop start text)
  parent : front ≡ take (length (names_of text) - 1) (names_of text)

ends-by : (names : List (List ℕ)) (text : List ℕ) (start : ℕ) → list_all is_name names ≡ true → list_all is_in_place names ≡ true
    → text ≡ slashed names → IsLastStart text start → Ends text start
ends-by [] text start named fits is at = let e : length text ≡ 0 = ap (λ (t : List ℕ). length t) is in absurd (omega (arith, e, at.some, at.within))
ends-by (n ∷ ns) text start named fits is at =
    let r = snoc n ns in
    let names = all-parts is_name r.front r.last (sym (ap (list_all is_name) r.is) ∙ named) in
    let short = all-parts is_in_place r.front r.last (sym (ap (list_all is_in_place) r.is) ∙ fits) in
    let left : text ≡ slashed r.front ++ 47 ∷ r.last = is ∙ ap slashed r.is ∙ slashed-more r.front r.last in
    let before : start - 1 < length text = omega (arith, at.some, at.within) in
    let behind : start - 1 + 1 ≡ start = omega (arith, at.some) in
    let right : text ≡ take (start - 1) text ++ 47 ∷ drop start text =
    sym (take-append-drop (start - 1) text)
    ∙ ap (λ (t : List ℕ). take (start - 1) text ++ t) (drop_more text (start - 1) 0 before ∙ (λ i. at.at_slash i ∷ drop (behind i) text)) in
    let same =
    last-split (slashed r.front) (take (start - 1) text) r.last (drop start text)
    (others r.last (name_is r.last names.1).bytes) at.none (sym left ∙ right) in
    let whole : names_of text ≡ r.front ++ r.last ∷ [] = ap names_of is ∙ names-slashed (n ∷ ns) named ∙ r.is in
    record {
      front = r.front;
      last = r.last;
      is = whole;
      front_named = names.0;
      last_named = names.1;
      last_short = leb-true (length r.last) 31 short.1;
      before = same.0;
      behind = same.1 ∙ sym (rest-is text start);
      parent = snoc-take r.front r.last ∙ ap (λ (t : List (List ℕ)). take (length t - 1) t) (sym whole);
    }

ends : (text : List ℕ) (start : ℕ) → IsSlashed text → IsLastStart text start → Ends text start
ends text start s at = ends-by s.names text start s.named s.in_place s.is at

pub record IsLast (text name : List ℕ) : Type 0 where
  pub named : IsTrue (is_name name)
  pub short : length name ≤ 31
  pub last : names_of text ≡ take (length (names_of text) - 1) (names_of text) ++ name ∷ []

pub last-is : (text : List ℕ) (start : ℕ) → IsSlashed text → IsLastStart text start → IsLast text (take (length text - start) (drop start text))
last-is text start s at =
    let e = ends text start s at in
    record {
      named = subst (λ (y : List ℕ). IsTrue (is_name y)) e.behind e.last_named;
      short = subst (λ (y : List ℕ). length y ≤ 31) e.behind e.last_short;
      last = e.is ∙ (λ i. e.parent i ++ e.behind i ∷ []);
    }

-- the text before the last slash
pub parent-is : (text : List ℕ) (start : ℕ) → IsSlashed text → IsLastStart text start → IsParentText (names_of text) (take (start - 1) text)
parent-is text start s at =
    let e = ends text start s at in
    record {
      some = let len = length-append e.front (e.last ∷ []) in let whole = ap (λ (t : List (List ℕ)). length t) e.is in omega (arith, len, whole);
      is = sym e.before ∙ ap slashed e.parent;
      front = ap names_of (sym e.before) ∙ names-slashed e.front e.front_named ∙ e.parent;
    }

-- such a text begins with a slash
begins : (names : List (List ℕ)) (text : List ℕ) → text ≡ slashed names → 0 < length text → get_or text 0 0 ≡ 47
begins [] text e some = let none : length text ≡ 0 = ap (λ (t : List ℕ). length t) e in absurd (omega (arith, none, some))
begins (x ∷ xs) text e some = ap (λ (t : List ℕ). get_or t 0 0) e

pub first-slash : (text : List ℕ) → IsSlashed text → 0 < length text → get_or text 0 0 ≡ 47
first-slash text s some = begins s.names text s.is some

pub above-first : (text : List ℕ) (start : ℕ) → IsSlashed text → 0 < start → start ≤ length text → get_or text (start - 1) 0 ≢ 47 → 0 < start - 1
above-first text zero s some within ne = absurd (omega arith)
above-first text (suc zero) s some within ne = absurd (ne (first-slash text s (omega arith)))
above-first text (suc (suc k)) s some within ne = omega arith

pub others-more : (text : List ℕ) (i : ℕ) → i < length text → eqb (get_or text i 0) 47 ≡ false
    → list_all is_other (drop (i + 1) text) ≡ true → list_all is_other (drop i text) ≡ true
others-more text i lt ne h = ap (list_all is_other) (drop_more text i 0 lt) ∙ rw (ne, h) refl

-- ---- the text of a list of names is a path's text with each slash but one left out

onto-slashed : (b : ℕ) (ps : List (List ℕ)) (w : List ℕ) → slashed ps ≡ 47 ∷ w → slashed (onto_first b ps) ≡ 47 ∷ b ∷ w
onto-slashed b [] w e = absurd (cc)
onto-slashed b (p ∷ ps) w e = let tail : p ++ slashed ps ≡ w = cc in ap (λ (t : List ℕ). 47 ∷ b ∷ t) tail

pub slashed-pieces : (w : List ℕ) → slashed (pieces 47 w) ≡ 47 ∷ w
slashed-pieces [] = refl
slashed-pieces (b ∷ bs) = by (eqb b 47) (slashed-pieces bs) refl
  where
    by : (t : Bool) → slashed (pieces 47 bs) ≡ 47 ∷ bs → eqb b 47 ≡ t → slashed (cond t ([] ∷ pieces 47 bs) (onto_first b (pieces 47 bs))) ≡ 47 ∷ b ∷ bs
    by true h e = let is : 47 ≡ b = sym (eqb-true b 47 e) in ap (λ (t : List ℕ). 47 ∷ t) h ∙ ap (λ (k : ℕ). 47 ∷ k ∷ bs) is
    by false h e = onto-slashed b (pieces 47 bs) bs h

not-longer : (ps : List (List ℕ)) → length (slashed (filter is_nonempty ps)) ≤ length (slashed ps)
not-longer [] = omega arith
not-longer ([] ∷ ps) = let h = not-longer ps in omega (arith, h)
not-longer ((b ∷ bs) ∷ ps) =
    let h = not-longer ps in
    rw (nonempty-cons b bs) (omega (arith, h, length-append (b ∷ bs) (slashed ps), length-append (b ∷ bs) (slashed (filter is_nonempty ps))))

none-dropped : (ps : List (List ℕ)) → length (slashed ps) ≤ length (slashed (filter is_nonempty ps)) → filter is_nonempty ps ≡ ps
none-dropped [] h = refl
none-dropped ([] ∷ ps) h = let k = not-longer ps in absurd (omega (arith, h, k))
none-dropped ((b ∷ bs) ∷ ps) h =
    let f : filter is_nonempty ((b ∷ bs) ∷ ps) ≡ (b ∷ bs) ∷ filter is_nonempty ps = rw (nonempty-cons b bs) refl in
    let k : length (slashed ((b ∷ bs) ∷ ps)) ≤ length (slashed ((b ∷ bs) ∷ filter is_nonempty ps)) =
    subst (λ (t : List (List ℕ)). length (slashed ((b ∷ bs) ∷ ps)) ≤ length (slashed t)) f h in
    f
    ∙ ap (λ (t : List (List ℕ)). (b ∷ bs) ∷ t)
    (none-dropped ps (omega (arith, k, length-append (b ∷ bs) (slashed ps), length-append (b ∷ bs) (slashed (filter is_nonempty ps)))))

pub plain : (text : List ℕ) → parsed text ≡ Ok (names_of text) → length (slashed (names_of text)) ≡ length text → text ≡ slashed (names_of text)
plain text ok len =
    let is = is_path text ok in
    let w = take (length text - 1) (drop 1 text) in
    let e : text ≡ 47 ∷ w = behind_slash text is.some is.first in
    let joined : slashed (pieces 47 w) ≡ text = slashed-pieces w ∙ sym e in
    let names : names_of text ≡ filter is_nonempty (pieces 47 w) = ap names_of e in
    let all : filter is_nonempty (pieces 47 w) ≡ pieces 47 w =
    none-dropped (pieces 47 w) (omega (arith, len, ap (λ (t : List (List ℕ)). length (slashed t)) names, ap (λ (t : List ℕ). length t) joined)) in
    sym (ap slashed (names ∙ all) ∙ joined)

pub IsSlashed-plain : (text : List ℕ) → parsed text ≡ Ok (names_of text) → list_all is_in_place (names_of text) ≡ true
    → length (slashed (names_of text)) ≡ length text → IsSlashed text
IsSlashed-plain text ok fits len = record { names = names_of text; named = (is_path text ok).named; in_place = fits; is = plain text ok len }

pub IsSlashed-names : (text : List ℕ) → parsed text ≡ Ok (names_of text) → list_all is_in_place (names_of text) ≡ true → IsSlashed (slashed (names_of text))
IsSlashed-names text ok fits = record { names = names_of text; named = (is_path text ok).named; in_place = fits; is = refl }

pub names-squeezed : (text : List ℕ) → parsed text ≡ Ok (names_of text) → names_of (slashed (names_of text)) ≡ names_of text
names-squeezed text ok = names-slashed (names_of text) (is_path text ok).named

-- a front and the pieces behind it
pub slashed-front : (x : List ℕ) (ps : List (List ℕ))
    → slashed (filter is_nonempty (x ∷ ps)) ≡ slashed (filter is_nonempty (x ∷ [])) ++ slashed (filter is_nonempty ps)
slashed-front [] ps = refl
slashed-front (b ∷ bs) ps = rw (nonempty-cons b bs) (ap (λ (t : List ℕ). 47 ∷ (t ++ slashed (filter is_nonempty ps))) (sym (append-nil (b ∷ bs))))

pub slashed-one : (x : List ℕ) → 0 < length x → slashed (filter is_nonempty (x ∷ [])) ≡ 47 ∷ x
slashed-one [] some = absurd (omega arith)
slashed-one (b ∷ bs) some = rw (nonempty-cons b bs) (ap (λ (t : List ℕ). 47 ∷ t) (append-nil (b ∷ bs)))

pub slashed-none : (x : List ℕ) → length x ≡ 0 → slashed (filter is_nonempty (x ∷ [])) ≡ []
slashed-none [] none = refl
slashed-none (b ∷ bs) none = absurd (omega (arith, none))

-- ---- below

pieces-some : (w : List ℕ) → pieces 47 w ≢ []
pieces-some [] e = cc
pieces-some (b ∷ bs) e = by (eqb b 47) (pieces 47 bs) e
  where
    by : (t : Bool) (ps : List (List ℕ)) → cond t ([] ∷ ps) (onto_first b ps) ≡ [] → ⊥
    by true ps e = cc
    by false [] e = cc
    by false (p ∷ ps) e = cc

onto-append : (b : ℕ) (ps qs : List (List ℕ)) → ps ≢ [] → onto_first b (ps ++ qs) ≡ onto_first b ps ++ qs
onto-append b [] qs some = absurd (some refl)
onto-append b (p ∷ ps) qs some = refl

pieces-append : (a b : List ℕ) → pieces 47 (a ++ 47 ∷ b) ≡ pieces 47 a ++ pieces 47 b
pieces-append [] b = refl
pieces-append (x ∷ a) b = by (eqb x 47) (pieces-append a b)
  where
    by : (t : Bool) → pieces 47 (a ++ 47 ∷ b) ≡ pieces 47 a ++ pieces 47 b
        → cond t ([] ∷ pieces 47 (a ++ 47 ∷ b)) (onto_first x (pieces 47 (a ++ 47 ∷ b)))
        ≡ cond t ([] ∷ pieces 47 a) (onto_first x (pieces 47 a)) ++ pieces 47 b
    by true h = ap (λ (t : List (List ℕ)). [] ∷ t) h
    by false h = ap (onto_first x) h ∙ onto-append x (pieces 47 a) (pieces 47 b) (pieces-some a)

filter-append : (xs ys : List (List ℕ)) → filter is_nonempty (xs ++ ys) ≡ filter is_nonempty xs ++ filter is_nonempty ys
filter-append [] ys = refl
filter-append (x ∷ xs) ys = by (is_nonempty x) (filter-append xs ys)
  where
    by : (t : Bool) → filter is_nonempty (xs ++ ys) ≡ filter is_nonempty xs ++ filter is_nonempty ys
        → cond t (x ∷ filter is_nonempty (xs ++ ys)) (filter is_nonempty (xs ++ ys))
        ≡ cond t (x ∷ filter is_nonempty xs) (filter is_nonempty xs) ++ filter is_nonempty ys
    by true h = ap (λ (t : List (List ℕ)). x ∷ t) h
    by false h = h

names-append : (a b : List ℕ) → names_of (a ++ 47 ∷ b) ≡ names_of a ++ names_of b
names-append a b = ap (filter is_nonempty) (pieces-append a b) ∙ filter-append (pieces 47 a) (pieces 47 b)

below-by : (text above rest : List ℕ) (names : List (List ℕ)) → IsSlashed text → IsSlashed above → text ≡ above ++ 47 ∷ rest
    → names_of rest ≡ names → IsBelow (names_of text) (names_of above)
below-by text above rest [] s t e is =
    let same : names_of text ≡ names_of above =
    ap names_of e ∙ names-append above rest ∙ ap (λ (r : List (List ℕ)). names_of above ++ r) is ∙ append-nil (names_of above) in
    let short : text ≡ above = text-is text s ∙ ap slashed same ∙ sym (text-is above t) in
    let len : length text ≡ length above + suc (length rest) = ap (λ (w : List ℕ). length w) e ∙ length-append above (47 ∷ rest) in
    absurd (omega (arith, len, ap (λ (w : List ℕ). length w) short))
below-by text above rest (n ∷ ns) s t e is = (n, ns, ap names_of e ∙ names-append above rest ∙ ap (λ (r : List (List ℕ)). names_of above ++ r) is)

pub begins-below : (text above rest : List ℕ) → IsSlashed text → IsSlashed above → text ≡ above ++ 47 ∷ rest → IsBelow (names_of text) (names_of above)
begins-below text above rest s t e = below-by text above rest (names_of rest) s t e refl

pub below-begins : (text above : List ℕ) → IsSlashed text → IsSlashed above → (b : IsBelow (names_of text) (names_of above))
    → text ≡ above ++ 47 ∷ (b.0 ++ slashed b.1)
below-begins text above s t b =
    text-is text s ∙ ap slashed b.2 ∙ flat_map-append (λ n. 47 ∷ n) (names_of above) (b.0 ∷ b.1)
    ∙ ap (λ (w : List ℕ). w ++ 47 ∷ (b.0 ++ slashed b.1)) (sym (text-is above t))

pub text-longer : (text above : List ℕ) → IsSlashed text → IsSlashed above → length text ≤ length above → IsBelow (names_of text) (names_of above) → ⊥
text-longer text above s t short b =
    let e : length text ≡ length above + suc (length (b.0 ++ slashed b.1)) =
    ap (λ (w : List ℕ). length w) (below-begins text above s t b) ∙ length-append above (47 ∷ (b.0 ++ slashed b.1)) in
    omega (arith, e, short)

pub slash-behind : (text above : List ℕ) → IsSlashed text → IsSlashed above → IsBelow (names_of text) (names_of above) → get_or text (length above) 0 ≡ 47
slash-behind text above s t b =
    let w = b.0 ++ slashed b.1 in
    let at : length above ≡ length above + 0 = omega arith in
    ap (λ (v : List ℕ). get_or v (length above) 0) (below-begins text above s t b)
    ∙ ap (λ (k : ℕ). get_or (above ++ 47 ∷ w) k 0) at ∙ get_or-append-add above (47 ∷ w) 0 0

pub text-below : (text above : List ℕ) (r : Bool) → IsSlashed text → IsSlashed above → length above < length text
    → get_or text (length above) 0 ≡ 47 → r ≡ bytes_eq above (take (length above) text)
    → r ≡ is_below (names_of text) (names_of above)
text-below text above r s t longer slash h =
    let both = starts_is Decides-eqb text above r h in
    let n = length above in
    same-test (names_of text) (names_of above) r (
      λ (yes : IsTrue r). begins-below text above (drop (n + 1) text) s t
          (both.0 yes ∙ ap (λ (w : List ℕ). above ++ w) (drop_more text n 0 longer ∙ ap (λ (k : ℕ). k ∷ drop (n + 1) text) slash)),
      λ (b : IsBelow (names_of text) (names_of above)). both.1 (47 ∷ (b.0 ++ slashed b.1)) (below-begins text above s t b),
    )

-- ---- the same

same-tests : (b c : Bool) → (b ≡ true → c ≡ true) → (c ≡ true → b ≡ true) → b ≡ c
same-tests true c f g = sym (f refl)
same-tests false true f g = g refl
same-tests false false f g = refl

pub same-texts : (a b : List ℕ) (r : Bool) → IsSlashed a → IsSlashed b → r ≡ bytes_eq a b → r ≡ pointwise (pointwise nat_eq) (names_of a) (names_of b)
same-texts a b r s t is =
    let names = names_eq-Decides (names_of a) (names_of b) (pointwise (pointwise nat_eq) (names_of a) (names_of b)) refl in
    is ∙ same-tests (bytes_eq a b) (pointwise (pointwise nat_eq) (names_of a) (names_of b))
    (λ e. names.1 (ap names_of ((bytes_eq-Decides a b).0 e)))
    (λ e. (bytes_eq-Decides a b).1 (text-is a s ∙ ap slashed (names.0 e) ∙ sym (text-is b t)))

-- ---- the parts of a shape

pub shape-len : (names : List (List ℕ)) (s : Shape) → s ≡ shape_of names → s.len ≡ length (slashed names)
unfolding shape_of
shape-len names s e = ap (λ (t : Shape). t.len) e

pub shape-fits : (names : List (List ℕ)) (s : Shape) → s ≡ shape_of names → s.fits ≡ list_all is_in_place names
unfolding shape_of
shape-fits names s e = ap (λ (t : Shape). t.fits) e
