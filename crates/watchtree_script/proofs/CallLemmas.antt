-- Numbers and paths that are printed in the lines of calls.
use Rattle.std.proofs.Common.{◌≡◌, ℕ, zero, suc, ◌+◌, ◌/◌, ◌%◌, ◌^◌, ◌<◌, ◌≤◌, Bool, false, cond, ltb, List, [], ◌∷◌, ◌++◌, length}
use Rattle.std.proofs.Common.{refl, sym, ap, ◌∙◌, arith, append_assoc, length-append}
use Rattle.std.specs.Fmt.{digits, digits_onto, digit_glyph}
use Rattle.std.proofs.Math.Nat.{div-lt_iff_lt-mul, div-eq_of_lt, div-le_self, pow-suc, pow-zero, pow-le-pow_left}
use Rattle.std.proofs.lemmas.Bool.{eq-eqb, ne_eqb}
use Rattle.std.proofs.Common.{true, lt-ltb}
use Rattle.std.specs.List.{join_with_byte}
use Rattle.std.proofs.lemmas.List.{append-nil}
use Rattle.percent_encoding.specs.Percent.{percent_encode_byte}
use Rattle.std.proofs.lemmas.Grind.{flat_map-append}
use Rattle.record_codec.specs.Lines.{is_plain, printed_byte, printed_name}
use Rattle.tree_paths.specs.Paths.{pathname_of, slashed}
use Rattle.watchtree_script.specs.CallLines.{is_short, path_text}

-- ---- the digits of a radix. The last one is written first, in front of what is written so far

abbrev onto : ℕ → ℕ → ℕ → List ℕ → List ℕ
onto b k n acc = digits_onto k b false n acc

abbrev last_digit : ℕ → ℕ → ℕ
last_digit b n = digit_glyph false (n % b)

onto_last : (b k n : ℕ) (acc : List ℕ) → n / b ≡ 0 → onto b (suc k) n acc ≡ last_digit b n ∷ acc
onto_last b k n acc h = ap (λ (t : Bool). cond t (last_digit b n ∷ acc) (onto b k (n / b) (last_digit b n ∷ acc))) (eq-eqb (n / b) 0 h)

onto_next : (b k n : ℕ) (acc : List ℕ) → (n / b ≡ 0 → ⊥) → onto b (suc k) n acc ≡ onto b k (n / b) (last_digit b n ∷ acc)
onto_next b k n acc h = ap (λ (t : Bool). cond t (last_digit b n ∷ acc) (onto b k (n / b) (last_digit b n ∷ acc))) (ne_eqb (n / b) 0 h)

-- what holds where a quotient is zero, and where it is not, holds
by_quotient : (P : Type 0) (q : ℕ) → (q ≡ 0 → P) → ((q ≡ 0 → ⊥) → P) → P
by_quotient P zero here there = here refl
by_quotient P (suc q) here there = there (λ e. omega (arith, e))

onto-append : (b k n : ℕ) (acc : List ℕ) → onto b k n acc ≡ onto b k n [] ++ acc
onto-append b zero n acc = refl
onto-append b (suc k) n acc = by_quotient (onto b (suc k) n acc ≡ onto b (suc k) n [] ++ acc) (n / b)
    (λ e. onto_last b k n acc e ∙ ap (λ (x : List ℕ). x ++ acc) (sym (onto_last b k n [] e)))
    (λ e. onto_next b k n acc e ∙ onto-append b k (n / b) (last_digit b n ∷ acc)
    ∙ sym (append_assoc (onto b k (n / b) []) (last_digit b n ∷ []) acc)
    ∙ ap (λ (x : List ℕ). x ++ acc) (sym (onto_next b k n [] e ∙ onto-append b k (n / b) (last_digit b n ∷ []))))

-- a quotient has one digit less
quotient-lt : (b k n : ℕ) → 0 < b → n < b ^ suc k → n / b < b ^ k
quotient-lt b k n some h = (div-lt_iff_lt-mul some).1 (omega (arith, pow-suc b k, h))

quotient-none : (b n : ℕ) → 0 < b → n < b ^ 1 → n / b ≡ 0
quotient-none b n some h = omega (arith, quotient-lt b 0 n some h, pow-zero b)

-- no digit is lost where there may be as many as there are
onto_enough : (b j k n : ℕ) (acc : List ℕ) → 0 < b → n < b ^ suc j → n < b ^ suc k → onto b (suc j) n acc ≡ onto b (suc k) n acc
onto_enough b zero k n acc some p q = onto_last b zero n acc (quotient-none b n some p) ∙ sym (onto_last b k n acc (quotient-none b n some p))
onto_enough b (suc j) zero n acc some p q = onto_last b (suc j) n acc (quotient-none b n some q) ∙ sym (onto_last b zero n acc (quotient-none b n some q))
onto_enough b (suc j) (suc k) n acc some p q = by_quotient (onto b (suc (suc j)) n acc ≡ onto b (suc (suc k)) n acc) (n / b)
    (λ e. onto_last b (suc j) n acc e ∙ sym (onto_last b (suc k) n acc e))
    (λ e. onto_next b (suc j) n acc e
    ∙ onto_enough b j k (n / b) (last_digit b n ∷ acc) some (quotient-lt b (suc j) n some p) (quotient-lt b (suc k) n some q)
    ∙ sym (onto_next b (suc k) n acc e))

-- how many digits there are at most
length-onto : (b j k n : ℕ) (acc : List ℕ) → 0 < b → n < b ^ suc j → length (onto b k n acc) ≤ suc j + length acc
length-onto b j zero n acc some h = omega arith
length-onto b zero (suc k) n acc some h = omega (arith, ap length (onto_last b k n acc (quotient-none b n some h)))
length-onto b (suc j) (suc k) n acc some h = by_quotient (length (onto b (suc k) n acc) ≤ suc (suc j) + length acc) (n / b)
    (λ e. omega (arith, ap length (onto_last b k n acc e)))
    (λ e. omega (arith, ap length (onto_next b k n acc e), length-onto b j k (n / b) (last_digit b n ∷ acc) some (quotient-lt b (suc j) n some h)))

pub length-digits : (b j n : ℕ) → 0 < b → n < b ^ suc j → length (digits b false n) ≤ suc j
unfolding digits
length-digits b j n some h = omega (arith, length-onto b j 64 n [] some h)

pub digits_one : (b n : ℕ) → n < b → digits b false n ≡ digit_glyph false (n % b) ∷ []
unfolding digits
digits_one b n h = onto_last b 63 n [] (div-eq_of_lt h)

-- a number of 32 bits has no more digits than are written
is_written : (b n : ℕ) → 2 ≤ b → n < 2 ^ 32 → (n < b ^ 63) × (n < b ^ 64)
is_written b n least small =
    let one : 2 ^ 63 ≤ b ^ 63 = pow-le-pow_left least 63 in
    let more : 2 ^ 64 ≤ b ^ 64 = pow-le-pow_left least 64 in
    (omega (arith, one), omega (arith, more))

pub digits_more : (b n : ℕ) → 2 ≤ b → b ≤ n → n < 2 ^ 32 → digits b false n ≡ digits b false (n / b) ++ digit_glyph false (n % b) ∷ []
unfolding digits
digits_more b n least le small =
    let some : 0 < b = omega arith in
    let next : n / b ≡ 0 → ⊥ = λ e. omega (arith, e, (div-lt_iff_lt-mul {k = b} {x = n} {y = 1} some).0) in
    let fits = is_written b (n / b) least (omega (arith, div-le_self n b)) in
    onto_next b 63 n [] next ∙ onto_enough b 62 63 (n / b) (last_digit b n ∷ []) some fits.0 fits.1 ∙ onto-append b 64 (n / b) (last_digit b n ∷ [])

-- ---- paths

printed-append : (a b : List ℕ) → printed_name (a ++ b) ≡ printed_name a ++ printed_name b
unfolding printed_name
printed-append a b = flat_map-append printed_byte a b

-- a slash stands for itself
printed-slash : (a : List ℕ) → printed_name (47 ∷ a) ≡ 47 ∷ printed_name a
unfolding printed_name
printed-slash a = refl

pub printed-slashed : (name : List ℕ) (names : List (List ℕ)) → printed_name (slashed (name ∷ names)) ≡ 47 ∷ (printed_name name ++ printed_name (slashed names))
printed-slashed name names = printed-slash (name ++ slashed names) ∙ ap (λ (t : List ℕ). 47 ∷ t) (printed-append name (slashed names))

pub printed-none : printed_name (slashed []) ≡ []
unfolding printed_name
printed-none = refl

pub printed-root : printed_name (pathname_of []) ≡ 47 ∷ []
unfolding printed_name
printed-root = refl

-- the root's slash makes its pathname no longer than is allowed
pub short-slashed : (names : List (List ℕ)) → is_short names ≡ ltb (length (slashed names)) 4096
short-slashed [] = refl
short-slashed (name ∷ names) = refl

pub length-slashed : (name : List ℕ) (names : List (List ℕ)) → length (slashed (name ∷ names)) ≡ 1 + length name + length (slashed names)
length-slashed name names = omega (arith, length-append name (slashed names))

-- ---- texts that are longer by a part

pub push-one : (b n d : ℕ) (old mid new : List ℕ) → n < b → d ≡ digit_glyph false (n % b) → mid ≡ old → new ≡ mid ++ d ∷ [] → new ≡ old ++ digits b false n
push-one b n d old mid new h e m p =
    p ∙ ap (λ (t : List ℕ). t ++ d ∷ []) m ∙ ap (λ (t : List ℕ). old ++ t) (ap (λ (x : ℕ). x ∷ []) e ∙ sym (digits_one b n h))

pub push-more : (b n d : ℕ) (old mid new : List ℕ) → 2 ≤ b → b ≤ n → n < 2 ^ 32 → d ≡ digit_glyph false (n % b) → mid ≡ old ++ digits b false (n / b)
    → new ≡ mid ++ d ∷ [] → new ≡ old ++ digits b false n
push-more b n d old mid new least le small e m p =
    let front : List ℕ = digits b false (n / b) in
    p ∙ ap (λ (t : List ℕ). t ++ d ∷ []) m ∙ append_assoc old front (d ∷ [])
    ∙ ap (λ (t : List ℕ). old ++ t) (ap (λ (x : ℕ). front ++ x ∷ []) e ∙ sym (digits_more b n least le small))

pub push-name : (name : List ℕ) (names rest : List (List ℕ)) (text slashed_text new all : List ℕ) → text ++ printed_name (slashed names) ≡ all
    → names ≡ name ∷ rest → slashed_text ≡ text ++ 47 ∷ [] → new ≡ slashed_text ++ printed_name name → new ++ printed_name (slashed rest) ≡ all
push-name name names rest text slashed_text new all known is p q =
    let left : List ℕ = printed_name (slashed rest) in
    ap (λ (t : List ℕ). t ++ left) (q ∙ ap (λ (t : List ℕ). t ++ printed_name name) p) ∙ append_assoc (text ++ 47 ∷ []) (printed_name name) left
    ∙ append_assoc text (47 ∷ []) (printed_name name ++ left)
    ∙ ap (λ (t : List ℕ). text ++ t) (sym (printed-slashed name rest) ∙ ap (λ (l : List (List ℕ)). printed_name (slashed l)) (sym is)) ∙ known

pub printed-names : (path names : List (List ℕ)) (old text : List ℕ) → names ≡ []
    → text ++ printed_name (slashed names) ≡ old ++ printed_name (slashed path) → text ≡ old ++ printed_name (slashed path)
printed-names path names old text none known =
    sym (append-nil text) ∙ ap (λ (t : List ℕ). text ++ t) (sym printed-none ∙ ap (λ (l : List (List ℕ)). printed_name (slashed l)) (sym none)) ∙ known

-- ---- paths in the words of a call

printed_byte-some : (b : ℕ) → 1 ≤ length (printed_byte b)
unfolding percent_encode_byte
printed_byte-some b = go (is_plain b)
  where
    go : (t : Bool) → 1 ≤ length (cond t (b ∷ []) (percent_encode_byte b))
    go true = omega arith
    go false = omega arith

pub printed-longer : (bs : List ℕ) → length bs ≤ length (printed_name bs)
unfolding printed_name
printed-longer [] = omega arith
printed-longer (b ∷ bs) = omega (arith, printed_byte-some b, printed-longer bs, length-append (printed_byte b) (printed_name bs))

pub short_path : (path : List (List ℕ)) (len : ℕ) → length (path_text path) ≤ len → len < 4096 → is_short path ≡ true
short_path path len le lt = lt-ltb (length (pathname_of path)) 4096 (omega (arith, printed-longer (pathname_of path)))

last-within : (u w : List ℕ) → length w ≤ length (join_with_byte 32 (u ∷ w ∷ []))
last-within u w = omega (arith, length-append u (32 ∷ w))

pub second_within : (u w : List ℕ) (ws : List (List ℕ)) → length w ≤ length (join_with_byte 32 (u ∷ w ∷ ws))
second_within u w [] = last-within u w
second_within u w (x ∷ ws) =
    let rest : List ℕ = join_with_byte 32 (x ∷ ws) in
    omega (arith, length-append u (32 ∷ (w ++ (32 ∷ rest))), length-append w (32 ∷ rest))

pub third_within : (u v w : List ℕ) (ws : List (List ℕ)) → length w ≤ length (join_with_byte 32 (u ∷ v ∷ w ∷ ws))
third_within u v w ws =
    let rest : List ℕ = join_with_byte 32 (v ∷ w ∷ ws) in
    omega (arith, length-append u (32 ∷ rest), second_within v w ws)

-- a word of a line is no longer than the line
pub ruleset within = (second_within, third_within)
