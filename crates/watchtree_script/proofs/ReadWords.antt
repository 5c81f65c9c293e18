-- Words that are printed for a call, as they are read.
use Rattle.std.proofs.Common.{◌≡◌, ◌==◌, ℕ, suc, ◌+◌, ◌*◌, ◌/◌, ◌%◌, ◌-◌, ◌^◌, ◌<◌, ◌≤◌, Bool, true, false, not, leb, ltb, List, [], ◌∷◌}
use Rattle.std.proofs.Common.{◌++◌, length}
use Rattle.std.proofs.Common.{get_or, Option, Some, Result, Ok, refl, ap, ◌∙◌, arith, if◌then◌else◌}
use Rattle.std.specs.Prelude.{All, ℤ, pos, negsuc, FitsSigned, codes, decimal}
use Rattle.std.specs.Char.{digit_value, is_digit, is_ascii_graphic}
use Rattle.std.specs.Fmt.{digits, digit_glyph, signed_decimal}
use Rattle.std.specs.Int.{w32}
use Rattle.std.specs.List.{list_all}
use Rattle.std.specs.Result.{result_ok}
use Rattle.std.specs.Str.{bytes_eq}
use Rattle.std.specs.Str.Parse.{AllDigits, IsNumeral, digits_value}
use Rattle.std.proofs.lemmas.Bool.{agree_below_at, and_from, and_parts, and_right, lt-ltb, ltb-true, le-leb, cond-false, ne_eqb, not-true}
use Rattle.std.proofs.lemmas.Bool.Decides.{nat_tests}
use Rattle.std.proofs.lemmas.Fmt.{digits_is_IsNumeral, length-decimal-le}
use Rattle.std.proofs.lemmas.List.Elements.{All-head, All-tail}
use Rattle.std.proofs.lemmas.List.Folds.{list_all-append}
use Rattle.hex.specs.Hex.{encode_lower, encode_with, lower_digits, decode_of}
use Rattle.hex.specs.declared.error.FromHexError.{FromHexError}
use Rattle.hex.proofs.HexLemmas.{decode_of-encode_lower}
use Rattle.percent_encoding.specs.Percent.{percent_encode_byte}
use Rattle.record_codec.specs.Lines.{is_plain, printed_byte, printed_name}
use Rattle.record_codec.specs.Names.{IsBytes, IsName}
use Rattle.tree_paths.specs.Paths.{pathname_of, slashed}
use Rattle.watchtree_script.specs.CallLines.{mode_digits_of, mask_text, path_text}
use Rattle.watchtree_script.specs.Replies.{hexadecimal}
use Rattle.watchtree_script.specs.declared.fault.ScriptFault.TheVariants.{BadHex, BadNumber}
use Rattle.watchtree_script.specs.Words.{from_zero, or_fault, signed_number, behind}
use Rattle.watchtree_script.specs.Words.{number_spelled, before, byte_of, unescaped, mode_word, mask_word, u32_word, u64_word, i32_word, hex_word, path_word}
use Rattle.watchtree_script.proofs.CallLemmas.{length-digits, printed-root, printed-slashed}

-- ---- numbers

all_digits : (radix : ℕ) (ds : List ℕ) → AllDigits radix ds → list_all (λ c. is_digit c radix) ds ≡ true
all_digits radix [] h = refl
all_digits radix (c ∷ cs) h = and_from (is_digit c radix) (list_all (λ d. is_digit d radix) cs) (lt-ltb (digit_value c) radix h.0) (all_digits radix cs h.1)

pub spelled-numeral : (radix most greatest n : ℕ) (ds : List ℕ) → IsNumeral radix ds → digits_value radix ds ≡ n → length ds ≤ most → n ≤ greatest
    → number_spelled radix most greatest ds ≡ Some n
unfolding number_spelled
spelled-numeral radix most greatest n ds numeral is fits within =
    rw (lt-ltb 0 (length ds) numeral.0, le-leb (length ds) most fits, all_digits radix ds numeral.1, is, le-leb n greatest within) refl

spelled-digits : (radix most greatest n : ℕ) → 2 ≤ radix → radix ≤ 16 → n < radix ^ 64 → length (digits radix false n) ≤ most → n ≤ greatest
    → number_spelled radix most greatest (digits radix false n) ≡ Some n
spelled-digits radix most greatest n low high small fits within =
    let numeral = digits_is_IsNumeral radix false low high n small in
    spelled-numeral radix most greatest n (digits radix false n) numeral.0 numeral.1 fits within

pub mode-read : (mode : ℕ) → mode < 8 ^ 6 → mode_word (mode_digits_of mode) ≡ Ok mode
unfolding mode_word
mode-read mode small =
    let few = length-digits 8 5 mode (omega arith) small in
    rw (spelled-digits 8 6 (2 ^ 32 - 1) mode (omega arith) (omega arith) (omega arith) few (omega arith)) refl

pub mask-read : (mask : ℕ) → mask < 2 ^ 32 → mask_word (mask_text mask) ≡ Ok mask
unfolding mask_word
mask-read mask small =
    let few = length-digits 16 7 mask (omega arith) (omega arith) in
    rw (spelled-digits 16 8 (2 ^ 32 - 1) mask (omega arith) (omega arith) (omega arith) few (omega arith)) refl

decimal-spelled : (greatest n : ℕ) → n < 2 ^ 64 → n ≤ greatest → number_spelled 10 20 greatest (decimal n) ≡ Some n
decimal-spelled greatest n small within =
    spelled-digits 10 20 greatest n (omega arith) (omega arith) (omega arith) (length-decimal-le 20 n (omega arith) (omega arith) small) within

pub u32-read : (n : ℕ) → n < 2 ^ 32 → u32_word (decimal n) ≡ Ok n
unfolding u32_word
u32-read n small = rw (decimal-spelled (2 ^ 32 - 1) n (omega arith) (omega arith)) refl

pub u64-read : (n : ℕ) → n < 2 ^ 64 → u64_word (decimal n) ≡ Ok n
unfolding u64_word
u64-read n small = rw (decimal-spelled (2 ^ 64 - 1) n small (omega arith)) refl

-- ---- words: bytes that are visible in ASCII, and one or more of them

pub record IsWord (word : List ℕ) : Type 0 where
  pub some : 0 < length word
  pub graphic : list_all is_ascii_graphic word ≡ true

digit-range : (c : ℕ) → digit_value c < 36 → (48 ≤ c) × (c < 123)
digit-range c h = (grind (arith, nat_tests), grind (arith, nat_tests))

digit-graphic : (c : ℕ) → digit_value c < 36 → is_ascii_graphic c ≡ true
digit-graphic c h = let range = digit-range c h in and_from (leb 33 c) (leb c 126) (le-leb 33 c (omega arith)) (le-leb c 126 (omega arith))

digits-graphic : (radix : ℕ) (ds : List ℕ) → radix ≤ 36 → AllDigits radix ds → list_all is_ascii_graphic ds ≡ true
digits-graphic radix [] h all = refl
digits-graphic radix (c ∷ cs) h all =
    let below = all.0 in
    and_from (is_ascii_graphic c) (list_all is_ascii_graphic cs) (digit-graphic c (omega arith)) (digits-graphic radix cs h all.1)

word-digits : (radix n : ℕ) → 2 ≤ radix → radix ≤ 16 → n < radix ^ 64 → IsWord (digits radix false n)
word-digits radix n low high small =
    let numeral = digits_is_IsNumeral radix false low high n small in
    record { some = numeral.0.0; graphic = digits-graphic radix (digits radix false n) (omega arith) numeral.0.1 }

pub word-decimal : (n : ℕ) → n < 2 ^ 64 → IsWord (decimal n)
word-decimal n small = word-digits 10 n (omega arith) (omega arith) (omega arith)

pub word-mode : (mode : ℕ) → mode < 8 ^ 6 → IsWord (mode_digits_of mode)
word-mode mode small = word-digits 8 mode (omega arith) (omega arith) (omega arith)

pub word-mask : (mask : ℕ) → mask < 2 ^ 32 → IsWord (mask_text mask)
word-mask mask small = record { some = omega arith; graphic = (word-digits 16 mask (omega arith) (omega arith) (omega arith)).graphic }

pub word-signed : (z : ℤ) → FitsSigned w32 z → IsWord (signed_decimal z)
word-signed (pos n) fits = word-decimal n (omega (arith, fits.sfits))
word-signed (negsuc n) fits = record { some = omega arith; graphic = (word-decimal (suc n) (omega (arith, fits.sfits))).graphic }

-- the digits of the tables are visible
lower-graphic : (d : ℕ) → d < 16 → is_ascii_graphic (get_or lower_digits d 0) ≡ true
lower-graphic d lt = agree_below_at (λ k. is_ascii_graphic (get_or lower_digits k 0)) (λ _. true) 16 d refl lt

glyph-graphic : (d : ℕ) → d < 16 → is_ascii_graphic (digit_glyph true d) ≡ true
glyph-graphic d lt = agree_below_at (λ k. is_ascii_graphic (digit_glyph true k)) (λ _. true) 16 d refl lt

encoded-graphic : (bytes : List ℕ) → IsBytes bytes → list_all is_ascii_graphic (encode_lower bytes) ≡ true
unfolding encode_with
encoded-graphic [] h = refl
encoded-graphic (b ∷ bs) h =
    let small : b < 256 = h 0 in
    and_from _ _ (lower-graphic (b / 16) (omega arith)) (and_from _ _ (lower-graphic (b % 16) (omega arith)) (encoded-graphic bs (λ i. h (suc i))))

encoded-some : (b : ℕ) (bs : List ℕ) → 0 < length (encode_lower (b ∷ bs))
unfolding encode_with
encoded-some b bs = omega arith

pub word-hexadecimal : (bytes : List ℕ) → IsBytes bytes → IsWord (hexadecimal bytes)
word-hexadecimal [] h = record { some = omega arith; graphic = refl }
word-hexadecimal (b ∷ bs) h = record { some = encoded-some b bs; graphic = encoded-graphic (b ∷ bs) h }

byte-graphic : (b : ℕ) → list_all is_ascii_graphic (printed_byte b) ≡ true
unfolding percent_encode_byte
byte-graphic b = go (is_plain b) refl
  where
    go : (t : Bool) → is_plain b ≡ t → list_all is_ascii_graphic (if t then b ∷ [] else percent_encode_byte b) ≡ true
    go true e = and_from (is_ascii_graphic b) true (and_parts (is_ascii_graphic b) (not (b == 37)) e).0 refl
    go false e = and_from _ _ (glyph-graphic (b / 16 % 16) (omega arith)) (and_from _ _ (glyph-graphic (b % 16) (omega arith)) refl)

printed-graphic : (bytes : List ℕ) → list_all is_ascii_graphic (printed_name bytes) ≡ true
unfolding printed_name
printed-graphic [] = refl
printed-graphic (b ∷ bs) =
    list_all-append is_ascii_graphic (printed_byte b) (printed_name bs)
    ∙ and_from (list_all is_ascii_graphic (printed_byte b)) (list_all is_ascii_graphic (printed_name bs)) (byte-graphic b) (printed-graphic bs)

pub word-path : (path : List (List ℕ)) → IsWord (path_text path)
word-path [] = record { some = omega (arith, ap length printed-root); graphic = printed-graphic (pathname_of []) }
word-path (name ∷ names) = record {
  some = omega (arith, ap length (printed-slashed name names));
  graphic = printed-graphic (pathname_of (name ∷ names));
}

-- ---- numbers below zero

signed-plain : (ds : List ℕ) (n : ℕ) → IsNumeral 10 ds → from_zero ds ≡ Some (pos n)
    → or_fault BadNumber (signed_number (behind (codes "-") ds) ds) ≡ Ok (pos n)
signed-plain [] n numeral is = absurd (omega (arith, numeral.0))
signed-plain (c ∷ cs) n numeral is =
    let digit = numeral.1.0 in
    let range = digit-range c (omega arith) in
    let other : (c == 45) ≡ false = ne_eqb c 45 (λ e. omega (arith, e)) in
    rw (other, is) refl

pub i32-read : (z : ℤ) → FitsSigned w32 z → i32_word (signed_decimal z) ≡ Ok z
unfolding i32_word
i32-read (pos n) fits =
    let numeral = digits_is_IsNumeral 10 false (omega arith) (omega arith) n (omega (arith, fits.sfits)) in
    signed-plain (decimal n) n numeral.0 (rw (decimal-spelled (2 ^ 31 - 1) n (omega (arith, fits.sfits)) (omega (arith, fits.sfits))) refl)
i32-read (negsuc n) fits = rw (decimal-spelled (2 ^ 31) (suc n) (omega (arith, fits.sfits)) (omega (arith, fits.sfits))) refl

-- ---- bytes

two-digits : (c : ℕ) (cs : List ℕ) → bytes_eq (encode_lower (c ∷ cs)) (codes "-") ≡ false
unfolding encode_with
two-digits c cs = and_right _ _ refl

pub hex-read : (bytes : List ℕ) → IsBytes bytes → hex_word (hexadecimal bytes) ≡ Ok bytes
unfolding hex_word
hex-read [] h = refl
hex-read (b ∷ bs) h =
    cond-false (bytes_eq (encode_lower (b ∷ bs)) (codes "-")) (Ok []) (or_fault BadHex (result_ok (decode_of (encode_lower (b ∷ bs))))) (two-digits b bs)
    ∙ ap (λ (r : Result (List ℕ) FromHexError). or_fault BadHex (result_ok r)) (decode_of-encode_lower (b ∷ bs) h)

-- ---- paths

abbrev is_byte : ℕ → Bool
is_byte b = ltb b 256

bytes-pass : (bytes : List ℕ) → IsBytes bytes → list_all is_byte bytes ≡ true
bytes-pass [] h = refl
bytes-pass (b ∷ bs) h = and_from (is_byte b) (list_all is_byte bs) (lt-ltb b 256 (h 0)) (bytes-pass bs (λ i. h (suc i)))

slashed-pass : (names : List (List ℕ)) → All IsName names → list_all is_byte (slashed names) ≡ true
slashed-pass [] h = refl
slashed-pass (x ∷ xs) h =
    list_all-append is_byte x (slashed xs)
    ∙ and_from (list_all is_byte x) (list_all is_byte (slashed xs)) (bytes-pass x (All-head IsName x xs h).bytes) (slashed-pass xs (All-tail IsName x xs h))

pathname-pass : (path : List (List ℕ)) → All IsName path → list_all is_byte (pathname_of path) ≡ true
pathname-pass [] h = refl
pathname-pass (x ∷ xs) h = slashed-pass (x ∷ xs) h

glyph-value : (d : ℕ) → d < 16 → digit_value (digit_glyph true d) ≡ d
glyph-value d small = grind (arith, nat_tests)

-- a byte of a path that is no percent sign stands for itself
unescaped-other : (b : ℕ) (rest : List ℕ) → (b == 37) ≡ false → unescaped (b ∷ rest) ≡ before (Some b) (unescaped rest)
unescaped-other b [] h = rw h refl
unescaped-other b (c ∷ []) h = rw h refl
unescaped-other b (c ∷ d ∷ bs) h = rw h refl

escape-byte : (b : ℕ) → b < 256 → byte_of (digit_glyph true (b / 16 % 16)) (digit_glyph true (b % 16)) ≡ Some b
escape-byte b small =
    let high = glyph-value (b / 16 % 16) (omega arith) in
    let low = glyph-value (b % 16) (omega arith) in
    let h = digit_glyph true (b / 16 % 16) in
    let l = digit_glyph true (b % 16) in
    let value : (0 * 16 + digit_value h) * 16 + digit_value l ≡ b = omega arith in
    spelled-numeral 16 2 (2 ^ 8 - 1) b (h ∷ l ∷ []) (omega arith, (omega arith, (omega arith, tt))) value (omega arith) (omega arith)

unescaped-escape : (b : ℕ) (rest : List ℕ) → b < 256 → unescaped (percent_encode_byte b ++ rest) ≡ before (Some b) (unescaped rest)
unfolding percent_encode_byte
unescaped-escape b rest small = ap (λ (o : Option ℕ). before o (unescaped rest)) (escape-byte b small)

unescaped-byte : (b : ℕ) (rest : List ℕ) → b < 256 → unescaped (printed_byte b ++ rest) ≡ before (Some b) (unescaped rest)
unescaped-byte b rest small = go (is_plain b) refl
  where
    go : (t : Bool) → is_plain b ≡ t → unescaped ((if t then b ∷ [] else percent_encode_byte b) ++ rest) ≡ before (Some b) (unescaped rest)
    go true e = unescaped-other b rest (not-true (b == 37) (and_parts (is_ascii_graphic b) (not (b == 37)) e).1)
    go false e = unescaped-escape b rest small

pub unescaped-printed : (bytes : List ℕ) → list_all is_byte bytes ≡ true → unescaped (printed_name bytes) ≡ Some bytes
unfolding printed_name
unescaped-printed [] h = refl
unescaped-printed (b ∷ bs) h =
    let parts = and_parts (is_byte b) (list_all is_byte bs) h in
    unescaped-byte b (printed_name bs) (ltb-true b 256 parts.0) ∙ ap (before (Some b)) (unescaped-printed bs parts.1)

pub path-read : (path : List (List ℕ)) → All IsName path → path_word (path_text path) ≡ Ok (pathname_of path)
unfolding path_word
path-read path h = rw (unescaped-printed (pathname_of path) (pathname-pass path h)) refl
