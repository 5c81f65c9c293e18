-- What std reads of decimal digits, and which limits they stand for.
use Rattle.std.proofs.Common.{◌≡◌, ℕ, ◌<◌, ◌^◌, ◌&&◌, true, List, [], ◌∷◌, Result, Ok, Err, length, refl, sym, ap, ◌∙◌}
use Rattle.std.specs.Char.{is_ascii_digit}
use Rattle.std.specs.List.{list_all}
use Rattle.std.specs.Option.{SomeIff}
use Rattle.std.specs.Result.{OkIff, result_ok}
use Rattle.std.specs.Str.{all_ascii_digits}
use Rattle.std.specs.Str.Parse.{ParsesUnsigned, digits_value}
use Rattle.std.proofs.lemmas.Str.Parse.{numerals_by_value, parse_digits, tells_all_ascii_digits}

all-ascii_digits : (ds : List ℕ) → list_all is_ascii_digit ds ≡ all_ascii_digits ds
all-ascii_digits [] = refl
all-ascii_digits (c ∷ cs) = ap (λ t. is_ascii_digit c && t) (all-ascii_digits cs)

some-from_ok : {E : Type 0} (r : Result ℕ E) (P : Type 0) (v : ℕ) → OkIff r P v → SomeIff (result_ok r) P v
some-from_ok (Ok x) P v h = h
some-from_ok (Err e) P v h = h

pub parsed-digits : {E : Type 0} (ds : List ℕ) (r : Result ℕ E) → list_all is_ascii_digit ds ≡ true → ParsesUnsigned 32 10 ds r
    → SomeIff (result_ok r) ((0 < length ds) × (digits_value 10 ds < 2 ^ 32)) (digits_value 10 ds)
parsed-digits ds r all p =
    some-from_ok r _ _ (parse_digits (numerals_by_value (λ ds. all_ascii_digits ds ≡ true) tells_all_ascii_digits) 32 ds r p (sym (all-ascii_digits ds) ∙ all))
