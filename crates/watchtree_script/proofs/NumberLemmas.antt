-- Digits as std reads them.
use Rattle.std.proofs.Common.{◌≡◌, ℕ, ◌&&◌, Bool, true, false, List, [], ◌∷◌, refl, ltb-true}
use Rattle.std.specs.Char.{digit_value, is_digit}
use Rattle.std.specs.List.{list_all}
use Rattle.std.specs.Str.Parse.{AllDigits}

both : (a b : Bool) → (a && b) ≡ true → (a ≡ true) × (b ≡ true)
both true b h = (refl, h)
both false b h = cc

pub AllDigits-from_test : (radix : ℕ) (ds : List ℕ) → list_all (λ c. is_digit c radix) ds ≡ true → AllDigits radix ds
AllDigits-from_test radix [] h = tt
AllDigits-from_test radix (c ∷ cs) h =
    let parts = both (is_digit c radix) (list_all (λ d. is_digit d radix) cs) h in
    (ltb-true (digit_value c) radix parts.0, AllDigits-from_test radix cs parts.1)
