use Rattle.std.proofs.Common.{◌≡◌, ◌<◌, ◌≤◌, ◌+◌, ◌*◌, ◌^◌, ◌&&◌, ℕ, List, true, length, get_or, take, take_all, sym, ap, ◌∙◌, arith, rules}
use Rattle.std.specs.Char.{digit_value, is_digit}
use Rattle.std.specs.List.{list_all}
use Rattle.std.specs.Str.Parse.{digits_value}
use Rattle.std.proofs.lemmas.Bool.Decides.{nat_tests}
use Rattle.std.proofs.lemmas.Int.Digits.{digits_value_more}
use Rattle.std.proofs.lemmas.List.Folds.{list_all_more}
use Rattle.std.proofs.lemmas.Str.Parse.{digits_value-take-le}
use Rattle.watchtree_script.proofs.numbers.value_of.Goals as goal

-- where the first digits do not fit, the whole does not
too-large : (radix : ℕ) (ds : List ℕ) (i : ℕ) → 1 ≤ radix → i < length ds
    → 2 ^ 64 ≤ digits_value radix (take i ds) * radix + digit_value (get_or ds i 0) → digits_value radix ds < 2 ^ 64 → ⊥
too-large radix ds i some inside large fits = omega (arith, digits_value_more radix ds i inside, digits_value-take-le radix ds (i + 1) some)

pub returns-in_default-checked_mul : goal.returns-in_default-checked_mul
returns-in_default-checked_mul c =
    let ds = c.args.digits.now in
    let i = c.loop-byte.byte-index in
    let from : c.from-in-loop-byte.result ≡ c.args.radix = omega arith in
    let e : c.loop-byte.number * c.from-in-loop-byte.result ≡ digits_value c.args.radix (take i ds) * c.args.radix =
    (λ k. c.loop-byte.invariant.value k * from k) in
    λ all. too-large c.args.radix ds i (omega arith) c.loop-byte-test.true (omega (arith, c.in_default-checked_mul.ensures, e)) all.2

pub returns-in_default-checked_add : goal.returns-in_default-checked_add
returns-in_default-checked_add c =
    let ds = c.args.digits.now in
    let i = c.loop-byte.byte-index in
    let digit : c.in-Some.digit ≡ digit_value (get_or ds i 0) = search rules in
    let from : c.from-in-loop-byte.result ≡ c.args.radix = omega arith in
    let e : c.loop-byte.number * c.from-in-loop-byte.result ≡ digits_value c.args.radix (take i ds) * c.args.radix =
    (λ k. c.loop-byte.invariant.value k * from k) in
    λ all. too-large c.args.radix ds i (omega arith) c.loop-byte-test.true
    (omega (arith, c.in_default-checked_add.ensures, c.in-Some-checked_mul.ensures, digit, e)) all.2

pub loop-byte-preserved : goal.loop-byte-preserved
loop-byte-preserved c =
    let ds = c.args.digits.now in
    let i = c.loop-byte.byte-index in
    let digit : c.in-Some.digit ≡ digit_value (get_or ds i 0) = search rules in
    let passes : is_digit (get_or ds i 0) c.args.radix ≡ true = grind (arith, nat_tests) in
    let from : c.from-in-loop-byte.result ≡ c.args.radix = omega arith in
    let e : c.loop-byte.number * c.from-in-loop-byte.result ≡ digits_value c.args.radix (take i ds) * c.args.radix =
    (λ k. c.loop-byte.invariant.value k * from k) in
    let more = digits_value_more c.args.radix ds i c.loop-byte-test.true in record {
      value = omega (arith, more, c.in-Some-checked_add.ensures, c.in-Some-checked_mul.ensures, digit, e);
      digits = list_all_more (λ b. is_digit b c.args.radix) ds i 0 c.loop-byte-test.true ∙ (λ k. c.loop-byte.invariant.digits k && passes k);
      small = omega (arith, c.in-Some-checked_add.ensures);
    }

pub returns : goal.returns
returns c =
    let ds = c.args.digits.now in
    let all = take_all c.loop-byte.byte-index ds c.loop-byte-test.false in
    let value : c.loop-byte.number ≡ digits_value c.args.radix ds = c.loop-byte.invariant.value ∙ ap (digits_value c.args.radix) all in
    let some : 0 < length ds = grind (arith, nat_tests) in (
      (some, sym (ap (list_all (λ b. is_digit b c.args.radix)) all) ∙ c.loop-byte.invariant.digits, omega (arith, value, c.loop-byte.invariant.small)),
      value,
    )
