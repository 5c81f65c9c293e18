use Rattle.std.proofs.Common.{◌≡◌, ◌<◌, ◌^◌, true, take}
use Rattle.std.specs.Char.{is_digit}
use Rattle.std.specs.List.{list_all}
use Rattle.std.specs.Str.Parse.{digits_value}
use Rattle.watchtree_script.proofs.numbers.value_of.Given as goal

abbrev pub invariant-loop-byte : goal.invariant-loop-byte
invariant-loop-byte l = record {
  value : l.number ≡ digits_value l.radix (take l.byte-index l.digits);
  digits : list_all (λ b. is_digit b l.radix) (take l.byte-index l.digits) ≡ true;
  small : l.number < 2 ^ 64;
}
