-- How names and records are printed.
use Rattle.std.specs.Prelude.{ℕ, Bool, not, ◌&&◌, ◌==◌, nat_le, List, [], ◌∷◌, ◌++◌, codes, decimal, Option, Some, None}
use Rattle.std.specs.Prelude.{if◌then◌else◌}
use Rattle.std.specs.List.{flat_map}
use Rattle.std.specs.Fmt.{signed_decimal}
use Rattle.std.specs.Int.{w32, to_be_bytes}
use Rattle.hex.specs.Hex.{encode_lower}
use Rattle.percent_encoding.specs.Percent.{percent_encode_byte}
use Rattle.record_codec.specs.declared.event.Event.{Event}

-- visible in ASCII, and not a percent sign
abbrev pub is_plain : ℕ → Bool
is_plain b = nat_le 0x21 b && nat_le b 0x7e && not (b == 0x25)

-- a plain byte as it is, any other as a percent sign and two upper-case hexadecimal digits
abbrev pub printed_byte : ℕ → List ℕ
printed_byte b = if is_plain b then b ∷ [] else percent_encode_byte b

unfoldable pub printed_name : List ℕ → List ℕ
printed_name name = flat_map printed_byte name

-- wd in decimal, mask as eight hexadecimal digits, and cookie in decimal, with a space between them
unfoldable pub printed_numbers : Event → List ℕ
printed_numbers e =
    signed_decimal e.wd ++ codes " " ++ encode_lower (to_be_bytes w32 e.mask) ++ codes " " ++ decimal e.cookie

unfoldable pub printed_ending : Option (List ℕ) → List ℕ
printed_ending None = []
printed_ending (Some name) = codes " " ++ printed_name name

unfoldable pub record_line : Event → List ℕ
record_line e = printed_numbers e ++ printed_ending e.name
