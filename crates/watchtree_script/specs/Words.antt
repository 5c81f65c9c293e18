-- What the words behind a command stand for, by their kinds.
use Rattle.std.specs.Prelude.{ℕ, Bool, ℤ, pos, neg_ℤ, ◌-◌, ◌^◌, ◌&&◌, ◌==◌, nat_lt, nat_le, List, [], ◌∷◌, length}
use Rattle.std.specs.Prelude.{take, drop, codes, Option, Some, None, option_map, option_and_then, Result, Ok, Err}
use Rattle.std.specs.Prelude.{if◌then◌else◌}
use Rattle.std.specs.List.{list_all, list_any}
use Rattle.std.specs.Char.{is_digit}
use Rattle.std.specs.Str.{byte, bytes_eq}
use Rattle.std.specs.Str.Parse.{digits_value}
use Rattle.std.specs.Result.{result_ok}
use Rattle.hex.specs.Hex.{decode_of}
use Rattle.watchtree_script.specs.declared.fault.ScriptFault.{ScriptFault}
use Rattle.watchtree_script.specs.declared.fault.ScriptFault.TheVariants.{BadEscape, BadMode, BadHex, BadMask}
use Rattle.watchtree_script.specs.declared.fault.ScriptFault.TheVariants.{BadNumber}
use Rattle.watchtree_script.specs.declared.line.LineError.{LineError}
use Rattle.watchtree_script.specs.declared.line.LineError.TheVariants.{Fault}

-- a word's value, or the fault of a word that has none
abbrev pub or_fault : {A : Type 0} → ScriptFault → Option A → Result A LineError
or_fault fault None = Err (Fault fault)
or_fault fault (Some x) = Ok x

-- whether a byte is escaped: there is a percent sign
abbrev pub is_escaped : List ℕ → Bool
is_escaped bytes = list_any (λ b. b == byte "%") bytes

-- the radices of numbers
abbrev pub octal : ℕ
octal = 8

abbrev pub decimals : ℕ
decimals = 10

abbrev pub hexadecimal : ℕ
hexadecimal = 16

-- how many digits stand behind a percent sign, and how many a mode, a mask and any other number may have
abbrev pub escape_digits : ℕ
escape_digits = 2

abbrev pub mode_digits : ℕ
mode_digits = 6

abbrev pub mask_digits : ℕ
mask_digits = 8

abbrev pub number_digits : ℕ
number_digits = 20

-- the greatest values of a u8, a u32, a u64 and an i32, and of an i32 below 0 without its sign
abbrev pub u8_max : ℕ
u8_max = 2 ^ 8 - 1

abbrev pub u32_max : ℕ
u32_max = 2 ^ 32 - 1

abbrev pub u64_max : ℕ
u64_max = 2 ^ 64 - 1

abbrev pub i32_max : ℕ
i32_max = 2 ^ 31 - 1

abbrev pub i32_min_size : ℕ
i32_min_size = 2 ^ 31

-- the number of one digit or more, but no more than most, where it is at most greatest. Digits above 9 are letters, in
-- either case
unfoldable pub number_spelled : ℕ → ℕ → ℕ → List ℕ → Option ℕ
number_spelled radix most greatest digits =
    if nat_lt 0 (length digits) && nat_le (length digits) most && list_all (λ c. is_digit c radix) digits
    && nat_le (digits_value radix digits) greatest
    then Some (digits_value radix digits) else None

-- a byte at the front of bytes, where both are there
abbrev pub before : Option ℕ → Option (List ℕ) → Option (List ℕ)
before b bytes = option_and_then (λ x. option_map (λ xs. x ∷ xs) bytes) b

-- the byte of two hexadecimal digits
abbrev pub byte_of : ℕ → ℕ → Option ℕ
byte_of high low = number_spelled hexadecimal escape_digits u8_max (high ∷ low ∷ [])

-- the bytes of a word: a percent sign and two hexadecimal digits stand for that byte, other bytes for themselves
abbrev pub unescaped : List ℕ → Option (List ℕ)
unescaped [] = Some []
unescaped (b ∷ []) = if b == byte "%" then None else Some (b ∷ [])
unescaped (b ∷ c ∷ []) = if b == byte "%" then None else before (Some b) (unescaped (c ∷ []))
unescaped (b ∷ c ∷ d ∷ bs) =
    if b == byte "%" then before (byte_of c d) (unescaped bs) else before (Some b) (unescaped (c ∷ d ∷ bs))

-- what stands behind a prefix, where the bytes begin with it
abbrev pub behind : List ℕ → List ℕ → Option (List ℕ)
behind prefix bytes = if bytes_eq (take (length prefix) bytes) prefix then Some (drop (length prefix) bytes) else None

-- PATH: the bytes that it stands for, which are parsed once all words of the line are read
unfoldable pub path_word : List ℕ → Result (List ℕ) LineError
path_word word = or_fault BadEscape (unescaped word)

-- MODE: 1 to 6 octal digits
unfoldable pub mode_word : List ℕ → Result ℕ LineError
mode_word word = or_fault BadMode (number_spelled octal mode_digits u32_max word)

-- MASK: 0x, and 1 to 8 hexadecimal digits
unfoldable pub mask_word : List ℕ → Result ℕ LineError
mask_word word =
    or_fault BadMask (option_and_then (number_spelled hexadecimal mask_digits u32_max) (behind (codes "0x") word))

-- ID, COUNT, BYTES, LIMIT: 1 to 20 decimal digits that fit a u32
unfoldable pub u32_word : List ℕ → Result ℕ LineError
u32_word word = or_fault BadNumber (number_spelled decimals number_digits u32_max word)

-- OFFSET, LEN: 1 to 20 decimal digits that fit a u64
unfoldable pub u64_word : List ℕ → Result ℕ LineError
u64_word word = or_fault BadNumber (number_spelled decimals number_digits u64_max word)

-- the number of digits behind a minus sign, and of digits without one
abbrev pub below_zero : List ℕ → Option ℤ
below_zero digits = option_map (λ n. neg_ℤ (pos n)) (number_spelled decimals number_digits i32_min_size digits)

abbrev pub from_zero : List ℕ → Option ℤ
from_zero digits = option_map (λ n. pos n) (number_spelled decimals number_digits i32_max digits)

abbrev pub signed_number : Option (List ℕ) → List ℕ → Option ℤ
signed_number (Some digits) word = below_zero digits
signed_number None word = from_zero word

-- WD: 1 to 20 decimal digits, behind a minus sign if wanted, that fit an i32
unfoldable pub i32_word : List ℕ → Result ℤ LineError
i32_word word = or_fault BadNumber (signed_number (behind (codes "-") word) word)

-- HEX: bytes as two hexadecimal digits each, and a minus sign for no bytes
unfoldable pub hex_word : List ℕ → Result (List ℕ) LineError
hex_word word = if bytes_eq word (codes "-") then Ok [] else or_fault BadHex (result_ok (decode_of word))
