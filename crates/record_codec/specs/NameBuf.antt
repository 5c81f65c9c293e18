-- Where a name keeps its bytes. No public clause cites this module.
use Rattle.std.specs.Prelude.{◌≡◌, ℕ, ◌<◌, ◌≤◌, List, length, slice_index, take}
use Rattle.byteorder.specs.Endian.{big_number}
use Rattle.record_codec.specs.declared.name.TheConstants.{NAME_IN_PLACE}
use Rattle.record_codec.specs.declared.name_buf.NameBuf.{NameBuf}
use Rattle.record_codec.specs.declared.name_buf.NameBuf.TheVariants.{Full, Short, Long}
use Rattle.record_codec.specs.Names.{IsName}

abbrev pub kept_bytes : NameBuf → List ℕ
kept_bytes (Full bytes) = bytes
kept_bytes (Short len bytes) = take len bytes
kept_bytes (Long bytes) = bytes.value.items

-- the first eight bytes as a number, the first one worth most, as if zero bytes stood behind fewer
abbrev pub front_of : List ℕ → ℕ
front_of bytes = big_number 8 bytes

-- only bytes that do not fit in the value itself are allocated, and zero bytes follow those of a short name
abbrev pub IsKept : NameBuf → Type 0
IsKept (Full bytes) = Unit {0}
IsKept (Short len bytes) = (len < NAME_IN_PLACE) × ((i : ℕ) → len ≤ i → slice_index bytes i ≡ 0)
IsKept (Long bytes) = NAME_IN_PLACE < length bytes.value.items

-- what every Name keeps
pub record IsKeptName (kept : NameBuf) : Type 0 where
  pub name : IsName (kept_bytes kept)
  pub sound : IsKept kept
