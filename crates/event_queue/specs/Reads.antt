-- How many records a read gives: read(2) returns as many as fit whole into its buffer (inotify(7), "Reading events").
use Rattle.std.proofs.Common.{suc}
use Rattle.std.specs.Prelude.{ℕ, ◌-◌, ◌<◌, ◌≤◌, nat_le, if◌then◌else◌, List, [], ◌∷◌, length, take}
use Rattle.record_codec.specs.declared.event.Event.{Event}
use Rattle.record_codec.specs.Records.{record_bytes, spelling}

-- the greatest count of leading records that take at most n bytes
abbrev pub fitting : ℕ → List Event → ℕ
fitting n [] = 0
fitting n (e ∷ es) = if nat_le (length (record_bytes e)) n then suc (fitting (n - length (record_bytes e)) es) else 0

-- the first k records take at most n bytes in all, and no greater count of records does
pub record IsGreatestFit (n : ℕ) (records : List Event) (k : ℕ) : Type 0 where
  pub within : k ≤ length records
  pub fits : length (spelling (take k records)) ≤ n
  pub greatest : (more : ℕ) → k < more → more ≤ length records → n < length (spelling (take more records))
