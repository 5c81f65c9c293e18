-- Which files may be watched.
use Rattle.std.specs.Prelude.{ℕ, ◌-◌, ◌/◌, ◌%◌, ◌^◌, ◌==◌, Bool, slice_index_or}
use Rattle.std.specs.Int.{bit_at}
use Rattle.instance_table.specs.declared.filter.WatchFilter.{WatchFilter}
use Rattle.instance_table.specs.declared.filter.TheConstants.{WORDS}

-- whether the bit of a file is set
unfoldable pub passes : WatchFilter → ℕ → Bool
passes filter number = bit_at (slice_index_or filter.words (number / 64 % WORDS) (2 ^ 64 - 1)) (number % 64) == 1
