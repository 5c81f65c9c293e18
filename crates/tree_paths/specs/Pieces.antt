-- Bytes between separators: the names of a path, the lines of a text, the words of a line.
use Rattle.std.specs.Prelude.{ℕ, Bool, not, ◌==◌, List, length, filter}
use Rattle.std.specs.List.{slice_split}

-- the pieces between separators, one more than there are separators
abbrev pub pieces : ℕ → List ℕ → List (List ℕ)
pieces separator bytes = slice_split (λ b. b == separator) bytes

abbrev pub is_nonempty : List ℕ → Bool
is_nonempty piece = not (length piece == 0)

-- the nonempty pieces: several separators together count as one, also at the ends
abbrev pub runs : ℕ → List ℕ → List (List ℕ)
runs separator bytes = filter is_nonempty (pieces separator bytes)
