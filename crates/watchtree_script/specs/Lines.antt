-- The lines of a script, and the words of a line.
use Rattle.std.specs.Prelude.{ℕ, Bool, true, ◌||◌, ◌==◌, List, [], ◌∷◌, codes, if◌then◌else◌}
use Rattle.std.specs.Char.{is_ascii_graphic}
use Rattle.std.specs.Str.{byte, bytes_eq}
use Rattle.tree_paths.specs.Pieces.{pieces, runs}

-- the lines of a script, parted by line feeds. Behind a last line feed stands one more line, which is empty
abbrev pub lines_of : List ℕ → List (List ℕ)
lines_of script = pieces (byte "\n") script

-- the words of a line, parted by one space or more
abbrev pub words_of : List ℕ → List (List ℕ)
words_of line = runs (byte " ") line

-- a space, or a byte of a word: a graphic character of ASCII
abbrev pub is_line_byte : ℕ → Bool
is_line_byte b = (b == byte " ") || is_ascii_graphic b

-- a line that is empty or has spaces alone, or whose first byte past spaces is a '#'
abbrev pub is_blank_or_comment : List ℕ → Bool
is_blank_or_comment [] = true
is_blank_or_comment (b ∷ bs) = if b == byte " " then is_blank_or_comment bs else b == byte "#"

-- two dashes alone: they say where the set-up of a client's tree ends (`watchtree under`)
abbrev pub is_divider : List ℕ → Bool
is_divider line = bytes_eq line (codes "--")

-- a line that asks for nothing
abbrev pub is_silent : List ℕ → Bool
is_silent line = is_blank_or_comment line || is_divider line
