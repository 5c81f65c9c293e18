-- What the functions that read lines and words say to one another. No public clause cites this module.
use Rattle.std.specs.Prelude.{◌≡◌, ◌==◌, ◌&&◌, ◌⊎◌, ⊤, ℕ, Bool, List, [], map, not, Option, Some, None, Result, Ok, Err}
use Rattle.std.specs.Simd.Lanes.{mask_l}
use Rattle.tree_paths.specs.Pieces.{pieces}
use Rattle.watchtree_script.specs.declared.line.Line.{Line}
use Rattle.watchtree_script.specs.declared.line.Line.TheVariants.{Silent, Cut, Run}
use Rattle.watchtree_script.specs.declared.line.LineError.{LineError}
use Rattle.watchtree_script.specs.declared.line.LineError.TheVariants.{Fault, Refused, PathMemory, Memory}
use Rattle.watchtree_script.specs.Lines.{is_line_byte}
use Rattle.watchtree_script.specs.Script.{HasPath}

-- the pieces of what stands behind a separator, of which there may be none
abbrev pub pieces_in : ℕ → Option (List ℕ) → List (List ℕ)
pieces_in separator None = []
pieces_in separator (Some bytes) = pieces separator bytes

-- bit k says whether byte k is a separator
abbrev pub separators_in : ℕ → List ℕ → ℕ
separators_in separator bytes = mask_l (map (λ b. b == separator) bytes)

-- a space or a byte of a word, but not this one
abbrev pub is_before : ℕ → ℕ → Bool
is_before stop b = is_line_byte b && not (b == stop)

-- bit k says whether byte k is this one, or neither a space nor a byte of a word
abbrev pub stops_in : ℕ → List ℕ → ℕ
stops_in stop bytes = mask_l (map (λ b. not (is_before stop b)) bytes)

-- what the code gives for a word is this, unless memory ran out
abbrev pub Gives : {A : Type 0} → Result A LineError → Result A LineError → Type 0
Gives (Err Memory) wanted = Unit {0}
Gives (Err PathMemory) wanted = wanted ≡ Err PathMemory
Gives (Err (Fault fault)) wanted = wanted ≡ Err (Fault fault)
Gives (Err (Refused refusal)) wanted = wanted ≡ Err (Refused refusal)
Gives (Ok x) wanted = wanted ≡ Ok x

-- the same of paths and what stands beside them: memory may run out for a path, which is one then
abbrev pub GivesPath : {A : Type 0} → Result A LineError → Result A LineError → Type 0
GivesPath (Err Memory) wanted = Unit {0}
GivesPath {A} (Err PathMemory) wanted = ((x : A) × (wanted ≡ Ok x)) ⊎ (wanted ≡ Err PathMemory)
GivesPath (Err (Fault fault)) wanted = wanted ≡ Err (Fault fault)
GivesPath (Err (Refused refusal)) wanted = wanted ≡ Err (Refused refusal)
GivesPath (Ok x) wanted = wanted ≡ Ok x

-- the line asks for a call that has a path. (That it is to want memory no definition says of a line.)
abbrev pub AsksByPath : Result Line LineError → Type 0
AsksByPath (Ok Silent) = ⊥
AsksByPath (Ok Cut) = ⊥
AsksByPath (Ok (Run call format)) = HasPath call
AsksByPath (Err (Fault fault)) = ⊥
AsksByPath (Err (Refused refusal)) = ⊥
AsksByPath (Err PathMemory) = ⊤
AsksByPath (Err Memory) = ⊥

-- the same of a line: memory runs out for a word, or for a path of its call
abbrev pub GivesLine : Result Line LineError → Result Line LineError → Type 0
GivesLine (Err Memory) wanted = Unit {0}
GivesLine (Err PathMemory) wanted = AsksByPath wanted
GivesLine (Err (Fault fault)) wanted = wanted ≡ Err (Fault fault)
GivesLine (Err (Refused refusal)) wanted = wanted ≡ Err (Refused refusal)
GivesLine (Ok line) wanted = wanted ≡ Ok line
