-- Where a path keeps its names. No public clause cites this module.
use Rattle.std.specs.Prelude.{◌≡◌, ℕ, ◌<◌, ◌≤◌, ◌-◌, ◌==◌, Bool, true, false, not, List, ◌∷◌, length, take, drop}
use Rattle.std.specs.Prelude.{[], ◌++◌, ◌+◌, map, slice_index, IsTrue, ◌&&◌, ◌||◌, nat_lt}
use Rattle.std.specs.List.{list_all}
use Rattle.record_codec.specs.declared.name.TheConstants.{NAME_IN_PLACE}
use Rattle.std.specs.Simd.Lanes.{mask_l}
use Rattle.record_codec.specs.Names.{is_name, is_name_byte}
use Rattle.tree_paths.specs.declared.path_text.PathText.{PathText}
use Rattle.tree_paths.specs.declared.path_text.PathText.TheVariants.{Short, Text, Names}
use Rattle.tree_paths.specs.declared.path_text.TheConstants.{SHORT_MAX}
use Rattle.tree_paths.specs.declared.left.Left.{Left}
use Rattle.tree_paths.specs.declared.left.Left.TheVariants.{InText, InList}
use Rattle.tree_paths.specs.declared.parse.Shape.{Shape}
use Rattle.tree_paths.specs.declared.path_name.Found.{Found}
use Rattle.tree_paths.specs.declared.path_name.Found.TheVariants.{InPlace, Lent}
use Rattle.tree_paths.specs.declared.path_name.Source.{Source}
use Rattle.tree_paths.specs.declared.path_name.Source.TheVariants as source
use Rattle.tree_paths.specs.declared.stops.TheConstants.{BLOCK}
use Rattle.tree_paths.specs.Paths.{names_of, is_in_place, slash, slashed}
use Rattle.tree_paths.specs.Pieces.{is_nonempty, pieces}

-- what no plain name begins with
abbrev pub dot : ℕ
dot = 46

-- how many names there are, how long their text is, and whether none needs an allocation
unfoldable pub shape_of : List (List ℕ) → Shape
shape_of names = record { count = length names; len = length (slashed names); fits = list_all is_in_place names }

-- the text of names of which none needs an allocation
pub record IsSlashed (text : List ℕ) : Type 0 where
  pub names : List (List ℕ)
  pub named : list_all is_name names ≡ true
  pub in_place : list_all is_in_place names ≡ true
  pub is : text ≡ slashed names

-- the first name of such a text, and the text behind it
pub record IsSplit (text name behind : List ℕ) : Type 0 where
  pub names : names_of text ≡ name ∷ names_of behind
  pub named : IsTrue (is_name name)
  pub short : length name ≤ NAME_IN_PLACE
  pub sound : IsSlashed behind

abbrev pub kept_names : PathText → List (List ℕ)
kept_names (Short len text) = names_of (take len text)
kept_names (Text text) = names_of text.items
kept_names (Names names) = names.items

-- what every Path keeps: a list of names only where one of them needs an allocation
abbrev pub IsKept : PathText → Type 0
IsKept (Short len text) = (len ≤ SHORT_MAX) × IsSlashed (take len text)
IsKept (Text text) = IsSlashed text.items
IsKept (Names names) = list_all is_in_place names.items ≡ false

-- a name that begins with no dot, of any length
abbrev pub is_plain_name : List ℕ → Bool
is_plain_name name = is_nonempty name && not (slice_index name 0 == dot) && list_all is_name_byte name

-- fewer bytes than a block, with one slash before each name, and no name that begins with a dot
unfoldable pub is_plain : List ℕ → Bool
is_plain text =
    nat_lt (length text) BLOCK && (slice_index text 0 == slash)
    && list_all is_plain_name (pieces slash (drop 1 text))

-- a zero byte, or a slash or a dot where a name has to begin
abbrev pub is_special : Bool → ℕ → Bool
is_special begins b = b == 0 || begins && (b == slash || b == dot)

-- a slash or a zero byte: no name goes on there
abbrev pub is_stop : ℕ → Bool
is_stop b = not (is_name_byte b)

-- bit k says whether byte k is a stop
abbrev pub stops_in : List ℕ → ℕ
stops_in bytes = mask_l (map is_stop bytes)

-- these are the stops among the first `window` bytes of a text with a slash behind it
pub record IsMarked (text : List ℕ) (stops : ℕ) : Type 0 where
  pub window : ℕ
  pub few : window ≤ 64
  pub within : window ≤ length text + 1
  pub is : stops ≡ stops_in (take window (text ++ slash ∷ []))

abbrev pub left_names : Left → List (List ℕ)
left_names (InText text stops) = names_of text.now
left_names (InList names) = names.now

-- what every PathNames keeps
abbrev pub IsLeft : Left → Type 0
IsLeft (InText text stops) = IsSlashed text.now × IsMarked (drop 1 text.now) stops
IsLeft (InList names) = Unit {0}

abbrev pub found_name : Found → List ℕ
found_name (InPlace name) = name
found_name (Lent name) = name.now

abbrev pub source_name : Source → List ℕ
source_name (source.InText name) = name.now
source_name (source.InList name) = name.now

-- what every NameRef keeps
abbrev pub IsSource : Source → Type 0
IsSource (source.InText name) = IsTrue (is_name name.now) × (length name.now ≤ NAME_IN_PLACE)
IsSource (source.InList name) = Unit {0}

-- a byte of a name, in a text
abbrev pub is_other : ℕ → Bool
is_other b = not (b == slash)

abbrev pub is_slash : ℕ → Bool
is_slash b = b == slash

-- bit k says whether byte k is a slash
abbrev pub slashes_in : List ℕ → ℕ
slashes_in bytes = mask_l (map is_slash bytes)

-- the last slash of a text stands before this index
pub record IsLastStart (text : List ℕ) (start : ℕ) : Type 0 where
  pub some : 0 < start
  pub within : start ≤ length text
  pub at_slash : slice_index text (start - 1) ≡ slash
  pub none : list_all is_other (drop start text) ≡ true
