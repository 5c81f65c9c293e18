-- What a pathname's text stands for, and how paths lie to one another.
use Rattle.std.specs.Prelude.{◌≡◌, ℕ, ◌-◌, ◌<◌, take, Bool, not, ◌&&◌, ◌||◌, ◌==◌}
use Rattle.std.specs.Prelude.{is_some, nat_lt, nat_le, cond, List, []}
use Rattle.std.specs.Prelude.{◌∷◌, ◌++◌, length, slice_index, codes, Option, Some, None, Result, Ok, Err, if◌then◌else◌}
use Rattle.std.specs.BTreeMap.{is_at}
use Rattle.std.specs.Cmp.Lexicographic.{slice_cmp}
use Rattle.std.specs.List.{list_any, flat_map, slice_get}
use Rattle.std.specs.Option.{option_and_then}
use Rattle.std.specs.Ordering.{nat_cmp}
use Rattle.std.specs.Str.{bytes_eq}
use Rattle.record_codec.specs.declared.name.TheConstants.{NAME_IN_PLACE, NAME_MAX}
use Rattle.tree_paths.specs.declared.refusal.Refusal.{Refusal}
use Rattle.tree_paths.specs.declared.refusal.Refusal.TheVariants.{Enoent, Einval, Enametoolong}
use Rattle.tree_paths.specs.Pieces.{runs}

-- the bytes of a pathname with the null byte that ends it for C (PATH_MAX of <limits.h>)
abbrev pub path_max : ℕ
path_max = 4096

-- the null byte and the slash, which no filename has
abbrev pub is_null : ℕ → Bool
is_null b = b == 0

abbrev pub slash : ℕ
slash = 47

-- the filenames of a pathname, between slashes, of which several together count as one (POSIX.1-2017, 3.271 Pathname,
-- 3.170 Filename)
abbrev pub names_of : List ℕ → List (List ℕ)
names_of text = runs slash text

-- dot and dot-dot, which no path here has (4.13 Pathname Resolution)
abbrev pub is_dots : List ℕ → Bool
is_dots name = bytes_eq name (codes ".") || bytes_eq name (codes "..")

abbrev pub is_long : List ℕ → Bool
is_long name = nat_lt NAME_MAX (length name)

-- a name of at most NAME_IN_PLACE bytes, which needs no allocation
abbrev pub is_in_place : List ℕ → Bool
is_in_place name = nat_le (length name) NAME_IN_PLACE

-- the names of an absolute pathname's text, or why it is refused: the first row that holds
unfoldable pub parsed : List ℕ → Result (List (List ℕ)) Refusal
parsed text =
    if length text == 0 then Err Enoent
    else if nat_le path_max (length text) then Err Enametoolong
    else if not (slice_index text 0 == slash) then Err Einval
    else if list_any is_null text then Err Einval
    else if nat_lt 1 (length text) && (slice_index text (length text - 1) == slash) then Err Einval
    else if list_any is_dots (names_of text) then Err Einval
    else if list_any is_long (names_of text) then Err Enametoolong
    else Ok (names_of text)

-- names with a slash before each
abbrev pub slashed : List (List ℕ) → List ℕ
slashed names = flat_map (λ n. slash ∷ n) names

-- the pathname of names, which for the root is a slash alone
abbrev pub pathname_of : List (List ℕ) → List ℕ
pathname_of [] = slash ∷ []
pathname_of (name ∷ names) = slashed (name ∷ names)

-- the text of the names before the last one: the path of the directory that has the last name, with a slash before each
-- name, so that the root's is empty
pub record IsParentText (names : List (List ℕ)) (text : List ℕ) : Type 0 where
  pub some : 0 < length names
  pub is : text ≡ slashed (take (length names - 1) names)
  pub front : names_of text ≡ take (length names - 1) names

-- above is a proper prefix of path
abbrev pub IsBelow : List (List ℕ) → List (List ℕ) → Type 0
IsBelow path above = (name : List ℕ) × (rest : List (List ℕ)) × (path ≡ above ++ name ∷ rest)

abbrev pub same_name : List ℕ → List ℕ → Bool
same_name l = is_at (slice_cmp nat_cmp l)

-- what is left of a path behind a front, if it begins with it
abbrev pub rest_after : List (List ℕ) → List (List ℕ) → Option (List (List ℕ))
rest_after [] p = Some p
rest_after (l ∷ front) [] = None
rest_after (l ∷ front) (m ∷ p) = cond (same_name l m) (rest_after front p) None

-- whether a path is below another one, which is a proper front of it
unfoldable pub is_below : List (List ℕ) → List (List ℕ) → Bool
is_below path above = is_some (option_and_then (λ names. slice_get names 0) (rest_after above path))
