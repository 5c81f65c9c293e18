-- Why a call on files is refused: the first row that holds. POSIX.1-2017 says when each error comes (`open`, `mkdir`,
-- `write`, `read`, `truncate`, `chmod`, `link`, `unlink`, `rmdir`, `rename`, `stat`, `opendir`), renameat2(2) does for
-- its flags, and both leave open which comes first; here it is the order of the rows.
use Rattle.std.specs.Prelude.{ℕ, ◌+◌, Bool, false, not, ◌&&◌, ◌||◌, ◌==◌, List, [], ◌∷◌, ◌++◌, Option, Some, None}
use Rattle.std.specs.Prelude.{is_some, length, nat_lt, if◌then◌else◌}
use Rattle.tree_paths.specs.declared.refusal.Refusal.{Refusal}
use Rattle.tree_paths.specs.declared.refusal.Refusal.TheVariants.{Eperm, Ebusy, Eexist, Enotdir, Eisdir, Einval, Efbig}
use Rattle.tree_paths.specs.declared.refusal.Refusal.TheVariants.{Emlink, Enotempty, CookiesSpent, NumbersSpent}
use Rattle.tree_paths.specs.declared.limits.Limits.{Limits}
use Rattle.inode_table.specs.declared.seen.Seen.{Seen}
use Rattle.tree_paths.specs.Paths.{is_below}
use Rattle.inode_table.specs.World.{World, look}
use Rattle.tree_paths.specs.Rows.{row, first_row}
use Rattle.inode_table.specs.Refusals.{Look, is_directory_seen, find, parent}
use Rattle.tree_ops.specs.declared.call.TheConstants.{MAX_MODE, RENAME_EXCHANGE, RENAME_NOREPLACE}
use Rattle.tree_ops.specs.declared.call.FileCall.{FileCall}
use Rattle.tree_ops.specs.declared.call.FileCall.TheVariants.{Create, Write, ReadFile, Truncate, Chmod, Mkdir, Link}
use Rattle.tree_ops.specs.declared.call.FileCall.TheVariants.{Unlink, Rmdir, Rename, Rename2, Stat, List as Listed}
use Rattle.tree_ops.specs.declared.call.Counts.{Counts}

abbrev pub is_root : List (List ℕ) → Bool
is_root p = length p == 0

-- ---- of what stands at a path, if anything does

abbrev pub has_names_seen : Option Seen → Bool
has_names_seen None = false
has_names_seen (Some s) = s.has_names

abbrev pub links_seen : Option Seen → ℕ
links_seen None = 0
links_seen (Some s) = s.links

-- the same file stands at both paths
abbrev pub are_same_seen : Option Seen → Option Seen → Bool
are_same_seen None t = false
are_same_seen (Some s) None = false
are_same_seen (Some s) (Some t) = s.number == t.number

-- ---- the rows of each call

-- the mode has bits beyond those that modes have
abbrev pub mode_row : ℕ → Option Refusal
mode_row mode = row (nat_lt MAX_MODE mode) Einval

-- all cookies have been given: 0 stands for the number after the greatest one
abbrev pub cookies_row : Limits → Counts → Option Refusal
cookies_row limits counts = row ((counts.next_cookie == 0) || nat_lt limits.cookies counts.next_cookie) CookiesSpent

-- no two cookies are left
abbrev pub two_cookies_row : Limits → Counts → Option Refusal
two_cookies_row limits counts =
    row ((counts.next_cookie == 0) || nat_lt limits.cookies (counts.next_cookie + 1)) CookiesSpent

-- a new name cannot stand at the path
abbrev pub name_rows : Look → List (List ℕ) → List (Option Refusal)
name_rows seen_at p = row (is_root p) Eexist ∷ parent seen_at p ∷ row (is_some (seen_at p)) Eexist ∷ []

-- nothing stands at the path, or a directory does
abbrev pub file_rows : Look → List (List ℕ) → Refusal → List (Option Refusal)
file_rows seen_at p refusal = find seen_at p ∷ row (is_directory_seen (seen_at p)) refusal ∷ []

-- what stands at the old path cannot get the new one
abbrev pub source_rows : Look → List (List ℕ) → List (List ℕ) → List (Option Refusal)
source_rows seen_at old new =
    row (is_root old || is_root new) Ebusy
    ∷ find seen_at old
    ∷ row (is_directory_seen (seen_at old) && is_below new old) Einval
    ∷ parent seen_at new
    ∷ []

-- the last row: all numbers have been given
unfoldable pub make_rows : Look → Limits → Counts → List (List ℕ) → ℕ → List (Option Refusal)
make_rows seen_at limits counts p mode =
    mode_row mode ∷ (name_rows seen_at p ++ row (nat_lt limits.numbers counts.next_number) NumbersSpent ∷ [])

unfoldable pub write_rows : Look → Limits → List (List ℕ) → ℕ → ℕ → List (Option Refusal)
write_rows seen_at limits p offset count =
    file_rows seen_at p Eisdir ++ row (nat_lt 0 count && nat_lt limits.file_bytes (offset + count)) Efbig ∷ []

unfoldable pub read_rows : Look → List (List ℕ) → List (Option Refusal)
read_rows seen_at p = file_rows seen_at p Eisdir

unfoldable pub truncate_rows : Look → Limits → List (List ℕ) → ℕ → List (Option Refusal)
truncate_rows seen_at limits p len = file_rows seen_at p Eisdir ++ row (nat_lt limits.file_bytes len) Efbig ∷ []

unfoldable pub chmod_rows : Look → List (List ℕ) → ℕ → List (Option Refusal)
chmod_rows seen_at p mode = mode_row mode ∷ find seen_at p ∷ []

unfoldable pub link_rows : Look → Limits → List (List ℕ) → List (List ℕ) → List (Option Refusal)
link_rows seen_at limits old new =
    file_rows seen_at old Eperm
    ++ name_rows seen_at new
    ++ row (not (nat_lt (links_seen (seen_at old)) limits.links)) Emlink ∷ []

unfoldable pub unlink_rows : Look → List (List ℕ) → List (Option Refusal)
unlink_rows seen_at p = file_rows seen_at p Eperm

unfoldable pub rmdir_rows : Look → List (List ℕ) → List (Option Refusal)
rmdir_rows seen_at p =
    row (is_root p) Ebusy
    ∷ find seen_at p
    ∷ row (not (is_directory_seen (seen_at p))) Enotdir
    ∷ row (has_names_seen (seen_at p)) Enotempty
    ∷ []

-- what stands at the new path may be replaced by what stands at the old one
unfoldable pub move_rows : Limits → Counts → Option Seen → Option Seen → List (Option Refusal)
move_rows limits counts old new =
    row (is_some new && is_directory_seen old && not (is_directory_seen new)) Enotdir
    ∷ row (is_directory_seen new && not (is_directory_seen old)) Eisdir
    ∷ row (has_names_seen new) Enotempty
    ∷ cookies_row limits counts
    ∷ []

-- a rename between two paths of one file is accepted before these last rows
unfoldable pub rename_rows : Look → Limits → Counts → List (List ℕ) → List (List ℕ) → List (Option Refusal)
rename_rows seen_at limits counts old new =
    source_rows seen_at old new
    ++ (if are_same_seen (seen_at old) (seen_at new) then [] else move_rows limits counts (seen_at old) (seen_at new))

-- RENAME_NOREPLACE: nothing stands at the new path
unfoldable pub noreplace_rows : Look → Limits → Counts → List (List ℕ) → List (List ℕ) → List (Option Refusal)
noreplace_rows seen_at limits counts old new =
    source_rows seen_at old new ++ row (is_some (seen_at new)) Eexist ∷ cookies_row limits counts ∷ []

-- neither of two directories can be put below itself, and each of the two moves has its cookie
unfoldable pub swap_rows : Limits → Counts → List (List ℕ) → List (List ℕ) → Option Seen → Option Seen
    → List (Option Refusal)
swap_rows limits counts old new one other =
    row ((is_directory_seen one && is_below new old) || (is_directory_seen other && is_below old new)) Einval
    ∷ two_cookies_row limits counts
    ∷ []

-- RENAME_EXCHANGE: something stands at both paths. Two paths of one file are accepted before the last rows
unfoldable pub exchange_rows : Look → Limits → Counts → List (List ℕ) → List (List ℕ) → List (Option Refusal)
exchange_rows seen_at limits counts old new =
    row (is_root old || is_root new) Ebusy
    ∷ find seen_at old
    ∷ find seen_at new
    ∷ (if are_same_seen (seen_at old) (seen_at new) then []
    else swap_rows limits counts old new (seen_at old) (seen_at new))

-- the flags are looked at before all else (renameat2(2), "ERRORS": EINVAL)
unfoldable pub rename2_rows : Look → Limits → Counts → List (List ℕ) → List (List ℕ) → ℕ → List (Option Refusal)
rename2_rows seen_at limits counts old new flags =
    if flags == 0 then rename_rows seen_at limits counts old new
    else if flags == RENAME_NOREPLACE then noreplace_rows seen_at limits counts old new
    else if flags == RENAME_EXCHANGE then exchange_rows seen_at limits counts old new
    else Some Einval ∷ []

unfoldable pub list_rows : Look → List (List ℕ) → List (Option Refusal)
list_rows seen_at p = find seen_at p ∷ row (not (is_directory_seen (seen_at p))) Enotdir ∷ []

-- the rows of a call, in order
abbrev pub rows_of : Look → Limits → Counts → FileCall → List (Option Refusal)
rows_of seen_at limits counts (Create p mode) = make_rows seen_at limits counts p mode
rows_of seen_at limits counts (Mkdir p mode) = make_rows seen_at limits counts p mode
rows_of seen_at limits counts (Write p offset bytes) = write_rows seen_at limits p offset (length bytes)
rows_of seen_at limits counts (ReadFile p offset count) = read_rows seen_at p
rows_of seen_at limits counts (Truncate p len) = truncate_rows seen_at limits p len
rows_of seen_at limits counts (Chmod p mode) = chmod_rows seen_at p mode
rows_of seen_at limits counts (Link old new) = link_rows seen_at limits old new
rows_of seen_at limits counts (Unlink p) = unlink_rows seen_at p
rows_of seen_at limits counts (Rmdir p) = rmdir_rows seen_at p
rows_of seen_at limits counts (Rename old new) = rename_rows seen_at limits counts old new
rows_of seen_at limits counts (Rename2 old new flags) = rename2_rows seen_at limits counts old new flags
rows_of seen_at limits counts (Stat p) = find seen_at p ∷ []
rows_of seen_at limits counts (Listed p) = list_rows seen_at p

-- the first row that holds for what is seen
unfoldable pub refusal_seen : Look → Limits → Counts → FileCall → Option Refusal
refusal_seen seen_at limits counts call = first_row (rows_of seen_at limits counts call)

-- ---- in a world

-- why a call is refused, if it is
abbrev pub refused : World → Limits → Counts → FileCall → Option Refusal
refused w limits counts call = refusal_seen (look w) limits counts call
