-- What an accepted call on files does to the world, and what it answers.
use Rattle.std.specs.Prelude.{ℕ, ◌==◌, List, [], ◌∷◌, Option, Some, None, map, length, take, drop}
use Rattle.std.specs.Prelude.{if◌then◌else◌}
use Rattle.std.specs.Option.{option_map, option_map_or, unwrap_or}
use Rattle.std.specs.List.{filter_map}
use Rattle.std.specs.Ordering.{nat_cmp}
use Rattle.std.specs.Cmp.Lexicographic.{slice_cmp}
use Rattle.std.specs.FinMap as finmap
use Rattle.inode_table.specs.declared.seen.Kind.TheVariants.{Regular, Directory}
use Rattle.inode_table.specs.Bytes.{resized, written}
use Rattle.tree_paths.specs.Paths.{rest_after}
use Rattle.inode_table.specs.World.{World, File, links, look, file_at, changed_at, with_file, with_path, without_path}
use Rattle.inode_table.specs.World.{with_move, with_swap, without_lost}
use Rattle.tree_ops.specs.declared.call.TheConstants.{RENAME_EXCHANGE}
use Rattle.tree_ops.specs.declared.call.FileCall.{FileCall}
use Rattle.tree_ops.specs.declared.call.FileCall.TheVariants.{Create, Write, ReadFile, Truncate, Chmod, Mkdir, Link}
use Rattle.tree_ops.specs.declared.call.FileCall.TheVariants.{Unlink, Rmdir, Rename, Rename2, Stat as Status}
use Rattle.tree_ops.specs.declared.call.FileCall.TheVariants.{List as Listed}
use Rattle.tree_ops.specs.declared.call.Counts.{Counts}
use Rattle.tree_ops.specs.Refused.{are_same_seen}
use Rattle.tree_ops.specs.declared.answer.Answer.{Answer}
use Rattle.tree_ops.specs.declared.answer.Answer.TheVariants.{Done, Number, Count, Bytes, Names, Stat}

-- ---- the world after a call

-- a path less, and the file too where it was the last one
abbrev pub after_unlink : World → List (List ℕ) → World
after_unlink w p = without_lost (without_path w p) (finmap.get w.paths p)

-- two paths of one file: nothing. Else the pair of the new path is dropped, and each pair (old + s, f) becomes
-- (new + s, f)
unfoldable pub after_rename : World → List (List ℕ) → List (List ℕ) → World
after_rename w old new =
    if are_same_seen (look w old) (look w new) then w
    else without_lost (with_move w old new) (finmap.get w.paths new)

-- the world after an accepted call. An exchange of two paths of one file: nothing. Else each pair (old + s, f) becomes
-- (new + s, f), and at once each pair (new + s, g) becomes (old + s, g): renameat2(2), RENAME_EXCHANGE
abbrev pub after : World → Counts → FileCall → World
after w counts (Create p mode) = with_file w p counts.next_number (record { kind = Regular; mode = mode; bytes = [] })
after w counts (Mkdir p mode) = with_file w p counts.next_number (record { kind = Directory; mode = mode; bytes = [] })
after w counts (Write p offset bytes) = changed_at w p (λ f. record f { bytes = written offset bytes f.bytes })
after w counts (ReadFile p offset count) = w
after w counts (Truncate p len) = changed_at w p (λ f. record f { bytes = resized len f.bytes })
after w counts (Chmod p mode) = changed_at w p (λ f. record f { mode = mode })
after w counts (Link old new) = option_map_or (with_path w new) (finmap.get w.paths old) w
after w counts (Unlink p) = after_unlink w p
after w counts (Rmdir p) = after_unlink w p
after w counts (Rename old new) = after_rename w old new
after w counts (Rename2 old new flags) =
    if flags == RENAME_EXCHANGE then (if are_same_seen (look w old) (look w new) then w else with_swap w old new)
    else after_rename w old new
after w counts (Status p) = w
after w counts (Listed p) = w

-- how many file numbers a call uses
abbrev pub numbers_of : FileCall → ℕ
numbers_of (Create p mode) = 1
numbers_of (Mkdir p mode) = 1
numbers_of _ = 0

-- ---- what it answers

-- the bytes of the file at a path
abbrev pub bytes_at : World → List (List ℕ) → List ℕ
bytes_at w p = unwrap_or (option_map (λ (f : File). f.bytes) (file_at w p)) []

-- what `stat` answers for the file at a path
unfoldable pub stat_of : World → List (List ℕ) → Answer
stat_of w p =
    option_map_or
    (λ n. option_map_or (λ f. Stat n f.kind f.mode (links w n) (length f.bytes)) (finmap.get w.files n) Done)
    (finmap.get w.paths p)
    Done

abbrev pub only_name : Option (List (List ℕ)) → Option (List ℕ)
only_name None = None
only_name (Some []) = None
only_name (Some (l ∷ [])) = Some l
only_name (Some (l ∷ m ∷ p)) = None

-- the names in a directory, each once, in the order of their bytes: the keys of a map that has nothing under each
unfoldable pub names_in : World → List (List ℕ) → List (List ℕ)
names_in w p =
    finmap.keys (finmap.from_entries {R = slice_cmp nat_cmp}
    (map (λ name. (name, tt {0})) (filter_map (λ q. only_name (rest_after p q)) (finmap.keys w.paths))))

-- what an accepted call answers
abbrev pub answer_of : World → Counts → FileCall → Answer
answer_of w counts (Create p mode) = Number counts.next_number
answer_of w counts (Mkdir p mode) = Number counts.next_number
answer_of w counts (Write p offset bytes) = Count (length bytes)
answer_of w counts (ReadFile p offset count) = Bytes (take count (drop offset (bytes_at w p)))
answer_of w counts (Truncate p len) = Done
answer_of w counts (Chmod p mode) = Done
answer_of w counts (Link old new) = Done
answer_of w counts (Unlink p) = Done
answer_of w counts (Rmdir p) = Done
answer_of w counts (Rename old new) = Done
answer_of w counts (Rename2 old new flags) = Done
answer_of w counts (Status p) = stat_of w p
answer_of w counts (Listed p) = Names (names_in w p)
