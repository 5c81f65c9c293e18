-- The notices of an accepted call: inotify(7), "inotify events". That page does not say in which order one call raises
-- several events, nor which of them have IN_ISDIR; here the lines of the table say so.
use Rattle.std.specs.Prelude.{ℕ, ◌+◌, Bool, List, [], ◌∷◌, ◌++◌, Option, Some, None, bit_or, ◌==◌}
use Rattle.std.specs.Prelude.{◌||◌, nat_lt, length, take, drop, if◌then◌else◌}
use Rattle.std.specs.List.{last_or}
use Rattle.record_codec.specs.declared.bits.TheConstants.{IN_ACCESS, IN_MODIFY, IN_ATTRIB, IN_CLOSE_WRITE}
use Rattle.record_codec.specs.declared.bits.TheConstants.{IN_CLOSE_NOWRITE, IN_OPEN, IN_MOVED_FROM, IN_MOVED_TO}
use Rattle.record_codec.specs.declared.bits.TheConstants.{IN_CREATE, IN_DELETE, IN_DELETE_SELF, IN_MOVE_SELF, IN_ISDIR}
use Rattle.inode_table.specs.declared.seen.Kind.{Kind}
use Rattle.inode_table.specs.declared.seen.Kind.TheVariants.{Regular, Directory}
use Rattle.inode_table.specs.declared.seen.Seen.{Seen}
use Rattle.inode_table.specs.Rows.{Label}
use Rattle.inode_table.specs.Refusals.{Look, is_directory_kind, parent_of}
use Rattle.inode_table.specs.World.{World, look}
use Rattle.tree_ops.specs.declared.call.TheConstants.{RENAME_EXCHANGE}
use Rattle.tree_ops.specs.declared.call.FileCall.{FileCall}
use Rattle.tree_ops.specs.declared.call.FileCall.TheVariants.{Create, Write, ReadFile, Truncate, Chmod, Mkdir, Link}
use Rattle.tree_ops.specs.declared.call.FileCall.TheVariants.{Unlink, Rmdir, Rename, Rename2, Stat, List as Listed}
use Rattle.tree_ops.specs.After.{bytes_at}
use Rattle.tree_ops.specs.Refused.{are_same_seen}
use Rattle.event_rules.specs.declared.notice.TheConstants.{NO_COOKIE}
use Rattle.event_rules.specs.declared.notice.Notice.{Notice}
use Rattle.event_rules.specs.declared.notice.Notice.TheVariants.{Told, Gone}

-- ---- the bits

-- an event about a directory has IN_ISDIR too
abbrev pub about : Kind → ℕ → ℕ
about Regular event = event
about Directory event = bit_or event IN_ISDIR

-- what stands at a path, where nothing does too
abbrev pub kind_seen : Option Seen → Kind
kind_seen None = Regular
kind_seen (Some s) = s.kind

-- ---- who is notified

-- a directory is notified of the object with this name in it
abbrev pub told_in : Option Seen → Option Label → ℕ → ℕ → List Notice
told_in (Some directory) (Some name) bits cookie = Told directory.number bits cookie (Some name) ∷ []
told_in (Some directory) None bits cookie = []
told_in None name bits cookie = []

-- the directory that holds a path's last name is notified of an object of this kind there. The root is in no directory
unfoldable pub to_dir : Look → List Label → Kind → ℕ → ℕ → List Notice
to_dir seen_at p kind event cookie = told_in (seen_at (parent_of p)) (last_or None p) (about kind event) cookie

-- the object itself is notified
abbrev pub to_self : Option Seen → ℕ → List Notice
to_self None bits = []
to_self (Some s) bits = Told s.number bits NO_COOKIE None ∷ []

-- both are notified, and both notices say whether the object is a directory
unfoldable pub to_both : Look → List Label → ℕ → List Notice
to_both seen_at p event = to_dir seen_at p (kind_seen (seen_at p)) event NO_COOKIE
    ++ to_self (seen_at p) (about (kind_seen (seen_at p)) event)

-- the object itself is notified when it loses a path. A regular file is notified that its links changed. An object that
-- loses its last path is notified that it is deleted, and is gone. A directory has one path
unfoldable pub path_lost : Option Seen → List Notice
path_lost None = []
path_lost (Some s) =
    (if is_directory_kind s.kind then [] else Told s.number IN_ATTRIB NO_COOKIE None ∷ [])
    ++ (if is_directory_kind s.kind || (s.links == 1)
    then Told s.number IN_DELETE_SELF NO_COOKIE None ∷ Gone s.number ∷ []
    else [])

-- ---- the table of events

unfoldable pub create_told : Look → List Label → List Notice
create_told seen_at p = to_dir seen_at p Regular IN_CREATE NO_COOKIE ++ to_dir seen_at p Regular IN_OPEN NO_COOKIE
    ++ to_dir seen_at p Regular IN_CLOSE_WRITE NO_COOKIE

-- where a byte was given
unfoldable pub write_told : Look → List Label → Bool → List Notice
write_told seen_at p given =
    to_both seen_at p IN_OPEN ++ (if given then to_both seen_at p IN_MODIFY else []) ++ to_both seen_at p IN_CLOSE_WRITE

-- where a byte was answered
unfoldable pub read_told : Look → List Label → Bool → List Notice
read_told seen_at p answered = to_both seen_at p IN_OPEN ++ (if answered then to_both seen_at p IN_ACCESS else [])
    ++ to_both seen_at p IN_CLOSE_NOWRITE

-- the name that was replaced raises no IN_DELETE, though the object that had it may raise IN_DELETE_SELF
unfoldable pub move_told : Look → List Label → List Label → ℕ → List Notice
move_told seen_at old new cookie =
    to_dir seen_at old (kind_seen (seen_at old)) IN_MOVED_FROM cookie
    ++ to_dir seen_at new (kind_seen (seen_at old)) IN_MOVED_TO cookie
    ++ path_lost (seen_at new)
    ++ to_self (seen_at old) IN_MOVE_SELF

-- where both paths are of one file nothing is moved
unfoldable pub rename_told : Look → List Label → List Label → ℕ → List Notice
rename_told seen_at old new cookie =
    if are_same_seen (seen_at old) (seen_at new) then [] else move_told seen_at old new cookie

-- the object that was at the old path moves to the new one, with a cookie, and then the other one moves back, with the
-- next cookie. Each move notifies the directory that the object leaves, then the one it enters, then the object itself
unfoldable pub swap_told : Look → List Label → List Label → ℕ → List Notice
swap_told seen_at old new cookie =
    to_dir seen_at old (kind_seen (seen_at old)) IN_MOVED_FROM cookie
    ++ to_dir seen_at new (kind_seen (seen_at old)) IN_MOVED_TO cookie
    ++ to_self (seen_at old) IN_MOVE_SELF
    ++ to_dir seen_at new (kind_seen (seen_at new)) IN_MOVED_FROM (cookie + 1)
    ++ to_dir seen_at old (kind_seen (seen_at new)) IN_MOVED_TO (cookie + 1)
    ++ to_self (seen_at new) IN_MOVE_SELF

-- the notices of an accepted call, in the world before it. A rename that moves something has the cookie, and an
-- exchange the next one too. Where both paths are of one file nothing is moved
abbrev pub notices_of : World → FileCall → ℕ → List Notice
notices_of w (Create p mode) cookie = create_told (look w) p
notices_of w (Mkdir p mode) cookie = to_dir (look w) p Directory IN_CREATE NO_COOKIE
notices_of w (Write p offset bytes) cookie = write_told (look w) p (nat_lt 0 (length bytes))
-- the bytes are those that the read answers
notices_of w (ReadFile p offset count) cookie =
    read_told (look w) p (nat_lt 0 (length (take count (drop offset (bytes_at w p)))))
-- also where the length stays
notices_of w (Truncate p len) cookie = to_both (look w) p IN_MODIFY
-- also where the mode stays
notices_of w (Chmod p mode) cookie = to_both (look w) p IN_ATTRIB
notices_of w (Link old new) cookie =
    to_self (look w old) IN_ATTRIB ++ to_dir (look w) new Regular IN_CREATE NO_COOKIE
notices_of w (Unlink p) cookie = path_lost (look w p) ++ to_dir (look w) p Regular IN_DELETE NO_COOKIE
notices_of w (Rmdir p) cookie = path_lost (look w p) ++ to_dir (look w) p Directory IN_DELETE NO_COOKIE
notices_of w (Rename old new) cookie = rename_told (look w) old new cookie
notices_of w (Rename2 old new flags) cookie =
    if flags == RENAME_EXCHANGE
    then (if are_same_seen (look w old) (look w new) then [] else swap_told (look w) old new cookie)
    else rename_told (look w) old new cookie
notices_of w (Stat p) cookie = []
notices_of w (Listed p) cookie = []
