-- The mask of a watch call: inotify(7), "inotify events", and inotify_add_watch(2).
use Rattle.std.specs.Prelude.{ℕ, Bool, not, ◌&&◌, ◌==◌, List, [], ◌∷◌, Option, bit_and, bit_or, codes}
use Rattle.tree_paths.specs.declared.refusal.Refusal.{Refusal}
use Rattle.tree_paths.specs.declared.refusal.Refusal.TheVariants.{Einval}
use Rattle.record_codec.specs.declared.bits.TheConstants.{IN_ACCESS, IN_MODIFY, IN_ATTRIB, IN_CLOSE_WRITE}
use Rattle.record_codec.specs.declared.bits.TheConstants.{IN_CLOSE_NOWRITE, IN_OPEN, IN_MOVED_FROM, IN_MOVED_TO}
use Rattle.record_codec.specs.declared.bits.TheConstants.{IN_CREATE, IN_DELETE, IN_DELETE_SELF, IN_MOVE_SELF}
use Rattle.record_codec.specs.declared.bits.TheConstants.{IN_ALL_EVENTS, IN_ONLYDIR, IN_DONT_FOLLOW, IN_EXCL_UNLINK}
use Rattle.record_codec.specs.declared.bits.TheConstants.{IN_MASK_CREATE, IN_MASK_ADD, IN_ONESHOT}
use Rattle.tree_paths.specs.Rows.{row, first_row}

-- whether a mask has one of these bits
abbrev pub has_any : ℕ → ℕ → Bool
has_any mask bits = not (bit_and mask bits == 0)

-- the bits of several numbers in one
abbrev pub joined : List ℕ → ℕ
joined [] = 0
joined (b ∷ bs) = bit_or b (joined bs)

-- the bits that mean something to a watch call. All others are ignored
abbrev pub known : ℕ → ℕ
known bits =
    bit_and bits (joined (IN_ALL_EVENTS ∷ IN_ONLYDIR ∷ IN_DONT_FOLLOW ∷ IN_EXCL_UNLINK ∷ IN_MASK_CREATE
    ∷ IN_MASK_ADD ∷ IN_ONESHOT ∷ []))

-- the bits of a call that the watch keeps. The others act on the call alone
abbrev pub stored : ℕ → ℕ
stored mask = bit_and mask (joined (IN_ALL_EVENTS ∷ IN_ONESHOT ∷ []))

-- why a mask is refused whatever is to be watched
abbrev pub mask_fault : ℕ → Option Refusal
mask_fault mask =
    first_row (row (has_any mask IN_MASK_CREATE && has_any mask IN_MASK_ADD) Einval
    ∷ row (not (has_any mask IN_ALL_EVENTS)) Einval
    ∷ [])

-- the names of the known bits
abbrev pub flag_rows : List (List ℕ × ℕ)
flag_rows =
    (codes "ACCESS", IN_ACCESS)
    ∷ (codes "MODIFY", IN_MODIFY)
    ∷ (codes "ATTRIB", IN_ATTRIB)
    ∷ (codes "CLOSE_WRITE", IN_CLOSE_WRITE)
    ∷ (codes "CLOSE_NOWRITE", IN_CLOSE_NOWRITE)
    ∷ (codes "OPEN", IN_OPEN)
    ∷ (codes "MOVED_FROM", IN_MOVED_FROM)
    ∷ (codes "MOVED_TO", IN_MOVED_TO)
    ∷ (codes "CREATE", IN_CREATE)
    ∷ (codes "DELETE", IN_DELETE)
    ∷ (codes "DELETE_SELF", IN_DELETE_SELF)
    ∷ (codes "MOVE_SELF", IN_MOVE_SELF)
    ∷ (codes "ALL_EVENTS", IN_ALL_EVENTS)
    ∷ (codes "ONLYDIR", IN_ONLYDIR)
    ∷ (codes "DONT_FOLLOW", IN_DONT_FOLLOW)
    ∷ (codes "EXCL_UNLINK", IN_EXCL_UNLINK)
    ∷ (codes "MASK_CREATE", IN_MASK_CREATE)
    ∷ (codes "MASK_ADD", IN_MASK_ADD)
    ∷ (codes "ONESHOT", IN_ONESHOT)
    ∷ []
