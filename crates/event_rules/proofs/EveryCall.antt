-- What is true of each notice of every call.
use Rattle.std.proofs.Common.{ℕ, ◌+◌, Bool, true, false, ◌==◌, ◌||◌, nat_lt, length, take, drop, if◌then◌else◌, List, [], ◌∷◌, ◌++◌}
use Rattle.std.proofs.Common.{Option, Some, None, refl, lit<}
use Rattle.std.specs.Prelude.{All, Contains}
use Rattle.std.specs.List.{last_or}
use Rattle.std.proofs.lemmas.List.Elements.{All-nil, All-cons, All-append}
use Rattle.record_codec.specs.declared.bits.TheConstants.{IN_ACCESS, IN_MODIFY, IN_ATTRIB, IN_CLOSE_WRITE}
use Rattle.record_codec.specs.declared.bits.TheConstants.{IN_CLOSE_NOWRITE, IN_OPEN, IN_MOVED_FROM, IN_MOVED_TO}
use Rattle.record_codec.specs.declared.bits.TheConstants.{IN_CREATE, IN_DELETE, IN_DELETE_SELF, IN_MOVE_SELF}
use Rattle.record_codec.specs.Bits.{event_bits}
use Rattle.inode_table.specs.declared.seen.Kind.{Kind}
use Rattle.inode_table.specs.declared.seen.Kind.TheVariants.{Regular, Directory}
use Rattle.inode_table.specs.declared.seen.Seen.{Seen}
use Rattle.inode_table.specs.Refusals.{Look, is_directory_kind, parent_of}
use Rattle.inode_table.specs.World.{World, look}
use Rattle.tree_ops.specs.declared.call.TheConstants.{RENAME_EXCHANGE}
use Rattle.tree_ops.specs.declared.call.FileCall.{FileCall}
use Rattle.tree_ops.specs.declared.call.FileCall.TheVariants.{Create, Write, ReadFile, Truncate, Chmod, Mkdir, Link}
use Rattle.tree_ops.specs.declared.call.FileCall.TheVariants.{Unlink, Rmdir, Rename, Rename2, Stat, List as Listed}
use Rattle.tree_ops.specs.After.{bytes_at}
use Rattle.tree_ops.specs.Refused.{are_same_seen}
use Rattle.event_rules.specs.declared.notice.TheConstants.{NO_COOKIE}
use Rattle.event_rules.specs.declared.notice.Notice.{Notice}
use Rattle.event_rules.specs.declared.notice.Notice.TheVariants.{Told, Gone}
use Rattle.event_rules.specs.Table.{about, create_told, kind_seen, move_told, notices_of}
use Rattle.event_rules.specs.Table.{path_lost, read_told, rename_told, swap_told, to_both, to_dir, to_self, told_in, write_told}
use Rattle.event_rules.specs.Raised.{event_bit}
use Rattle.event_rules.specs.Laws.{HasOneEvent}

-- ---- parts of the table

abbrev pub has_byte : List ℕ → Bool
has_byte bytes = nat_lt 0 (length bytes)

abbrev pub deleted_told : ℕ → List Notice
deleted_told number = Told number IN_DELETE_SELF NO_COOKIE None ∷ Gone number ∷ []

abbrev pub lost_told : Kind → ℕ → ℕ → List Notice
lost_told kind number links =
    (if is_directory_kind kind then [] else Told number IN_ATTRIB NO_COOKIE None ∷ [])
    ++ (if is_directory_kind kind || (links == 1) then deleted_told number else [])

abbrev pub exchange_told : Look → List (List ℕ) → List (List ℕ) → ℕ → List Notice
exchange_told seen_at old new cookie =
    if are_same_seen (seen_at old) (seen_at new) then [] else swap_told seen_at old new cookie

-- it is true of each notice of the event, whatever the file, the kind of object and the name
abbrev pub Holds : (Notice → Type 0) → ℕ → ℕ → Type 0
Holds P cookie event = (kind : Kind) (number : ℕ) (name : Option (List ℕ)) → P (Told number (about kind event) cookie name)

-- it is true of each event of the table but those of moves
pub record HoldsOfLines (P : Notice → Type 0) : Type 0 where
  pub access : Holds P NO_COOKIE IN_ACCESS
  pub modify : Holds P NO_COOKIE IN_MODIFY
  pub attrib : Holds P NO_COOKIE IN_ATTRIB
  pub close_write : Holds P NO_COOKIE IN_CLOSE_WRITE
  pub close_nowrite : Holds P NO_COOKIE IN_CLOSE_NOWRITE
  pub opened : Holds P NO_COOKIE IN_OPEN
  pub create : Holds P NO_COOKIE IN_CREATE
  pub delete : Holds P NO_COOKIE IN_DELETE
  pub delete_self : Holds P NO_COOKIE IN_DELETE_SELF
  pub move_self : Holds P NO_COOKIE IN_MOVE_SELF
  pub gone : (number : ℕ) → P (Gone number)

module _ (P : Notice → Type 0) (holds : HoldsOfLines P) where
  one : (n : Notice) → P n → All P (n ∷ [])
  one n h = All-cons P n [] h (All-nil P)

  both : (xs ys : List Notice) → All P xs → All P ys → All P (xs ++ ys)
  both xs ys h k = All-append P xs ys h k

  in-by : (d : Option Seen) (name : Option (List ℕ)) (kind : Kind) (event given : ℕ) → Holds P given event → All P (told_in d name (about kind event) given)
  in-by (Some d) (Some name) kind event given h = one (Told d.number (about kind event) given (Some name)) (h kind d.number (Some name))
  in-by (Some d) None kind event given h = All-nil P
  in-by None name kind event given h = All-nil P

  dir : (at : Look) (p : List (List ℕ)) (kind : Kind) (event given : ℕ) → Holds P given event → All P (to_dir at p kind event given)
  unfolding to_dir
  dir at p kind event given h = in-by (at (parent_of p)) (last_or None p) kind event given h

  pub self : (s : Option Seen) (kind : Kind) (event : ℕ) → Holds P NO_COOKIE event → All P (to_self s (about kind event))
  self None kind event h = All-nil P
  self (Some s) kind event h = one (Told s.number (about kind event) NO_COOKIE None) (h kind s.number None)

  both_told : (at : Look) (p : List (List ℕ)) (event : ℕ) → Holds P NO_COOKIE event → All P (to_both at p event)
  unfolding to_both
  both_told at p event h =
      both (to_dir at p (kind_seen (at p)) event NO_COOKIE) (to_self (at p) (about (kind_seen (at p)) event))
      (dir at p (kind_seen (at p)) event NO_COOKIE h) (self (at p) (kind_seen (at p)) event h)

  deleted : (number : ℕ) → All P (deleted_told number)
  deleted number =
      All-cons P (Told number IN_DELETE_SELF NO_COOKIE None) (Gone number ∷ []) (holds.delete_self Regular number None) (one (Gone number) (holds.gone number))

  deleted-by : (b : Bool) (number : ℕ) → All P (if b then deleted_told number else [])
  deleted-by true number = deleted number
  deleted-by false number = All-nil P

  lost-by : (kind : Kind) (number links : ℕ) → All P (lost_told kind number links)
  lost-by Regular number links =
      All-cons P (Told number IN_ATTRIB NO_COOKIE None) (if links == 1 then deleted_told number else [])
      (holds.attrib Regular number None) (deleted-by (links == 1) number)
  lost-by Directory number links = deleted number

  pub lost : (s : Option Seen) → All P (path_lost s)
  unfolding path_lost
  lost None = All-nil P
  lost (Some s) = lost-by s.kind s.number s.links

  used : (at : Look) (p : List (List ℕ)) (b : Bool) (event : ℕ) → Holds P NO_COOKIE event → All P (if b then to_both at p event else [])
  used at p true event h = both_told at p event h
  used at p false event h = All-nil P

  pub create : (at : Look) (p : List (List ℕ)) → All P (create_told at p)
  unfolding create_told
  create at p =
      both (to_dir at p Regular IN_CREATE NO_COOKIE ++ to_dir at p Regular IN_OPEN NO_COOKIE) (to_dir at p Regular IN_CLOSE_WRITE NO_COOKIE)
      (both (to_dir at p Regular IN_CREATE NO_COOKIE) (to_dir at p Regular IN_OPEN NO_COOKIE)
      (dir at p Regular IN_CREATE NO_COOKIE holds.create) (dir at p Regular IN_OPEN NO_COOKIE holds.opened))
      (dir at p Regular IN_CLOSE_WRITE NO_COOKIE holds.close_write)

  pub mkdir : (at : Look) (p : List (List ℕ)) → All P (to_dir at p Directory IN_CREATE NO_COOKIE)
  mkdir at p = dir at p Directory IN_CREATE NO_COOKIE holds.create

  pub write : (at : Look) (p : List (List ℕ)) (b : Bool) → All P (write_told at p b)
  unfolding write_told
  write at p b =
      both (to_both at p IN_OPEN ++ (if b then to_both at p IN_MODIFY else [])) (to_both at p IN_CLOSE_WRITE)
      (both (to_both at p IN_OPEN) (if b then to_both at p IN_MODIFY else []) (both_told at p IN_OPEN holds.opened) (used at p b IN_MODIFY holds.modify))
      (both_told at p IN_CLOSE_WRITE holds.close_write)

  pub read : (at : Look) (p : List (List ℕ)) (b : Bool) → All P (read_told at p b)
  unfolding read_told
  read at p b =
      both (to_both at p IN_OPEN ++ (if b then to_both at p IN_ACCESS else [])) (to_both at p IN_CLOSE_NOWRITE)
      (both (to_both at p IN_OPEN) (if b then to_both at p IN_ACCESS else []) (both_told at p IN_OPEN holds.opened) (used at p b IN_ACCESS holds.access))
      (both_told at p IN_CLOSE_NOWRITE holds.close_nowrite)

  pub truncate : (at : Look) (p : List (List ℕ)) → All P (to_both at p IN_MODIFY)
  truncate at p = both_told at p IN_MODIFY holds.modify

  pub chmod : (at : Look) (p : List (List ℕ)) → All P (to_both at p IN_ATTRIB)
  chmod at p = both_told at p IN_ATTRIB holds.attrib

  pub link : (at : Look) (old new : List (List ℕ)) → All P (to_self (at old) IN_ATTRIB ++ to_dir at new Regular IN_CREATE NO_COOKIE)
  link at old new =
      both (to_self (at old) IN_ATTRIB) (to_dir at new Regular IN_CREATE NO_COOKIE)
      (self (at old) Regular IN_ATTRIB holds.attrib) (dir at new Regular IN_CREATE NO_COOKIE holds.create)

  pub unlink : (at : Look) (p : List (List ℕ)) → All P (path_lost (at p) ++ to_dir at p Regular IN_DELETE NO_COOKIE)
  unlink at p = both (path_lost (at p)) (to_dir at p Regular IN_DELETE NO_COOKIE) (lost (at p)) (dir at p Regular IN_DELETE NO_COOKIE holds.delete)

  pub rmdir : (at : Look) (p : List (List ℕ)) → All P (path_lost (at p) ++ to_dir at p Directory IN_DELETE NO_COOKIE)
  rmdir at p = both (path_lost (at p)) (to_dir at p Directory IN_DELETE NO_COOKIE) (lost (at p)) (dir at p Directory IN_DELETE NO_COOKIE holds.delete)

  module _ (from : (cookie : ℕ) → Holds P cookie IN_MOVED_FROM) (to : (cookie : ℕ) → Holds P cookie IN_MOVED_TO) (cookie : ℕ) where
    -- both directories of a move
    dirs : (at : Look) (p q : List (List ℕ)) (kind : Kind) (given : ℕ) → All P (to_dir at p kind IN_MOVED_FROM given ++ to_dir at q kind IN_MOVED_TO given)
    dirs at p q kind given =
        both (to_dir at p kind IN_MOVED_FROM given) (to_dir at q kind IN_MOVED_TO given)
        (dir at p kind IN_MOVED_FROM given (from given)) (dir at q kind IN_MOVED_TO given (to given))

    move : (at : Look) (old new : List (List ℕ)) → All P (move_told at old new cookie)
    unfolding move_told
    move at old new =
        let kind = kind_seen (at old) in
        let moved = to_dir at old kind IN_MOVED_FROM cookie ++ to_dir at new kind IN_MOVED_TO cookie in
        both (moved ++ path_lost (at new)) (to_self (at old) IN_MOVE_SELF)
        (both moved (path_lost (at new)) (dirs at old new kind cookie) (lost (at new)))
        (self (at old) Regular IN_MOVE_SELF holds.move_self)

    rename-by : (b : Bool) (at : Look) (old new : List (List ℕ)) → All P (if b then [] else move_told at old new cookie)
    rename-by true at old new = All-nil P
    rename-by false at old new = move at old new

    rename : (at : Look) (old new : List (List ℕ)) → All P (rename_told at old new cookie)
    unfolding rename_told
    rename at old new = rename-by (are_same_seen (at old) (at new)) at old new

    swap : (at : Look) (old new : List (List ℕ)) → All P (swap_told at old new cookie)
    unfolding swap_told
    swap at old new =
        let one = kind_seen (at old) in
        let other = kind_seen (at new) in
        let there = to_dir at old one IN_MOVED_FROM cookie ++ to_dir at new one IN_MOVED_TO cookie in
        let itself = to_self (at old) IN_MOVE_SELF in
        let back_from = to_dir at new other IN_MOVED_FROM (cookie + 1) in
        let back_to = to_dir at old other IN_MOVED_TO (cookie + 1) in
        both (there ++ itself ++ back_from ++ back_to) (to_self (at new) IN_MOVE_SELF)
        (both (there ++ itself ++ back_from) back_to
        (both (there ++ itself) back_from
        (both there itself (dirs at old new one cookie) (self (at old) Regular IN_MOVE_SELF holds.move_self))
        (dir at new other IN_MOVED_FROM (cookie + 1) (from (cookie + 1))))
        (dir at old other IN_MOVED_TO (cookie + 1) (to (cookie + 1))))
        (self (at new) Regular IN_MOVE_SELF holds.move_self)

    exchange-by : (b : Bool) (at : Look) (old new : List (List ℕ)) → All P (if b then [] else swap_told at old new cookie)
    exchange-by true at old new = All-nil P
    exchange-by false at old new = swap at old new

    exchange : (at : Look) (old new : List (List ℕ)) → All P (exchange_told at old new cookie)
    exchange at old new = exchange-by (are_same_seen (at old) (at new)) at old new

    rename2-by : (b : Bool) (at : Look) (old new : List (List ℕ)) → All P (if b then exchange_told at old new cookie else rename_told at old new cookie)
    rename2-by true at old new = exchange at old new
    rename2-by false at old new = rename at old new

    pub of_every_call : (w : World) (call : FileCall) → All P (notices_of w call cookie)
    of_every_call w (Create p mode) = create (look w) p
    of_every_call w (Mkdir p mode) = mkdir (look w) p
    of_every_call w (Write p offset bytes) = write (look w) p (has_byte bytes)
    of_every_call w (ReadFile p offset count) = read (look w) p (has_byte (take count (drop offset (bytes_at w p))))
    of_every_call w (Truncate p len) = truncate (look w) p
    of_every_call w (Chmod p mode) = chmod (look w) p
    of_every_call w (Link old new) = link (look w) old new
    of_every_call w (Unlink p) = unlink (look w) p
    of_every_call w (Rmdir p) = rmdir (look w) p
    of_every_call w (Rename old new) = rename (look w) old new
    of_every_call w (Rename2 old new flags) = rename2-by (flags == RENAME_EXCHANGE) (look w) old new
    of_every_call w (Stat p) = All-nil P
    of_every_call w (Listed p) = All-nil P

-- ---- the events

is_access : (kind : Kind) → Contains event_bits (event_bit (about kind IN_ACCESS))
is_access Regular = (0, lit< tt, refl)
is_access Directory = (0, lit< tt, refl)

is_modify : (kind : Kind) → Contains event_bits (event_bit (about kind IN_MODIFY))
is_modify Regular = (1, lit< tt, refl)
is_modify Directory = (1, lit< tt, refl)

is_attrib : (kind : Kind) → Contains event_bits (event_bit (about kind IN_ATTRIB))
is_attrib Regular = (2, lit< tt, refl)
is_attrib Directory = (2, lit< tt, refl)

is_close_write : (kind : Kind) → Contains event_bits (event_bit (about kind IN_CLOSE_WRITE))
is_close_write Regular = (3, lit< tt, refl)
is_close_write Directory = (3, lit< tt, refl)

is_close_nowrite : (kind : Kind) → Contains event_bits (event_bit (about kind IN_CLOSE_NOWRITE))
is_close_nowrite Regular = (4, lit< tt, refl)
is_close_nowrite Directory = (4, lit< tt, refl)

is_open : (kind : Kind) → Contains event_bits (event_bit (about kind IN_OPEN))
is_open Regular = (5, lit< tt, refl)
is_open Directory = (5, lit< tt, refl)

is_moved_from : (kind : Kind) → Contains event_bits (event_bit (about kind IN_MOVED_FROM))
is_moved_from Regular = (6, lit< tt, refl)
is_moved_from Directory = (6, lit< tt, refl)

is_moved_to : (kind : Kind) → Contains event_bits (event_bit (about kind IN_MOVED_TO))
is_moved_to Regular = (7, lit< tt, refl)
is_moved_to Directory = (7, lit< tt, refl)

is_create : (kind : Kind) → Contains event_bits (event_bit (about kind IN_CREATE))
is_create Regular = (8, lit< tt, refl)
is_create Directory = (8, lit< tt, refl)

is_delete : (kind : Kind) → Contains event_bits (event_bit (about kind IN_DELETE))
is_delete Regular = (9, lit< tt, refl)
is_delete Directory = (9, lit< tt, refl)

is_delete_self : (kind : Kind) → Contains event_bits (event_bit (about kind IN_DELETE_SELF))
is_delete_self Regular = (10, lit< tt, refl)
is_delete_self Directory = (10, lit< tt, refl)

is_move_self : (kind : Kind) → Contains event_bits (event_bit (about kind IN_MOVE_SELF))
is_move_self Regular = (11, lit< tt, refl)
is_move_self Directory = (11, lit< tt, refl)

one_event : HoldsOfLines HasOneEvent
one_event = record {
  access = λ kind number name. is_access kind;
  modify = λ kind number name. is_modify kind;
  attrib = λ kind number name. is_attrib kind;
  close_write = λ kind number name. is_close_write kind;
  close_nowrite = λ kind number name. is_close_nowrite kind;
  opened = λ kind number name. is_open kind;
  create = λ kind number name. is_create kind;
  delete = λ kind number name. is_delete kind;
  delete_self = λ kind number name. is_delete_self kind;
  move_self = λ kind number name. is_move_self kind;
  gone = λ number. tt;
}

pub notices-HasOneEvent : (w : World) (call : FileCall) (cookie : ℕ) → All HasOneEvent (notices_of w call cookie)
notices-HasOneEvent w call cookie =
    of_every_call HasOneEvent one_event (λ _ kind number name. is_moved_from kind) (λ _ kind number name. is_moved_to kind) cookie w call
