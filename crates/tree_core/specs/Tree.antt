-- What a tree answers to each call, and what it is after it.
use Rattle.std.specs.Prelude.{ℕ, ℤ, ◌+◌, Bool, true, false, not, ◌&&◌, ◌||◌, List, [], ◌∷◌, Option, Some, None, is_none}
use Rattle.std.specs.Prelude.{is_some, length, take, nat_lt, nat_le, ◌==◌, if◌then◌else◌}
use Rattle.std.specs.FinMap as finmap
use Rattle.std.specs.Option.{option_and_then, option_map_or}
use Rattle.record_codec.specs.declared.event.Event.{Event}
use Rattle.record_codec.specs.Records.{spelling}
use Rattle.tree_paths.specs.Greatest.{most}
use Rattle.tree_paths.specs.Rows.{row, first_row}
use Rattle.tree_paths.specs.declared.limits.Limits.{Limits}
use Rattle.tree_paths.specs.declared.refusal.Refusal.{Refusal}
use Rattle.tree_paths.specs.declared.refusal.Refusal.TheVariants.{Ebadf, Eagain, Einval, Emfile, Piped, NotPiped}
use Rattle.inode_table.specs.declared.seen.Seen.{Seen}
use Rattle.inode_table.specs.World.{World, opening_world, root_number, look}
use Rattle.inode_table.specs.Refusals.{Look, find, is_directory_kind}
use Rattle.tree_ops.specs.declared.call.Counts.{Counts}
use Rattle.tree_ops.specs.declared.call.FileCall.{FileCall}
use Rattle.tree_ops.specs.Moves.{cookies_of}
use Rattle.tree_ops.specs.Refused as ops
use Rattle.tree_ops.specs.After as ops_after
use Rattle.watch_table.specs.Masks.{known, mask_fault}
use Rattle.watch_table.specs.Watching.{add_refusal, watched_by, wd_added}
use Rattle.event_queue.specs.Reads.{fitting}
use Rattle.event_rules.specs.Table.{notices_of}
use Rattle.instance_table.specs.declared.instance.Instance.{Instance}
use Rattle.instance_table.specs.Instances.{Instances, instance_of, new_instance, told, watching, unwatching, after_read}
use Rattle.instance_table.specs.Instances.{changed, all_changed}
use Rattle.tree_core.specs.declared.call.Call.{Call}
use Rattle.tree_core.specs.declared.call.Call.TheVariants as call
use Rattle.tree_core.specs.declared.reply.Reply.{Reply}
use Rattle.tree_core.specs.declared.reply.Reply.TheVariants as reply

-- the files; the numbers that the next file, the next rename and the next instance get; and the open instances
pub record Tree : Type 0 where
  pub limits : Limits
  pub world : World
  pub next_number : ℕ
  pub next_cookie : ℕ
  pub next_id : ℕ
  pub instances : Instances

-- the root alone, and no instance
unfoldable pub opening : Limits → Tree
opening limits =
    record {
      limits = limits;
      world = opening_world;
      next_number = root_number + 1;
      next_cookie = 1;
      next_id = 1;
      instances = finmap.empty;
    }

-- the cookie that the next rename gets, or 0 if all cookies that fit into a record are spent
abbrev pub cookie_now : ℕ → ℕ
cookie_now next = if nat_le next most.cookies then next else 0

-- what the next call on files gets
abbrev pub counts_of : Tree → Counts
counts_of t = record { next_number = t.next_number; next_cookie = cookie_now t.next_cookie }

-- ---- why a call is refused

-- why no instance of this limit is made (inotify_init(2), "ERRORS": EMFILE)
unfoldable pub init_rows : Limits → Instances → ℕ → ℕ → List (Option Refusal)
init_rows limits instances next_id limit =
    row ((limit == 0) || nat_lt limits.queue limit) Einval
    ∷ row (nat_le limits.instances (finmap.len instances)) Emfile
    ∷ row (nat_lt limits.ids next_id) Emfile
    ∷ []

-- why what stands at a path is not watched: inotify_add_watch(2), "ERRORS"
unfoldable pub add_watch_rows : Look → List (List ℕ) → ℕ → Option Instance → List (Option Refusal)
add_watch_rows seen_at p mask None = Some Ebadf ∷ []
add_watch_rows seen_at p mask (Some i) =
    mask_fault mask ∷ find seen_at p
    ∷ option_and_then (λ s. add_refusal i.watches s.number mask (is_directory_kind s.kind)) (seen_at p) ∷ []

-- why no watch is ended (inotify_rm_watch(2), "ERRORS")
unfoldable pub rm_watch_rows : ℤ → Option Instance → List (Option Refusal)
rm_watch_rows wd None = Some Ebadf ∷ []
rm_watch_rows wd (Some i) = row (is_none (watched_by i.watches wd)) Einval ∷ []

-- why nothing is read, or pumped (inotify(7), "Reading events from an inotify file descriptor"): the records go another
-- way than they are asked for, none waits, or none fits
unfoldable pub read_rows : Bool → ℕ → Option Instance → List (Option Refusal)
read_rows pumps bytes None = Some Ebadf ∷ []
read_rows pumps bytes (Some i) =
    row (pumps && not i.is_piped) NotPiped
    ∷ row (not pumps && i.is_piped) Piped
    ∷ row (length i.queue.waiting == 0) Eagain
    ∷ row (fitting bytes i.queue.waiting == 0) Einval
    ∷ []

-- the refusal of a call, if it is refused: the first row that holds
abbrev pub refusal_of : Tree → Call → Option Refusal
refusal_of t (call.File f) = ops.refused t.world t.limits (counts_of t) f
refusal_of t (call.Init limit is_piped) = first_row (init_rows t.limits t.instances t.next_id limit)
refusal_of t (call.AddWatch id p mask) =
    first_row (add_watch_rows (look t.world) p (known mask) (instance_of t.instances id))
refusal_of t (call.RmWatch id wd) = first_row (rm_watch_rows wd (instance_of t.instances id))
refusal_of t (call.Read id bytes) = first_row (read_rows false bytes (instance_of t.instances id))
refusal_of t (call.Pump id bytes) = first_row (read_rows true bytes (instance_of t.instances id))
refusal_of t (call.Close id) = first_row (row (is_none (instance_of t.instances id)) Ebadf ∷ [])

-- ---- what an accepted call does

-- the files as the call leaves them; each instance is notified
unfoldable pub after_file : Tree → FileCall → Tree
after_file t f =
    record t {
      world = ops_after.after t.world (counts_of t) f;
      next_number = t.next_number + ops_after.numbers_of f;
      next_cookie = t.next_cookie + cookies_of t.world f;
      instances = all_changed t.instances (told (notices_of t.world f (cookie_now t.next_cookie)));
    }

-- the tree after an accepted call. An init makes a new instance, and an inotify_add_watch lets one watch what stands at
-- a path; an inotify_rm_watch ends a watch. A read, and a pump, take as many of the oldest records as fit. A close
-- leaves an instance less, with its watches and what waited
abbrev pub accepted : Tree → Call → Tree
accepted t (call.File f) = after_file t f
accepted t (call.Init limit is_piped) =
    record t {
      next_id = t.next_id + 1;
      instances = finmap.insert t.instances t.next_id (new_instance t.limits limit is_piped);
    }
accepted t (call.AddWatch id p mask) =
    record t {
      instances = changed t.instances id (watching (option_map_or (λ s. s.number) (look t.world p) 0) (known mask));
    }
accepted t (call.RmWatch id wd) = record t { instances = changed t.instances id (unwatching wd) }
accepted t (call.Read id bytes) =
    record t { instances = changed t.instances id (λ i. after_read (fitting bytes i.queue.waiting) i) }
accepted t (call.Pump id bytes) =
    record t { instances = changed t.instances id (λ i. after_read (fitting bytes i.queue.waiting) i) }
accepted t (call.Close id) = record t { instances = finmap.remove t.instances id }

-- ---- what it answers

-- as many of the oldest records as fit
abbrev pub oldest : ℕ → Instance → List Event
oldest bytes i = take (fitting bytes i.queue.waiting) i.queue.waiting

-- what an accepted call answers
abbrev pub accepted_reply : Tree → Call → Reply
accepted_reply t (call.File f) = reply.File (ops_after.answer_of t.world (counts_of t) f)
accepted_reply t (call.Init limit is_piped) = reply.Instance t.next_id
accepted_reply t (call.AddWatch id p mask) =
    option_map_or (λ i. reply.Wd (wd_added i.watches (option_map_or (λ s. s.number) (look t.world p) 0)))
    (instance_of t.instances id) (reply.Refused Ebadf)
accepted_reply t (call.RmWatch id wd) = reply.Done
accepted_reply t (call.Read id bytes) =
    option_map_or (λ i. reply.Records (spelling (oldest bytes i))) (instance_of t.instances id) (reply.Refused Ebadf)
accepted_reply t (call.Pump id bytes) =
    option_map_or (λ i. reply.Records (spelling (oldest bytes i))) (instance_of t.instances id) (reply.Refused Ebadf)
accepted_reply t (call.Close id) = reply.Done

-- ---- every call

-- what a call answers: its refusal, if it is refused
abbrev pub reply_of : Tree → Call → Reply
reply_of t c = option_map_or (λ r. reply.Refused r) (refusal_of t c) (accepted_reply t c)

-- the tree after a call, which is as before where the call is refused
abbrev pub after : Tree → Call → Tree
after t c = if is_some (refusal_of t c) then t else accepted t c
