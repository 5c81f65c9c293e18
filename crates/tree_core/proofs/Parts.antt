-- Short names for parts of what a call is refused for, does and answers.
use Rattle.std.proofs.Common.{ℕ, if◌then◌else◌, List, Option, Some, None, is_some}
use Rattle.std.specs.Prelude.{◌≡◌, ◌<◌, ◌+◌, ◌⊎◌, Bool, pos, ◌≤ℤ◌, ◌<ℤ◌, is_none}
use Rattle.std.specs.FinMap as finmap
use Rattle.std.specs.Option.{option_and_then, option_map_or}
use Rattle.record_codec.specs.declared.event.Event.{Event}
use Rattle.record_codec.specs.Records.{spelling}
use Rattle.tree_paths.specs.declared.refusal.Refusal.{Refusal}
use Rattle.tree_paths.specs.declared.refusal.Refusal.TheVariants.{Ebadf}
use Rattle.inode_table.specs.declared.seen.Seen.{Seen}
use Rattle.inode_table.specs.Refusals.{is_directory_kind}
use Rattle.watch_table.specs.Watching.{add_refusal, wd_added}
use Rattle.event_queue.specs.Backlogs.{overflow_mark}
use Rattle.event_queue.specs.Reads.{fitting}
use Rattle.instance_table.specs.declared.instance.Instance.{Instance}
use Rattle.instance_table.specs.Instances.{after_read, new_instance}
use Rattle.tree_core.specs.declared.reply.Reply.{Reply}
use Rattle.tree_core.specs.declared.reply.Reply.TheVariants as reply
use Rattle.tree_core.specs.Tree.{Tree, oldest}

abbrev pub seen_fault : Instance → ℕ → Option Seen → Option Refusal
seen_fault i mask o = option_and_then (λ s. add_refusal i.watches s.number mask (is_directory_kind s.kind)) o

abbrev pub after_reading : ℕ → Instance → Instance
after_reading bytes i = after_read (fitting bytes i.queue.waiting) i

abbrev pub watch_answer : ℕ → Option Instance → Reply
watch_answer number o = option_map_or (λ i. reply.Wd (wd_added i.watches number)) o (reply.Refused Ebadf)

abbrev pub read_answer : ℕ → Option Instance → Reply
read_answer bytes o = option_map_or (λ i. reply.Records (spelling (oldest bytes i))) o (reply.Refused Ebadf)

-- these, where a call is not refused
abbrev pub where_accepted : {A : Type 0} → Option Refusal → A → Option A
where_accepted o x = if is_none o then Some x else None

-- these, where a reply has records
abbrev pub where_records : Reply → List Event → Option (List Event)
where_records (reply.Records bytes) es = Some es
where_records _ es = None

abbrev pub reply_by : Option Refusal → Reply → Reply
reply_by o answer = option_map_or (λ r. reply.Refused r) o answer

abbrev pub tree_by : Option Refusal → Tree → Tree → Tree
tree_by o before after = if is_some o then before else after

abbrev pub number_seen : Option Seen → ℕ
number_seen o = option_map_or (λ s. s.number) o 0

abbrev pub after_init : Tree → ℕ → Bool → Tree
after_init t limit is_piped =
    record t {
      next_id = t.next_id + 1;
      instances = finmap.insert t.instances t.next_id (new_instance t.limits limit is_piped);
    }

-- the mark, or a record whose descriptor and cookie were given
abbrev pub IsGivenRecord : Tree → Instance → Event → Type 0
IsGivenRecord t i e =
    (e ≡ overflow_mark)
    ⊎ ((pos 1 ≤ℤ e.wd) × (e.wd <ℤ pos i.watches.next_wd) × ((e.cookie ≡ 0) ⊎ (e.cookie < t.next_cookie)))
