-- Calls that pipes are for, replies that take memory, and what is kept of a call.
use Rattle.std.specs.Prelude.{◌≡◌, ⊤, Bool, true, false, not, List}
use Rattle.record_codec.specs.declared.event.Event.{Event}
use Rattle.record_codec.specs.Records.{AreEvents, spelling}
use Rattle.tree_ops.specs.declared.answer.Answer.{Answer}
use Rattle.tree_ops.specs.declared.answer.Answer.TheVariants as answer
use Rattle.tree_core.specs.declared.call.Call.{Call}
use Rattle.tree_core.specs.declared.call.Call.TheVariants as call
use Rattle.tree_core.specs.declared.reply.Kept.{Kept}
use Rattle.tree_core.specs.declared.reply.Receipt.{Receipt}
use Rattle.tree_core.specs.declared.reply.Reply.{Reply}
use Rattle.tree_core.specs.declared.reply.Reply.TheVariants as reply

-- neither a pump, nor an instance with a pipe
abbrev pub is_plain : Call → Bool
is_plain (call.Init limit is_piped) = not is_piped
is_plain (call.Pump id bytes) = false
is_plain _ = true

-- whether an answer holds a list
abbrev pub has_list : Answer → Bool
has_list (answer.Bytes bytes) = true
has_list (answer.Names names) = true
has_list _ = false

-- whether a reply holds a list, so that a copy of it takes memory
abbrev pub takes_memory : Reply → Bool
takes_memory (reply.File a) = has_list a
takes_memory (reply.Records bytes) = true
takes_memory _ = false

-- where a reply has bytes of records, these are the records of events
abbrev pub IsSpelled : Reply → Type 0
IsSpelled (reply.Records bytes) = (events : List Event) × AreEvents events × (bytes ≡ spelling events)
IsSpelled _ = ⊤

-- what is kept of a call is its sequence number, the call and its reply
abbrev pub IsKeptAs : Receipt → Kept → Call → Type 0
IsKeptAs receipt kept c = kept ≡ record { place = receipt.place; call = c; reply = receipt.reply }
