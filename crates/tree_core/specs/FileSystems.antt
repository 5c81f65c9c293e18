-- The tree of a file system, and what it does for a call. No public clause cites this module.
use Rattle.std.specs.Prelude.{◌≡◌, ◌⊎◌, ⊤, ℕ, Bool, true, false, List, Option, Some, None, Result, IfOk, IfErr, OnOk}
use Rattle.std.specs.Prelude.{OnErr, take}
use Rattle.record_codec.specs.declared.event.Event.{Event}
use Rattle.tree_paths.specs.declared.refusal.Refusal.{Refusal}
use Rattle.tree_paths.specs.declared.refusal.Refusal.TheVariants.{Enomem}
use Rattle.inode_table.specs.TableWorld.{world_of, HasNumbersBelow}
use Rattle.event_rules.specs.declared.notice.Notice.{Notice}
use Rattle.instance_table.specs.declared.staging.Staging.{Staging}
use Rattle.instance_table.specs.Instances.{Instances, after_read, all_changed, changed, instance_of, told, waiting_of}
use Rattle.instance_table.specs.Staging.{IsStaged}
use Rattle.tree_core.specs.declared.call.Call.{Call}
use Rattle.tree_core.specs.declared.call.Call.TheVariants as call
use Rattle.tree_core.specs.declared.file_system.Begun.{Begun}
use Rattle.tree_core.specs.declared.file_system.FileSystem.{FileSystem}
use Rattle.tree_core.specs.declared.file_system.Rest.{Rest}
use Rattle.tree_core.specs.declared.file_system.Rest.TheVariants.{Nothing, Notify, Take}
use Rattle.tree_core.specs.Calls.{takes_memory}
use Rattle.tree_core.specs.Sound.{IsCounted}
use Rattle.tree_core.specs.Tree.{Tree, refusal_of, accepted_reply, accepted, reply_of, after}

-- the numbers that come next are counted, and the files have numbers below the next one
pub record IsNumbered (t : Tree) : Type 0 where
  pub counted : IsCounted t
  pub given : HasNumbersBelow t.world t.next_number

-- the tree of a file system: its files are the world of its table
abbrev pub tree_in : FileSystem → Tree
tree_in m = record {
  limits = m.limits;
  world = world_of m.table;
  next_number = m.next_number;
  next_cookie = m.next_cookie;
  next_id = m.next_id;
  instances = m.instances;
}

-- ---- what is left to do of a call

-- the events that are to be delivered are staged
abbrev pub CanFinish : FileSystem → Rest → Type 0
CanFinish m Nothing = ⊤
CanFinish m Notify = IsStaged m.instances m.notices m.staging
CanFinish m (Take id index count) = ⊤

-- the tree once it is done
abbrev pub finished : FileSystem → Rest → Tree
finished m Nothing = tree_in m
finished m Notify = record (tree_in m) { instances = all_changed m.instances (told m.notices) }
finished m (Take id index count) = record (tree_in m) { instances = changed m.instances id (after_read count) }

-- the records that it takes out of a queue
abbrev pub taken : FileSystem → Rest → Option (List Event)
taken m Nothing = None
taken m Notify = None
taken m (Take id index count) = Some (take count (waiting_of (instance_of m.instances id)))

-- what is left to do of a call on files, by whether events are staged
abbrev pub rest_of : Bool → Rest
rest_of true = Notify
rest_of false = Nothing

-- the instances are these once the staged events are delivered, or already where nothing is staged
abbrev pub LeadsTo : Bool → Instances → List Notice → Staging → Instances → Type 0
LeadsTo true m ns s after = IsStaged m ns s × (all_changed m (told ns) ≡ after)
LeadsTo false m ns s after = m ≡ after

-- ---- calls

-- a pump, or a read
abbrev pub reading : Bool → ℕ → ℕ → Call
reading true id bytes = call.Pump id bytes
reading false id bytes = call.Read id bytes

-- a call is accepted and begun, and once the rest is done it leads to the tree after it. Until then a call whose reply
-- has a list leaves the tree as it was. Or it is refused, or out of memory, and leaves the tree as it was
pub record Attempts (old : FileSystem) (c : Call) (result : Result Begun Refusal) (new : FileSystem) : Type 0 where
  pub passes : OnOk result (refusal_of (tree_in old) c ≡ None)
  pub reply : IfOk result (λ b. b.reply ≡ accepted_reply (tree_in old) c)
  pub rest : IfOk result (λ b. CanFinish new b.rest)
  pub tree : IfOk result (λ b. finished new b.rest ≡ accepted (tree_in old) c)
  pub begun : IfOk result (λ b. takes_memory b.reply ≡ true → tree_in new ≡ tree_in old)
  pub numbered : OnOk result (IsNumbered (accepted (tree_in old) c))
  pub refused : IfErr result (λ r. (refusal_of (tree_in old) c ≡ Some r) ⊎ (r ≡ Enomem))
  pub err : OnErr result (tree_in new ≡ tree_in old)

-- the same, where a refusal is a reply, and an error is out of memory
pub record Begins (old : FileSystem) (c : Call) (result : Result Begun Refusal) (new : FileSystem) : Type 0 where
  pub reply : IfOk result (λ b. b.reply ≡ reply_of (tree_in old) c)
  pub rest : IfOk result (λ b. CanFinish new b.rest)
  pub tree : IfOk result (λ b. finished new b.rest ≡ after (tree_in old) c)
  pub begun : IfOk result (λ b. takes_memory b.reply ≡ true → tree_in new ≡ tree_in old)
  pub numbered : OnOk result (IsNumbered (after (tree_in old) c))
  pub err : OnErr result (tree_in new ≡ tree_in old)
  pub memory : IfErr result (λ refusal. refusal ≡ Enomem)
