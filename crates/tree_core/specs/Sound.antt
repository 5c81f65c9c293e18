-- What is true of each tree that a journal stands for.
use Rattle.std.specs.Prelude.{◌≡◌, ◌<◌, ◌≤◌, ◌+◌, ◌⊎◌, ℕ, pos, ◌≤ℤ◌, ◌<ℤ◌, List, ◌∷◌, ◌++◌, All, IsSome, IsTrue, Some}
use Rattle.std.specs.FinMap as finmap
use Rattle.record_codec.specs.declared.event.Event.{Event}
use Rattle.inode_table.specs.World.{IsWorld, IsWhole}
use Rattle.inode_table.specs.TableWorld.{HasNumbersBelow}
use Rattle.watch_table.specs.Watching.{watch_of, IsSound, HasEnded}
use Rattle.event_queue.specs.Backlogs.{overflow_mark}
use Rattle.event_queue.specs.Fates.{IsBounded}
use Rattle.event_rules.specs.Laws.{TellsNothing, says_ended}
use Rattle.instance_table.specs.declared.instance.Instance.{Instance}
use Rattle.instance_table.specs.Instances.{instance_of}
use Rattle.tree_core.specs.Tree.{Tree}

-- each number that comes next is within its limit, or the one above it, where all were given; open instances have
-- numbers below the next
pub record IsCounted (t : Tree) : Type 0 where
  pub numbers : t.next_number ≤ t.limits.numbers + 1
  pub cookies : t.next_cookie ≤ t.limits.cookies + 1
  pub ids : t.next_id ≤ t.limits.ids + 1
  pub opened : (id : ℕ) → IsSome (instance_of t.instances id) → id < t.next_id

-- nothing of a watch follows its IN_IGNORED
abbrev pub NothingFollowsIgnored : List Event → Type 0
NothingFollowsIgnored es =
    (before after : List Event) (e : Event) → es ≡ before ++ e ∷ after → IsTrue (says_ended e) → TellsNothing e.wd after

-- the watches of an open instance are sound and of files that are there, and its queue keeps its bounds. Each record
-- that waits is the mark, or one whose descriptor and cookie were given. Where an IN_IGNORED waits, its watch has
-- ended, and no later record is of it
pub record IsSoundInstance (t : Tree) (i : Instance) : Type 0 where
  pub watches : IsSound i.watches
  pub most_watches : i.watches.most_watches ≡ t.limits.watches
  pub last_wd : i.watches.last_wd ≡ t.limits.wds
  pub watched : (number : ℕ) → IsSome (watch_of i.watches number) → IsSome (finmap.get t.world.files number)
  pub bounded : IsBounded i.queue
  pub limited : i.queue.limit ≤ t.limits.queue
  pub given : All (λ e. (e ≡ overflow_mark)
      ⊎ ((pos 1 ≤ℤ e.wd) × (e.wd <ℤ pos i.watches.next_wd) × ((e.cookie ≡ 0) ⊎ (e.cookie < t.next_cookie))))
      i.queue.waiting
  pub quiet : NothingFollowsIgnored i.queue.waiting
  pub over : All (λ e. IsTrue (says_ended e) → HasEnded i.watches e.wd) i.queue.waiting

-- the files are a world, their numbers were given, and each open instance is sound
pub record IsSoundTree (t : Tree) : Type 0 where
  pub counted : IsCounted t
  pub world : IsWorld t.world
  pub whole : IsWhole t.world
  pub given : HasNumbersBelow t.world t.next_number
  pub cookies : 1 ≤ t.next_cookie
  pub instances : (id : ℕ) (i : Instance) → instance_of t.instances id ≡ Some i → IsSoundInstance t i
