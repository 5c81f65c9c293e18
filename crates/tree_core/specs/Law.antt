-- What holds of each state, whatever was called.
use Rattle.std.specs.Prelude.{◌≡◌, ℕ, List, [], ◌∷◌, ◌++◌, ⊤}
use Rattle.record_codec.specs.Records.{spelling}
use Rattle.tree_paths.specs.declared.refusal.Refusal.{Refusal}
use Rattle.event_rules.specs.Laws.{AreTied, marks_of, moves_with}
use Rattle.instance_table.specs.Instances.{instance_of, waiting_of}
use Rattle.tree_core.specs.declared.call.Call.{Call}
use Rattle.tree_core.specs.declared.reply.Entry.{Entry}
use Rattle.tree_core.specs.declared.reply.Reply.TheVariants as reply
use Rattle.tree_core.specs.Tree.{Tree, reply_of, after}
use Rattle.tree_core.specs.Journal.{Journaled, now}
use Rattle.tree_core.specs.Histories.{events, joined, raised_by, raised_in, read_in}
use Rattle.tree_core.specs.QueueLaws.{AreAccountedFor, FindsTheUnread, IsInOrder, bytes_read}
use Rattle.tree_core.specs.TurnLaws.{AddsNothing, AreInTurn, cookies_in, cookies_used}

-- at each entry of a journal this is true of the tree before it and of its call
abbrev pub AtEach : (Tree → Call → Type 0) → Tree → List Entry → Type 0
AtEach P t [] = ⊤
AtEach P t (e ∷ es) = P t e.call × AtEach P (after t e.call) es

-- a call that is refused leaves the files, the watches and what waits as they were; what joined and what was read of
-- each instance are as before it
abbrev pub RefusedAddsNothing : Tree → Call → Type 0
RefusedAddsNothing t c = (refusal : Refusal) → reply_of t c ≡ reply.Refused refusal → AddsNothing t c

-- the records that were read of an open instance since the cut, followed by those that wait, are those that waited at
-- the cut and the events that the journal raises for it, in order, each once, but for those merged into an equal unread
-- neighbour and those lost behind a mark; those that were read of a closed one are a prefix of them. The queue that
-- each event found is what had joined and was not read yet
pub record IsTold (s : Journaled) (id : ℕ) : Type 0 where
  pub order : IsInOrder (read_in s.start s.entries id)
      (waiting_of (instance_of s.start.instances id) ++ joined (raised_in s.start s.entries id))
      (instance_of (now s).instances id)
  pub bytes : bytes_read id s.entries ≡ spelling (read_in s.start s.entries id)
  pub accounted : AreAccountedFor (raised_in s.start s.entries id)
  pub found : FindsTheUnread s.start s.entries id

-- no two moves share a cookie, and the i-th move of a call has the i-th of its cookies. What the call raises for an
-- instance are some of the IN_MOVED_FROM and IN_MOVED_TO of these moves, in order, each with the cookie of its move;
-- all other events have cookie 0
pub record HasCookiesInTurn (s : Journaled) : Type 0 where
  pub turn : AreInTurn s.start.next_cookie (cookies_in s.start s.entries)
  pub ties : AtEach (λ t c. (id : ℕ) → AreTied (moves_with (cookies_used t c)) (marks_of (events (raised_by t c id))))
      s.start s.entries
