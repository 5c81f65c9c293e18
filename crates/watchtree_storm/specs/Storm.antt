-- What the seats of a storm do, and what is reported of it.
use Rattle.std.specs.Prelude.{◌≡◌, ◌<◌, ◌⊎◌, ◌%◌, ◌++◌, ⊤, ℕ, zero, suc, Bool, true, false, codes, if◌then◌else◌}
use Rattle.std.specs.Prelude.{nat_eq, List, [], ◌∷◌, length, Some, None, Result, Ok, Err}
use Rattle.record_codec.specs.declared.event.Event.{Event}
use Rattle.tree_paths.specs.Paths.{parsed}
use Rattle.tree_ops.specs.declared.call.FileCall.{FileCall}
use Rattle.tree_ops.specs.declared.call.FileCall.TheVariants as file
use Rattle.tree_core.specs.declared.call.Call.{Call}
use Rattle.tree_core.specs.declared.call.Call.TheVariants as call
use Rattle.tree_core.specs.declared.reply.Kept.{Kept}
use Rattle.tree_core.specs.declared.reply.Reply.TheVariants as reply
use Rattle.shared_tree.specs.declared.seat.SeatLog.{SeatLog}
use Rattle.shared_tree.specs.Handed.{records_of}
use Rattle.shared_tree.specs.Pipes.{fed}
use Rattle.shared_tree.specs.Seats.{Seated, seated}
use Rattle.event_sinks.specs.declared.audit.Settled.{Settled}
use Rattle.event_sinks.specs.declared.audit.SettleFault.{SettleFault}
use Rattle.event_sinks.specs.declared.audit.SettleFault.TheVariants.{CountDiffers}
use Rattle.event_sinks.specs.declared.listener.Cause.{Cause}
use Rattle.event_sinks.specs.declared.listener.Cause.TheVariants.{Turns}
use Rattle.event_sinks.specs.declared.listener.Ended.{Ended}
use Rattle.event_sinks.specs.declared.listener.Listening.{Listening}
use Rattle.event_sinks.specs.Listeners.{IsSoundListener, ListenerState, Reaches, ended_by, listener_state}
use Rattle.event_sinks.specs.Listeners.{state_of_ended, state_of_listener}
use Rattle.event_sinks.specs.Pages.{Page, Writes, WritesBatches}
use Rattle.watchtree_storm.specs.declared.writer.Writer.{Writer}

-- ---- the writers

-- a writer: its number at the gate, the instance that it pumps, and the texts of two paths, of its file and of the name
-- that it moves it to
pub record Part : Type 0 where
  pub who : ℕ
  pub instance : ℕ
  pub file : List ℕ
  pub moved : List ℕ

abbrev pub part_of : Writer → Part
part_of w = record { who = w.who; instance = w.instance; file = w.file.now; moved = w.moved.now }

abbrev pub first_part : Part
first_part = record { who = 3; instance = 1; file = codes "/s/a1"; moved = codes "/s/b1" }

abbrev pub second_part : Part
second_part = record { who = 4; instance = 2; file = codes "/s/a2"; moved = codes "/s/b2" }

-- the calls of a writer, by their number from 0 on: it makes its file with mode 0644, writes a byte, moves the file,
-- and takes it away, in turn
unfoldable pub turn_at : List (List ℕ) → List (List ℕ) → ℕ → FileCall
turn_at path moved number =
    if nat_eq (number % 4) 0 then file.Create path 420
    else if nat_eq (number % 4) 1 then file.Write path 0 (codes "x")
    else if nat_eq (number % 4) 2 then file.Rename path moved
    else file.Unlink moved

-- the writer's call, at the paths that its texts stand for
abbrev pub IsCallAt : Part → ℕ → Call → Type 0
IsCallAt w number c =
    (path : List (List ℕ)) × (moved : List (List ℕ)) × (parsed w.file ≡ Ok path) × (parsed w.moved ≡ Ok moved)
    × (c ≡ call.File (turn_at path moved number))

-- ---- the gate

-- a gate lets a worker through at `turn`, one of `turns` turns, and at none before. `passes` says what the gate may
-- answer to the worker at a turn
abbrev pub IsLetThrough : (ℕ → Bool → Type 0) → ℕ → ℕ → Type 0
IsLetThrough passes turns turn =
    (turn < turns) × passes turn true × ((earlier : ℕ) → earlier < turn → passes earlier false)

-- it lets the worker through at none of `turns` turns
abbrev pub IsHeldBack : (ℕ → Bool → Type 0) → ℕ → Type 0
IsHeldBack passes turns = (turn : ℕ) → turn < turns → passes turn false

-- ---- what the seats keep

-- the seat keeps its number, and keeps this call more; or it stays as it was, where the call was not carried out
abbrev pub KeepsOrNot : Call → Seated → Seated → Type 0
KeepsOrNot c old new = (new ≡ old) ⊎ ((k : Kept) × (k.call ≡ c) × (new ≡ seated old.number (old.kept ++ k ∷ [])))

-- the pump of an instance, with a buffer for all that waits
abbrev pub pump_all : ℕ → Call
pump_all instance = call.Pump instance 1048576

-- the same of a writer's call, for which memory may be wanting before it is made
abbrev pub KeepsTurn : Part → ℕ → Seated → Seated → Type 0
KeepsTurn w number old new = (new ≡ old) ⊎ ((c : Call) × IsCallAt w number c × KeepsOrNot c old new)

-- a turn of a writer: its call, and a pump of its instance
abbrev pub IsTurn : Part → ℕ → Seated → Seated → Type 0
IsTurn w number old new =
    (between : Seated) × KeepsTurn w number old between × KeepsOrNot (pump_all w.instance) between new

-- a given number of turns of a writer, from turn 0 on
unfoldable pub AreTurns : Part → ℕ → Seated → Seated → Type 0
AreTurns w zero old new = new ≡ old
AreTurns w (suc n) old new = (between : Seated) × AreTurns w n old between × IsTurn w n between new

-- what a writer's seat keeps more at a gate of `turns` turns: the writer's own turns if the gate lets it through, and
-- nothing if not. `passes` says what the gate may answer to a number at a turn
abbrev pub IsWriting : (ℕ → ℕ → Bool → Type 0) → ℕ → Part → ℕ → Seated → Seated → Type 0
IsWriting passes turns w calls old new =
    (((turn : ℕ) × IsLetThrough (passes w.who) turns turn) × AreTurns w calls old new)
    ⊎ (IsHeldBack (passes w.who) turns × (new ≡ old))

-- the path of the directory in which all happens
abbrev pub IsDirectory : List (List ℕ) → Type 0
IsDirectory path = parsed (codes "/s") ≡ Ok path

-- the instance of this number is made, with a pipe, and a watch of all events of the directory is added to it
abbrev pub IsListening : ℕ → Seated → Seated → Type 0
IsListening id old new =
    (path : List (List ℕ)) × (made : Kept) × (told : Kept) × IsDirectory path × (made.call ≡ call.Init 16384 true)
    × (made.reply ≡ reply.Instance id) × (told.call ≡ call.AddWatch id path 4095)
    × (new ≡ seated old.number (old.kept ++ made ∷ told ∷ []))

-- what the first seat begins with: the directory, and instances 1 and 2
abbrev pub HasBegun : Seated → Type 0
HasBegun s =
    (path : List (List ℕ)) × (made : Kept) × (between : Seated) × IsDirectory path
    × (made.call ≡ call.File (file.Mkdir path 493)) × IsListening 1 (seated 1 (made ∷ [])) between
    × IsListening 2 between s

-- both instances are pumped one last time, and closed
abbrev pub IsClosing : Seated → Seated → Type 0
IsClosing old new =
    (s : Seated) × (t : Seated) × (u : Seated) × KeepsOrNot (pump_all 1) old s × KeepsOrNot (pump_all 2) s t
    × KeepsOrNot (call.Close 1) t u × KeepsOrNot (call.Close 2) u new

-- all that the first seat does
abbrev pub IsWhole : Seated → Type 0
IsWhole s = (begun : Seated) × HasBegun begun × IsClosing begun s

abbrev pub seat_of : SeatLog → Seated
seat_of l = seated l.number l.kept

-- the logs are those of seats 1, 2 and 3: of the one that begins and ends, and of the writers at a gate of `turns`
-- turns. They keep nothing else
abbrev pub AreStormLogs : (ℕ → ℕ → Bool → Type 0) → ℕ → ℕ → List SeatLog → Type 0
AreStormLogs passes turns calls logs =
    (main : SeatLog) × (first : SeatLog) × (second : SeatLog) × (logs ≡ main ∷ first ∷ second ∷ [])
    × (main.number ≡ 1) × IsWhole (seat_of main)
    × IsWriting passes turns first_part calls (seated 2 []) (seat_of first)
    × IsWriting passes turns second_part calls (seated 3 []) (seat_of second)

-- ---- the listeners

-- a listener with this number, at the pipe of this instance, which has this number of slots. The listener has taken
-- nothing yet; its sink took these records before
abbrev pub beginning : ℕ → ℕ → ℕ → List Event → ListenerState
beginning number instance slots before =
    listener_state number (fed instance [] slots) [] (length before) before true None

-- the same, with this sink
abbrev pub Begins : {S : Type 0} → (S → List Event) → (S → Bool) → ℕ → ℕ → ℕ → S → Listening S → Type 0
Begins record_list is_open number instance slots sink l =
    (l.intake.sink ≡ sink)
    × (state_of_listener record_list is_open l ≡ beginning number instance slots (record_list sink))

-- a listener takes all the turns that a gate has, unless it ends before
abbrev pub RunsAt : (ℕ → ℕ → Bool → Type 0) → ℕ → ListenerState → ListenerState → Type 0
RunsAt passes turns begun ended =
    (last : ListenerState) × Reaches passes turns begun last × (ended ≡ ended_by last Turns)

-- what became of a listener in its thread: it ran, and what it was handed was put into its sink, which is closed
abbrev pub HasRun : {S : Type 0} → (S → List Event) → (S → Bool) → (S → Page) → (ℕ → ℕ → Bool → Type 0) → ℕ
    → Listening S → Ended S → Type 0
HasRun record_list is_open page passes turns l e =
    IsSoundListener (state_of_ended record_list is_open e)
    × RunsAt passes turns (state_of_listener record_list is_open l) (state_of_ended record_list is_open e)
    × (l.cause ≡ None → WritesBatches record_list page l.intake e.intake (Some e.cause))

-- the sink of a listener that has ended is what became of this one: the records that the listener was handed were put
-- into it, and it was closed
abbrev pub WritesHanded : {S : Type 0} → (S → List Event) → (S → Page) → S → Ended S → Type 0
WritesHanded record_list page sink e =
    Writes record_list page sink (records_of e.intake.handed.items) e.intake.sink (Some e.cause)

-- ---- what is reported

-- of a listener: its number, why it ended, and how many records its sink took
abbrev pub told_of : {S : Type 0} → (S → List Event) → Ended S → ℕ × Cause × ℕ
told_of record_list e = (e.intake.number, e.cause, length (record_list e.intake.sink))

-- it did not find that the journal has another number of entries than the seats kept calls
abbrev pub CountsAgree : Result Settled SettleFault → Type 0
CountsAgree (Err (CountDiffers entries calls)) = ⊥
CountsAgree _ = ⊤
