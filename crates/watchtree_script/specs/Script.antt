-- What a script prints.
use Rattle.std.specs.Prelude.{◌≡◌, ◌<◌, ◌≤◌, ◌⊎◌, ⊤, ℕ, ◌+◌, List, [], ◌∷◌, ◌++◌, length, decimal, Option, Result, Ok}
use Rattle.std.specs.Prelude.{Err, IfSome}
use Rattle.std.specs.Io.KnownBytes.{Appends, Keeps}
use Rattle.record_codec.specs.Ports.{one_more}
use Rattle.tree_paths.specs.Bounds.{full}
use Rattle.tree_paths.specs.declared.refusal.Refusal.TheVariants.{Enomem, JournalFull}
use Rattle.tree_core.specs.declared.call.Call.{Call}
use Rattle.tree_core.specs.declared.call.Call.TheVariants as call
use Rattle.tree_core.specs.declared.reply.Reply.{Reply}
use Rattle.tree_core.specs.declared.reply.Reply.TheVariants as replies
use Rattle.tree_core.specs.Tree.{reply_of}
use Rattle.tree_core.specs.Journal.{Journaled, IsSpent, now, last_place, opened, with_entry, cut_off}
use Rattle.watchtree_script.specs.declared.fault.ScriptFault.{ScriptFault}
use Rattle.watchtree_script.specs.declared.fault.RunFault.{RunFault}
use Rattle.watchtree_script.specs.declared.fault.RunFault.TheVariants as faults
use Rattle.watchtree_script.specs.declared.line.Line.{Line}
use Rattle.watchtree_script.specs.declared.line.Line.TheVariants.{Silent, Cut, Run}
use Rattle.watchtree_script.specs.declared.line.LineError.{LineError}
use Rattle.watchtree_script.specs.declared.line.LineError.TheVariants.{Fault, Refused, PathMemory, Memory}
use Rattle.watchtree_script.specs.Lines.{lines_of}
use Rattle.watchtree_script.specs.Commands.{line_of}
use Rattle.watchtree_script.specs.Replies.{IsReplyText, ok_line, refusal_text}

-- who makes the calls of a script
abbrev pub caller : ℕ
caller = 1

-- the call is answered by the tree that the journal stands for, and joins the journal
pub record IsAnswered (old : Journaled) (call : Call) (reply : Reply) (new : Journaled) : Type 0 where
  pub room : ¬ IsSpent old
  pub answer : reply ≡ reply_of (now old) call
  pub entry : new ≡ with_entry old (record { caller = caller; call = call; reply = reply })

-- out of memory leaves the journal as it is, and is answered only if the journal is not full
pub record IsOutOfMemory (old : Journaled) (reply : Reply) (new : Journaled) : Type 0 where
  pub room : ¬ IsSpent old
  pub answer : reply ≡ replies.Refused Enomem
  pub same : new ≡ old

-- a full journal stays as it is
pub record IsFull (old : Journaled) (reply : Reply) (new : Journaled) : Type 0 where
  pub full : IsSpent old
  pub answer : reply ≡ replies.Refused JournalFull
  pub same : new ≡ old

-- where memory is ample, a call may have this reply and lead from the old journal to the new one
abbrev pub AmpleReplies : Journaled → Call → Reply → Journaled → Type 0
AmpleReplies old call reply new = IsAnswered old call reply new ⊎ IsFull old reply new

-- the same, where memory may be spent
abbrev pub Replies : Journaled → Call → Reply → Journaled → Type 0
Replies old call reply new = AmpleReplies old call reply new ⊎ IsOutOfMemory old reply new

-- the call has a path
abbrev pub HasPath : Call → Type 0
HasPath (call.File file) = ⊤
HasPath (call.Init limit is_piped) = ⊥
HasPath (call.AddWatch instance path mask) = ⊤
HasPath (call.RmWatch instance wd) = ⊥
HasPath (call.Read instance bytes) = ⊥
HasPath (call.Pump instance bytes) = ⊥
HasPath (call.Close instance) = ⊥

-- out of memory for a path of a call, which is read before the journal is known not to be full, leaves the journal as
-- it is
pub record LacksPath (old : Journaled) (call : Call) (reply : Reply) (new : Journaled) : Type 0 where
  pub path : HasPath call
  pub answer : reply ≡ replies.Refused Enomem
  pub same : new ≡ old

-- what the call of a line may be replied, where memory may be spent for it or for a path of it
abbrev pub RepliesToLine : Journaled → Call → Reply → Journaled → Type 0
RepliesToLine old call reply new = Replies old call reply new ⊎ LacksPath old call reply new

-- where memory is ample, a cut may print this and lead from the old journal to the new one. It is no entry itself
abbrev pub AmpleCuts : Journaled → List ℕ → Journaled → Type 0
AmpleCuts old text new = (text ≡ ok_line (decimal (last_place old))) × (new ≡ cut_off old)

-- the same, where memory may be spent
abbrev pub Cuts : Journaled → List ℕ → Journaled → Type 0
Cuts old text new = AmpleCuts old text new ⊎ ((text ≡ refusal_text Enomem) × (new ≡ old))

-- what a line may print, from the old journal to the new one, where calls and cuts are replied to so
abbrev pub PrintsLineBy : (Journaled → Call → Reply → Journaled → Type 0) → (Journaled → List ℕ → Journaled → Type 0)
    → Journaled → Result Line LineError → List ℕ → Journaled → Type 0
PrintsLineBy R C old (Ok Silent) text new = (text ≡ []) × (new ≡ old)
PrintsLineBy R C old (Ok Cut) text new = C old text new
PrintsLineBy R C old (Ok (Run call format)) text new =
    (reply : Reply) × R old call reply new × IsReplyText format reply text
PrintsLineBy R C old (Err (Refused refusal)) text new = (text ≡ refusal_text refusal) × (new ≡ old)
PrintsLineBy R C old (Err (Fault fault)) text new = ⊥
PrintsLineBy R C old (Err PathMemory) text new = (text ≡ refusal_text Enomem) × (new ≡ old)
PrintsLineBy R C old (Err Memory) text new = ⊥

-- the line was run: its call joined the journal, or it cut the journal
abbrev pub HasRun : Journaled → Result Line LineError → Journaled → Type 0
HasRun old (Ok Silent) new = ⊥
HasRun old (Ok Cut) new = new ≡ cut_off old
HasRun old (Ok (Run call format)) new = (reply : Reply) × IsAnswered old call reply new
HasRun old (Err e) new = ⊥

-- nothing was done, or the line was run
abbrev pub MayHaveRun : Journaled → Result Line LineError → Journaled → Type 0
MayHaveRun old line new = (new ≡ old) ⊎ HasRun old line new

-- what lines may print, one after another
abbrev pub PrintsBy : (Journaled → Call → Reply → Journaled → Type 0) → (Journaled → List ℕ → Journaled → Type 0) → ℕ
    → Journaled → List (List ℕ) → List ℕ → Journaled → Type 0
PrintsBy R C queue old [] text new = (text ≡ []) × (new ≡ old)
PrintsBy R C queue old (line ∷ lines) text new =
    (mid : Journaled) × (first rest : List ℕ) × PrintsLineBy R C old (line_of queue line) first mid
    × PrintsBy R C queue mid lines rest new
    × (text ≡ first ++ rest)

abbrev pub PrintsLine : Journaled → Result Line LineError → List ℕ → Journaled → Type 0
PrintsLine = PrintsLineBy RepliesToLine Cuts

abbrev pub Prints : ℕ → Journaled → List (List ℕ) → List ℕ → Journaled → Type 0
Prints = PrintsBy RepliesToLine Cuts

-- a tree of the greatest limits, with no journal yet
abbrev pub opening : Journaled
opening = opened full

-- lines may print this from the opening state. Queue is the limit of each instance that names none
pub record AreText (queue : ℕ) (lines : List (List ℕ)) (text : List ℕ) : Type 0 where
  pub journal : Journaled
  pub prints : Prints queue opening lines text journal

-- the most bytes of a script
abbrev pub script_max : ℕ
script_max = 1048576

abbrev pub IsShort : List ℕ → Type 0
IsShort script = length script ≤ script_max

abbrev pub IsTooLong : List ℕ → Type 0
IsTooLong script = script_max < length script

-- the text of a script
pub record IsText (queue : ℕ) (script text : List ℕ) : Type 0 where
  pub short : IsShort script
  pub prints : AreText queue (lines_of script) text

-- the text of the lines before the first one with a fault. Lines are counted from 1
pub record IsTextBefore (queue line : ℕ) (fault : ScriptFault) (script text : List ℕ) : Type 0 where
  pub short : IsShort script
  pub front : List (List ℕ)
  pub bad : List ℕ
  pub back : List (List ℕ)
  pub lines : lines_of script ≡ front ++ (bad ∷ back)
  pub number : line ≡ length front + 1
  pub first_fault : line_of queue bad ≡ Err (Fault fault)
  pub prints : AreText queue front text

-- a front of the text of some first lines
pub record IsTextFront (queue : ℕ) (script text : List ℕ) : Type 0 where
  pub short : IsShort script
  pub front : List (List ℕ)
  pub back : List (List ℕ)
  pub lines : lines_of script ≡ front ++ back
  pub more : List ℕ
  pub prints : AreText queue front (text ++ more)

-- where it is known what was read, what was added to the writer's known bytes is so related to it
abbrev pub Adds : (List ℕ → List ℕ → Type 0) → Option (List ℕ) → Option (List ℕ) → Option (List ℕ) → Type 0
Adds P read old new = IfSome read (λ script. (text : List ℕ) × P script text × Appends old new text)

-- what each fault says of what was read, and of what the writer held before and after
abbrev pub FaultTells : ℕ → RunFault → Option (List ℕ) → Option (List ℕ) → Option (List ℕ) → Type 0
FaultTells queue (faults.Script line f) read old new = Adds (IsTextBefore queue line f) read old new
FaultTells queue faults.TooLong read old new = IfSome read IsTooLong × Keeps old new
FaultTells queue faults.Read read old new = Keeps old new
FaultTells queue faults.Write read old new = Adds (IsTextFront queue) read old new
FaultTells queue faults.Memory read old new = Keeps old new ⊎ Adds (IsTextFront queue) read old new

-- the count of the reader's faults, and that of the writer's, go up by the run's own fault alone
abbrev pub read_faults : {A : Type 0} → Result A RunFault → ℕ → ℕ
read_faults (Ok x) n = n
read_faults (Err faults.Read) n = one_more n
read_faults (Err (faults.Script line f)) n = n
read_faults (Err faults.TooLong) n = n
read_faults (Err faults.Write) n = n
read_faults (Err faults.Memory) n = n

abbrev pub write_faults : {A : Type 0} → Result A RunFault → ℕ → ℕ
write_faults (Ok x) n = n
write_faults (Err faults.Write) n = one_more n
write_faults (Err (faults.Script line f)) n = n
write_faults (Err faults.TooLong) n = n
write_faults (Err faults.Read) n = n
write_faults (Err faults.Memory) n = n

-- why a line prints nothing
abbrev pub PrintsNothing : ℕ → ℕ → List ℕ → RunFault → Type 0
PrintsNothing queue number line (faults.Script n f) = (n ≡ number) × (line_of queue line ≡ Err (Fault f))
PrintsNothing queue number line faults.TooLong = ⊥
PrintsNothing queue number line faults.Read = ⊥
PrintsNothing queue number line faults.Write = ⊥
PrintsNothing queue number line faults.Memory = ⊤

-- what a line that prints nothing leaves: after a fault nothing; after out of memory nothing, or all that the line asks
-- for
abbrev pub LeavesLine : RunFault → Journaled → Result Line LineError → Journaled → Type 0
LeavesLine (faults.Script n f) old line new = new ≡ old
LeavesLine faults.TooLong old line new = ⊥
LeavesLine faults.Read old line new = ⊥
LeavesLine faults.Write old line new = ⊥
LeavesLine faults.Memory old line new = MayHaveRun old line new
