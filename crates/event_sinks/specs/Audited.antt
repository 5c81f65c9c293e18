-- When a book, the logs of its seats, and the listeners that ended agree.
use Rattle.std.specs.Prelude.{◌≡◌, ◌≢◌, ◌<◌, ◌≤◌, ◌+◌, ◌-◌, ◌==◌, ◌++◌, ⊤, ℕ, List, [], ◌∷◌, All, AllPairs, count_by}
use Rattle.std.specs.Prelude.{length, map, min, nat_lt, slice_get, sum_by, Some, Result, Ok, Err, ◌⊎◌}
use Rattle.std.specs.List.{filter, flat_map}
use Rattle.tree_core.specs.declared.reply.Entry.{Entry}
use Rattle.tree_core.specs.declared.reply.Kept.{Kept}
use Rattle.tree_core.specs.Histories.{if_same}
use Rattle.shared_tree.specs.declared.pipe.Batch.{Batch}
use Rattle.shared_tree.specs.declared.seat.SeatLog.{SeatLog}
use Rattle.tree_core.specs.Journal.{last_place}
use Rattle.shared_tree.specs.Calls.{BookContents, IsSent}
use Rattle.shared_tree.specs.Handed.{handed_since}
use Rattle.shared_tree.specs.Pipes.{IsIn, Lacks}
use Rattle.event_sinks.specs.declared.audit.Settled.{Settled}
use Rattle.event_sinks.specs.declared.audit.SettleFault.{SettleFault}
use Rattle.event_sinks.specs.declared.audit.SettleFault.TheVariants.{CountDiffers, Stray, NotEnded, HandedDiffers}
use Rattle.event_sinks.specs.declared.audit.SettleFault.TheVariants.{Memory}
use Rattle.event_sinks.specs.declared.listener.Cause.{Cause}
use Rattle.event_sinks.specs.declared.listener.Cause.TheVariants.{Last}
use Rattle.event_sinks.specs.declared.listener.Ended.{Ended}

-- ---- the calls that the seats kept

-- how many there are
abbrev pub calls_of : List SeatLog → ℕ
calls_of logs = sum_by (λ (l : SeatLog). length l.kept) logs

-- the sequence number of a kept call, counted from 1, is one of the whole journal. If it is above the cut's, its entry
-- is this call of the seat, with this reply. The entries are those since the cut
pub record IsInJournal (cut : ℕ) (entries : List Entry) (number : ℕ) (k : Kept) : Type 0 where
  pub low : 0 < k.place
  pub high : k.place ≤ cut + length entries
  pub entry : cut < k.place
      → slice_get entries (k.place - cut - 1) ≡ Some (record { caller = number; call = k.call; reply = k.reply })

abbrev pub places : SeatLog → List ℕ
places l = map (λ (k : Kept). k.place) l.kept

-- each kept call is in the journal, the sequence numbers of a seat ascend, and none is kept twice
pub record AreKept (cut : ℕ) (entries : List Entry) (logs : List SeatLog) : Type 0 where
  pub stand : All (λ l. All (IsInJournal cut entries l.number) l.kept) logs
  pub rise : All (λ l. AllPairs (λ j k. j < k) (places l)) logs
  pub once : AllPairs (λ j k. j ≢ k) (flat_map places logs)

-- the first seat, in the order handed in, with whose log this is no longer so
abbrev pub IsStray : ℕ → List Entry → List SeatLog → ℕ → Type 0
IsStray cut entries logs n =
    (before : List SeatLog) × (l : SeatLog) × (rest : List SeatLog) × (logs ≡ before ++ l ∷ rest)
    × AreKept cut entries before × (AreKept cut entries (before ++ l ∷ []) → ⊥) × (n ≡ l.number)

-- ---- the batches that the listeners were handed

-- what is asked of a listener that has ended: whose batches it took, why it ended, and the batches
pub record Outcome : Type 0 where
  pub instance : ℕ
  pub cause : Cause
  pub handed : List Batch

abbrev pub outcome_of : {S : Type 0} → Ended S → Outcome
outcome_of e = record { instance = e.intake.feed.instance; cause = e.cause; handed = e.intake.handed.items }

abbrev pub outcomes : {S : Type 0} → List (Ended S) → List Outcome
outcomes es = map outcome_of es

-- those of one instance, in the order handed in
abbrev pub of_instance : ℕ → List Outcome → List Outcome
of_instance n [] = []
of_instance n (e ∷ es) = if_same e.instance n (e ∷ []) ++ of_instance n es

-- the batches since the cut: their sequence numbers are above its own
abbrev pub since : ℕ → List Batch → List Batch
since cut bs = filter (λ (b : Batch). nat_lt cut b.place) bs

-- one listener ended for the pipe, by the end batch, and was handed the journal's batches, in order, each once, as far
-- as they are since the cut
abbrev pub IsServed : ℕ → List Batch → List Outcome → Type 0
IsServed cut batches es = (e : Outcome) × (es ≡ e ∷ []) × (e.cause ≡ Last) × (since cut e.handed ≡ batches)

-- what the entries of the book, which are those since the cut, hand to an instance
abbrev pub batches_of : BookContents → ℕ → List Batch
batches_of b n = handed_since b.state n

-- what the book's pipe of a number was sent
abbrev pub IsSentTo : BookContents → ℕ → List Batch → Type 0
IsSentTo b n bs = (k : ℕ) × (slice_get b.pipes k ≡ Some n) × (slice_get b.sent k ≡ Some bs)

-- a number is a pipe of the book, and was served, or it is none, and no listener ended for it
abbrev pub IsServedAt : BookContents → List Outcome → ℕ → Type 0
IsServedAt b es n =
    (IsIn b.pipes n × IsServed b.state.place (batches_of b n) (of_instance n es))
    ⊎ (Lacks b.pipes n × (of_instance n es ≡ []))

-- the sequence number of the first batch that is not the one handed at its index, or of the first one handed past the
-- end
abbrev pub Differs : List Batch → List Batch → ℕ → Type 0
Differs [] [] p = ⊥
Differs [] (h ∷ hs) p = p ≡ h.place
Differs (b ∷ bs) [] p = p ≡ b.place
Differs (b ∷ bs) (h ∷ hs) p = ((b ≡ h) × Differs bs hs p) ⊎ ((b ≢ h) × (p ≡ b.place))

-- no listener ended for the pipe, or the first one not by the end batch
abbrev pub IsUnended : List Outcome → Type 0
IsUnended [] = ⊤
IsUnended (e ∷ es) = e.cause ≢ Last

-- the first listener that ended for the pipe was handed other batches; or it was handed these, and there is a second
-- one, which is reported as sequence number 0
abbrev pub IsServedOtherwise : ℕ → List Batch → List Outcome → ℕ → Type 0
IsServedOtherwise cut batches [] p = ⊥
IsServedOtherwise cut batches (e ∷ es) p =
    (e.cause ≡ Last) × (Differs batches (since cut e.handed) p ⊎ ((since cut e.handed ≡ batches) × (es ≢ []) × (p ≡ 0)))

-- what is wrong with a number. A listener for a number that is no pipe of the book is reported as sequence number 0
abbrev pub IsFaultAt : BookContents → List Outcome → ℕ → SettleFault → Type 0
IsFaultAt b es n (NotEnded m) = (m ≡ n) × IsIn b.pipes n × IsUnended (of_instance n es)
IsFaultAt b es n (HandedDiffers m p) =
    (m ≡ n)
    × ((IsIn b.pipes n × IsServedOtherwise b.state.place (batches_of b n) (of_instance n es) p)
    ⊎ (Lacks b.pipes n × (of_instance n es ≢ []) × (p ≡ 0)))
IsFaultAt b es n _ = ⊥

-- what is wrong with the least number with which anything is
abbrev pub IsFirstFault : BookContents → List Outcome → SettleFault → Type 0
IsFirstFault b es f = (n : ℕ) × IsFaultAt b es n f × ((m : ℕ) → m < n → IsServedAt b es m)

-- ---- the whole

-- the book, the logs and the listeners agree: the journal has as many entries as the seats kept calls; each kept call
-- is the entry of its sequence number, in ascending order in each seat, and none is kept twice; and each pipe was
-- served
pub record IsAudited (b : BookContents) (logs : List SeatLog) (es : List Outcome) : Type 0 where
  pub counted : b.entries ≡ calls_of logs
  pub kept : AreKept b.state.place b.state.entries logs
  pub served : (n : ℕ) → IsServedAt b es n

-- the fault is the first that holds: the counts, then the logs, then the numbers. More calls than a u64 holds are
-- reported as its greatest value
abbrev pub IsFault : BookContents → List SeatLog → List Outcome → SettleFault → Type 0
IsFault b logs es Memory = ⊤
IsFault b logs es (CountDiffers entries calls) =
    (b.entries ≢ calls_of logs) × (entries ≡ b.entries) × (calls ≡ min (calls_of logs) 18446744073709551615)
IsFault b logs es (Stray n) = (b.entries ≡ calls_of logs) × IsStray b.state.place b.state.entries logs n
IsFault b logs es f = (b.entries ≡ calls_of logs) × AreKept b.state.place b.state.entries logs × IsFirstFault b es f

-- the result of settling: all agree, and the result has their numbers of entries and calls; or this is the first fault
-- that holds
abbrev pub Settles : BookContents → List SeatLog → List Outcome → Result Settled SettleFault → Type 0
Settles b logs es (Ok s) = IsAudited b logs es × (s.entries ≡ b.entries) × (s.calls ≡ b.entries)
Settles b logs es (Err f) = IsFault b logs es f

-- ---- laws of the whole

-- if the book, the logs and the listeners agree, no fault but out of memory holds of them
abbrev pub FaultsContradictTheAudit : Type 0
FaultsContradictTheAudit =
    (b : BookContents) (logs : List SeatLog) (es : List Outcome) (f : SettleFault) → IsFault b logs es f → f ≢ Memory
    → IsAudited b logs es → ⊥

-- if they agree, each sequence number of the journal was kept by exactly one call
abbrev pub AuditsAgree : Type 0
AuditsAgree =
    (b : BookContents) (logs : List SeatLog) (es : List Outcome) → b.entries ≡ last_place b.state → IsAudited b logs es
    → (p : ℕ) → 0 < p → p ≤ b.entries → count_by (λ q. q == p) (flat_map places logs) ≡ 1

-- if the first listener that ended for a pipe was handed a prefix of what the pipe was sent, and the prefix ends with
-- an end batch, it was handed all of it: it never differs at a sequence number above 0
abbrev pub FrontsAreWhole : Type 0
FrontsAreWhole =
    (b : BookContents) (es more : List Outcome) (e : Outcome) (n p : ℕ) (before rest : List Batch) (last : Batch)
    → IsSent b.state b.pipes b.sent → of_instance n es ≡ e ∷ more → e.handed ≡ before ++ last ∷ [] → last.records ≡ []
    → IsSentTo b n (e.handed ++ rest)
    → IsFaultAt b es n (HandedDiffers n p) → p ≡ 0
