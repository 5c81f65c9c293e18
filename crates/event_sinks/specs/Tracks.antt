-- What is known of each instance while batches are compared with the journal. No public clause cites this module.
use Rattle.std.specs.Prelude.{◌≡◌, ◌≢◌, ⊤, ℕ, Bool, true, false, List, [], ◌∷◌, ◌++◌, Option, Some, None, drop}
use Rattle.std.specs.Prelude.{slice_get}
use Rattle.std.specs.BTreeMap as tree
use Rattle.std.specs.BTreeMap.{BTreeMap}
use Rattle.std.specs.Ordering.{nat_cmp}
use Rattle.record_codec.specs.Records.{AreEvents, spelling}
use Rattle.tree_core.specs.declared.call.Call.{Call}
use Rattle.tree_core.specs.declared.call.Call.TheVariants as call
use Rattle.tree_core.specs.declared.reply.Entry.{Entry}
use Rattle.tree_core.specs.declared.reply.Reply.{Reply}
use Rattle.tree_core.specs.declared.reply.Reply.TheVariants as reply
use Rattle.shared_tree.specs.declared.pipe.Batch.{Batch}
use Rattle.shared_tree.specs.Calls.{BookContents}
use Rattle.shared_tree.specs.Handed.{hands}
use Rattle.shared_tree.specs.Pipes.{IsIn, Lacks}
use Rattle.event_sinks.specs.declared.listener.Cause.TheVariants.{Last}
use Rattle.event_sinks.specs.declared.served.Progress.{Progress}
use Rattle.event_sinks.specs.declared.served.Track.{Track}
use Rattle.event_sinks.specs.Audited.{Outcome, Differs, batches_of, of_instance, since}

-- ---- what an entry hands over

-- the number of the instance, and the bytes of the records: the end batch has none
abbrev pub given_by : Call → Reply → Option (ℕ × List ℕ)
given_by (call.Pump id most) (reply.Records bytes) = Some (id, bytes)
given_by (call.Close id) reply.Done = Some (id, [])
given_by _ _ = None

-- a batch has this instance, this sequence number, and the events that these bytes spell
pub record IsSpelled (b : Batch) (instance place : ℕ) (bytes : List ℕ) : Type 0 where
  pub instance_is : b.instance ≡ instance
  pub place_is : b.place ≡ place
  pub bytes_are : bytes ≡ spelling b.records
  pub events : AreEvents b.records

-- the entry of a sequence number hands this batch over, or none
abbrev pub HandsOver : Entry → ℕ → Option Batch → Type 0
HandsOver e place None = given_by e.call e.reply ≡ None
HandsOver e place (Some b) =
    (bytes : List ℕ) × (given_by e.call e.reply ≡ Some (b.instance, bytes)) × IsSpelled b b.instance place bytes

-- ---- batches compared, as far as they are known

-- the batches are those that were handed; or they differ first at this sequence number
abbrev pub IsDifference : List Batch → List Batch → Option ℕ → Type 0
IsDifference batches handed None = handed ≡ batches
IsDifference batches handed (Some p) = Differs batches handed p

-- what comes of a comparison, once the rest of the batches is handed over
abbrev pub ComesBy : Option ℕ → List Batch → List Batch → Option ℕ → Type 0
ComesBy None left handed o = IsDifference left handed o
ComesBy (Some p) left handed o = o ≡ Some p

abbrev pub Comes : ℕ → List Batch → List Batch → Progress → Option ℕ → Type 0
Comes cut left handed p o = ComesBy p.differs left (since cut (drop p.taken handed)) o

-- nothing is compared yet
abbrev pub start : Progress
start = record { taken = 0; differs = None }

-- what comes of the progress after batches were handed over comes of the one before them
abbrev pub Follows : ℕ → List Batch → List Batch → Progress → Progress → Type 0
Follows cut handed bs old new =
    (left : List Batch) (o : Option ℕ) → Comes cut left handed new o → Comes cut (bs ++ left) handed old o

-- ---- what is known of the instance of a number

-- the track of a number, if it has one
abbrev pub track_at : BTreeMap ℕ Track → ℕ → Option Track
track_at m n = tree.get nat_cmp m n

-- the batches of the listener at an index, and whether it ended by the end batch
abbrev pub handed_of : Option Outcome → List Batch
handed_of None = []
handed_of (Some e) = e.handed

abbrev pub handed_at : List Outcome → Option ℕ → List Batch
handed_at es None = []
handed_at es (Some i) = handed_of (slice_get es i)

abbrev pub EndsLast : Option Outcome → Type 0
EndsLast None = ⊥
EndsLast (Some e) = e.cause ≡ Last

abbrev pub EndsLastAt : List Outcome → Option ℕ → Type 0
EndsLastAt es None = ⊥
EndsLastAt es (Some i) = EndsLast (slice_get es i)

-- the track of an instance for which no listener is known yet
abbrev pub blank : Bool → Track
blank is_piped = record { is_piped = is_piped; first = None; is_again = false; progress = start }

-- one more listener, at this index
abbrev pub noted_in : ℕ → Track → Option ℕ → Track
noted_in i t None = record t { first = Some i }
noted_in i t (Some j) = record t { is_again = true }

abbrev pub noted : ℕ → Option Track → Track
noted i None = record (blank false) { first = Some i }
noted i (Some t) = noted_in i t t.first

abbrev pub IsPiped : List ℕ → ℕ → Bool → Type 0
IsPiped pipes n true = IsIn pipes n
IsPiped pipes n false = Lacks pipes n

abbrev pub is_any : List Outcome → Bool
is_any [] = false
is_any (e ∷ es) = true

-- the first of the listeners that were found has this index among all, and there are more, or not
abbrev pub IsFirst : List Outcome → List Outcome → Option ℕ → Bool → Type 0
IsFirst es [] None again = again ≡ false
IsFirst es [] (Some i) again = ⊥
IsFirst es (e ∷ found) None again = ⊥
IsFirst es (e ∷ found) (Some i) again = (slice_get es i ≡ Some e) × (again ≡ is_any found)

-- what is known of a number, where these listeners were found for it
abbrev pub IsNoted : List ℕ → List Outcome → List Outcome → ℕ → Option Track → Type 0
IsNoted pipes es found n None = Lacks pipes n × (found ≡ [])
IsNoted pipes es found n (Some t) =
    IsPiped pipes n t.is_piped × IsFirst es found t.first t.is_again × (t.is_piped ≡ false → found ≢ [])

-- what the rest comes to is the answer for all batches of the number
abbrev pub Tells : BookContents → List Outcome → List Batch → ℕ → Option Track → Type 0
Tells b es left n None = ⊤
Tells b es left n (Some t) =
    (o : Option ℕ) → Comes b.state.place left (handed_at es t.first) t.progress o
    → IsDifference (batches_of b n) (since b.state.place (handed_at es t.first)) o

-- what is known of a number while these batches are still to be handed to it
pub record IsTracked (b : BookContents) (es : List Outcome) (left : List Batch) (n : ℕ)
    (o : Option Track) : Type 0 where
  pub is_noted : IsNoted b.pipes es (of_instance n es) n o
  pub tells : Tells b es left n o

-- what becomes of a track as batches are handed over
abbrev pub Goes : ℕ → List Outcome → List Batch → Option Track → Option Track → Type 0
Goes cut es bs None new = new ≡ None
Goes cut es bs (Some t) new =
    (p : Progress) × (new ≡ Some (record t { progress = p })) × Follows cut (handed_at es t.first) bs t.progress p

-- what becomes of each number's, where an entry hands this batch over
abbrev pub HandsOn : ℕ → List Outcome → Option Batch → BTreeMap ℕ Track → BTreeMap ℕ Track → Type 0
HandsOn cut es o old new = (n : ℕ) → Goes cut es (hands o n) (track_at old n) (track_at new n)
