-- What is known of each number as the journal is passed over.
use Rattle.std.proofs.Common.{◌≡◌, ◌≢◌, ℕ, ◌+◌, ◌<◌, List, [], ◌∷◌, ◌++◌, length, get_or, drop, Option, Some, None}
use Rattle.std.proofs.Common.{option_map, true, cond, eqb, refl, sym, ap, ◌∙◌, subst}
use Rattle.std.proofs.lemmas.Bool.{eq-eqb}
use Rattle.std.proofs.lemmas.List.{drop_more}
use Rattle.record_codec.specs.declared.event.Event.{Event}
use Rattle.record_codec.specs.Records.{AreEvents, spelling}
use Rattle.tree_core.specs.declared.call.Call.{Call}
use Rattle.tree_core.specs.declared.call.Call.TheVariants as call
use Rattle.tree_core.specs.declared.reply.Entry.{Entry}
use Rattle.tree_core.specs.declared.reply.Reply.{Reply}
use Rattle.tree_core.specs.declared.reply.Reply.TheVariants as reply
use Rattle.tree_core.specs.Histories.{read_by}
use Rattle.tree_core.specs.Tree.{Tree, after, reply_of}
use Rattle.tree_core.specs.Journal.{IsLawfulFrom}
use Rattle.tree_core.proofs.Parts.{where_records}
use Rattle.shared_tree.specs.declared.pipe.Batch.{Batch}
use Rattle.shared_tree.specs.Calls.{BookContents}
use Rattle.shared_tree.specs.Handed.{AreOfEvents, BatchesAreAnswered, batch, handed_by, handed_from, handed_since, hands}
use Rattle.shared_tree.specs.Held.{where_done}
use Rattle.shared_tree.proofs.Answered.{handed-close, handed-pump}
use Rattle.event_sinks.specs.declared.served.Track.{Track}
use Rattle.event_sinks.specs.Audited.{Outcome, batches_of}
use Rattle.event_sinks.specs.Tracks.{Goes, HandsOver, IsSpelled, IsTracked, given_by}

-- ---- what an entry hands over

none-pump : (id most place : ℕ) (r : Reply) (es : List Event) → option_map (batch id place) (where_records r es) ≡ None → given_by (call.Pump id most) r ≡ None
none-pump id most place (reply.Records bytes) es e = absurd (cc)
none-pump id most place reply.Done es e = refl
none-pump id most place (reply.File a) es e = refl
none-pump id most place (reply.Instance n) es e = refl
none-pump id most place (reply.Wd wd) es e = refl
none-pump id most place (reply.Refused why) es e = refl

none-close : (id place : ℕ) (r : Reply) → where_done r (batch id place []) ≡ None → given_by (call.Close id) r ≡ None
none-close id place reply.Done e = absurd (cc)
none-close id place (reply.Records bytes) e = refl
none-close id place (reply.File a) e = refl
none-close id place (reply.Instance n) e = refl
none-close id place (reply.Wd wd) e = refl
none-close id place (reply.Refused why) e = refl

none-given : (t : Tree) (place : ℕ) (c : Call) → handed_by t place c ≡ None → given_by c (reply_of t c) ≡ None
none-given t place (call.File f) e = refl
none-given t place (call.Init limit piped) e = refl
none-given t place (call.AddWatch id path mask) e = refl
none-given t place (call.RmWatch id wd) e = refl
none-given t place (call.Read id bytes) e = refl
none-given t place (call.Pump id most) e =
    none-pump id most place (reply_of t (call.Pump id most)) (read_by t (call.Pump id most) id) (sym (handed-pump t place id most) ∙ e)
none-given t place (call.Close id) e = none-close id place (reply_of t (call.Close id)) (sym (handed-close t place id) ∙ e)

-- what an accepted pump or a close hands over is given by its answer
module _ (answered : BatchesAreAnswered) (t : Tree) (place : ℕ) (b : Batch) (events : AreEvents b.records) where
  some-given : (c : Call) → handed_by t place c ≡ Some b
      → (bytes : List ℕ) × (given_by c (reply_of t c) ≡ Some (b.instance, bytes)) × IsSpelled b b.instance place bytes
  some-given (call.File f) e = absurd (answered t place (call.File f) b e).1
  some-given (call.Init limit piped) e = absurd (answered t place (call.Init limit piped) b e).1
  some-given (call.AddWatch id path mask) e = absurd (answered t place (call.AddWatch id path mask) b e).1
  some-given (call.RmWatch id wd) e = absurd (answered t place (call.RmWatch id wd) b e).1
  some-given (call.Read id bytes) e = absurd (answered t place (call.Read id bytes) b e).1
  some-given (call.Pump id most) e =
      let h = answered t place (call.Pump id most) b e in (
        spelling b.records,
        ap (given_by (call.Pump id most)) h.1.1 ∙ ap (λ (i : ℕ). Some (i, spelling b.records)) (sym h.1.0),
        record { instance_is = refl; place_is = h.0; bytes_are = refl; events = events },
      )
  some-given (call.Close id) e =
      let h = answered t place (call.Close id) b e in
      let none : List ℕ = [] in (
        none,
        ap (given_by (call.Close id)) h.1.2 ∙ ap (λ (i : ℕ). Some (i, none)) (sym h.1.0),
        record { instance_is = refl; place_is = h.0; bytes_are = sym (ap spelling h.1.1); events = events },
      )

hands_over : (t : Tree) (place : ℕ) (e : Entry) (o : Option Batch) → BatchesAreAnswered → e.reply ≡ reply_of t e.call
    → handed_by t place e.call ≡ o → ((b : Batch) → o ≡ Some b → AreEvents b.records) → HandsOver e place o
hands_over t place e None answered says is events = ap (given_by e.call) says ∙ none-given t place e.call is
hands_over t place e (Some b) answered says is events =
    let h = some-given answered t place b (events b refl) e.call is in (h.0, ap (given_by e.call) says ∙ h.1, h.2)

-- ---- what was handed are events

hands_own : (b : Batch) → hands (Some b) b.instance ≡ b ∷ []
hands_own b = ap (λ (t : Rattle.std.proofs.Common.Bool). cond t (b ∷ []) []) (eq-eqb b.instance b.instance refl)

first_events : (o : Option Batch) (b : Batch) (rest : List Batch) → o ≡ Some b → AreOfEvents (hands o b.instance ++ rest) → AreEvents b.records
first_events o b rest is h =
    let k : AreOfEvents ((b ∷ []) ++ rest) =
    subst (λ (xs : List Batch). AreOfEvents (xs ++ rest))
    (ap (λ (x : Option Batch). hands x b.instance) is ∙ hands_own b) h in
    k.0

rest_events : (bs rest : List Batch) → AreOfEvents (bs ++ rest) → AreOfEvents rest
rest_events [] rest h = h
rest_events (b ∷ bs) rest h = rest_events bs rest h.1

-- ---- the tracks

goes_on : (b : BookContents) (es : List Outcome) (n : ℕ) (bs left : List Batch) (old new : Option Track)
    → IsTracked b es (bs ++ left) n old → Goes b.state.place es bs old new → IsTracked b es left n new
goes_on b es n bs left None new h g = subst (IsTracked b es left n) (sym g) (record { is_noted = h.is_noted; tells = tt })
goes_on b es n bs left (Some t) new h g =
    subst (IsTracked b es left n) (sym g.1) (record { is_noted = h.is_noted; tells = λ o c. h.tells o (g.2 left o c) })

-- these entries are left, from a tree on, after this sequence number
pub record IsPassed (b : BookContents) (es : List Outcome) (t : Tree) (passed : ℕ) (left : List Entry) (track : ℕ → Option Track) : Type 0 where
  pub lawful : IsLawfulFrom t left
  pub events : (n : ℕ) → AreOfEvents (handed_from t (passed + 1) left n)
  pub tracked : (n : ℕ) → IsTracked b es (handed_from t (passed + 1) left n) n (track n)

pub passed_none : (b : BookContents) (es : List Outcome) (track : ℕ → Option Track)
    → IsLawfulFrom b.state.start b.state.entries → ((n : ℕ) → AreOfEvents (batches_of b n))
    → ((n : ℕ) → IsTracked b es (batches_of b n) n (track n))
    → IsPassed b es b.state.start b.state.place b.state.entries track
unfolding handed_since
passed_none b es track lawful events tracked = record { lawful = lawful; events = events; tracked = tracked }

module _ (answered : BatchesAreAnswered) (b : BookContents) (es : List Outcome) (t : Tree) (passed : ℕ) (e : Entry) (old new : ℕ → Option Track) where
  passed_on : (left : List Entry) → IsPassed b es t passed (e ∷ left) old
      → ((o : Option Batch) → HandsOver e (passed + 1) o → (n : ℕ) → Goes b.state.place es (hands o n) (old n) (new n))
      → IsPassed b es (after t e.call) (passed + 1) left new
  passed_on left h goes =
      let o : Option Batch = handed_by t (passed + 1) e.call in
      let over = hands_over t (passed + 1) e o answered h.lawful.0 refl (λ x is. first_events o x _ is (h.events x.instance)) in
      record {
        lawful = h.lawful.1;
        events = λ n. rest_events (hands o n) _ (h.events n);
        tracked = λ n. goes_on b es n (hands o n) _ (old n) (new n) (h.tracked n) (goes o over n);
      }

  pub passed_more : (entries : List Entry) (i next : ℕ) → i < length entries → e ≡ get_or entries i e
      → next ≡ passed + 1 → IsPassed b es t passed (drop i entries) old
      → ((o : Option Batch) → HandsOver e next o → (n : ℕ) → Goes b.state.place es (hands o n) (old n) (new n))
      → IsPassed b es (after t e.call) next (drop (i + 1) entries) new
  passed_more entries i next within is more h goes =
      let rest : drop i entries ≡ e ∷ drop (i + 1) entries = drop_more entries i e within ∙ ap (λ (x : Entry). x ∷ drop (i + 1) entries) (sym is) in
      let Given : ℕ → Type 0 = λ k. (o : Option Batch) → HandsOver e k o → (n : ℕ) → Goes b.state.place es (hands o n) (old n) (new n) in
      subst (λ k. IsPassed b es (after t e.call) k (drop (i + 1) entries) new) (sym more)
      (passed_on (drop (i + 1) entries) (subst (λ (xs : List Entry). IsPassed b es t passed xs old) rest h) (subst Given more goes))
