-- What the locked value keeps of a journal that was cut, by the whole journal.
use Rattle.std.proofs.Common.{◌≡◌, ℕ, ◌+◌, ◌<◌, ◌≤◌, Bool, true, false, cond, eqb, List, [], ◌∷◌, ◌++◌, length, map}
use Rattle.std.proofs.Common.{Option, Some, None, option_map, Result, Ok, Err, refl, sym, ap, subst, ◌∙◌, arith}
use Rattle.std.proofs.Common.{append-nil, append_assoc, length-append}
use Rattle.std.specs.List.{AllByRecursion}
use Rattle.std.specs.Prelude.{IfSome, IsTrue, OnErr, OnOk}
use Rattle.tree_paths.specs.declared.refusal.Refusal.{Refusal}
use Rattle.tree_paths.specs.declared.refusal.Refusal.TheVariants.{PipeFull}
use Rattle.record_codec.specs.declared.event.Event.{Event}
use Rattle.record_codec.specs.Records.{AreEvents}
use Rattle.tree_paths.specs.declared.limits.Limits.{Limits}
use Rattle.instance_table.specs.Instances.{instance_of}
use Rattle.tree_core.specs.declared.call.Call.{Call}
use Rattle.tree_core.specs.declared.call.Call.TheVariants as call
use Rattle.tree_core.specs.declared.reply.Entry.{Entry}
use Rattle.tree_core.specs.declared.reply.Receipt.{Receipt}
use Rattle.tree_core.specs.declared.reply.Reply.TheVariants as reply
use Rattle.tree_core.specs.Calls.{is_plain}
use Rattle.tree_core.specs.CutLaws.{PastsMakeWhole}
use Rattle.tree_core.specs.Histories.{pumped}
use Rattle.tree_core.specs.Journal.{Journaled, IsLawful, IsLawfulFrom, IsPast, cut_off, last_place, now, opened, stands_for, tree_after, with_entry}
use Rattle.tree_core.specs.Tree.{Tree, opening, reply_of, after}
use Rattle.tree_core.proofs.Lawful.{limits-now, tree_after-append}
use Rattle.shared_tree.specs.declared.pipe.Batch.{Batch}
use Rattle.shared_tree.specs.Calls.{JoinsJournal, HandsOver, TreeWithPipes, IsForPipe, IsSent, RefusalOf, tree_with_pipes}
use Rattle.shared_tree.specs.Handed.{AreOfEvents, batch, handed, handed_by, handed_from, handed_since, hands, piped_by, CutsPartBatches, deliver}
use Rattle.shared_tree.specs.Held.{IsFilled, IsHeld, IsHeldWhole, Rises, closed_of, end_of, whole}
use Rattle.shared_tree.specs.Law.{HasPipesOfPiped}
use Rattle.shared_tree.specs.Seats.{Seated}
use Rattle.shared_tree.proofs.Unable.{why-full}
use Rattle.shared_tree.proofs.Answered.{answered}
use Rattle.shared_tree.proofs.Ends.{below-opening, ends-last, gone-from}
use Rattle.shared_tree.proofs.Keeping as keeping
use Rattle.shared_tree.proofs.Keeping.{deliver-none, held-length}
use Rattle.shared_tree.proofs.Steps.{Told, end_of-handed, plain-makes-none}

-- ---- a state and its past

module _ (s : Journaled) (past : List Entry) (is : IsPast s.start s.place past) where
  pub now-whole : now (whole s past) ≡ now s
  unfolding now stands_for
  now-whole = tree_after-append (opening s.start.limits) past s.entries ∙ ap (λ t. tree_after t s.entries) is.leads

  pub last-whole : last_place (whole s past) ≡ last_place s
  last-whole = let more = length-append past s.entries in omega (arith, more, is.places)

past-entry : (s longer : Journaled) (e : Entry) (past : List Entry) → longer ≡ with_entry s e
    → IsPast s.start s.place past → IsPast longer.start longer.place past
past-entry s longer e past more is = subst (λ (j : Journaled). IsPast j.start j.place past) (sym more) is

-- a call enters the whole journal as it enters what is kept of it
JoinsJournal-whole : (s longer : Journaled) (past : List Entry) (seat left : Seated) (c : Call) (r : Receipt)
    → IsPast s.start s.place past → JoinsJournal s seat c longer left r
    → JoinsJournal (whole s past) seat c (whole longer past) left r
JoinsJournal-whole s longer past seat left c r is enters =
    let e : Entry = record { caller = seat.number; call = c; reply = r.reply } in
    record {
      entry =
          ap (λ j. whole j past) enters.entry
          ∙ (λ i.
          record {
            start = opening s.start.limits;
            place = 0;
            entries = sym (append_assoc past s.entries (e ∷ [])) i;
          });
      reply = enters.reply ∙ ap (λ t. reply_of t c) (sym (now-whole s past is));
      place = enters.place ∙ sym (last-whole longer past (past-entry s longer e past enters.entry is));
      kept = enters.kept;
    }

-- ---- the locked value

no-past : (limits : Limits) → IsPast (opening limits) 0 []
unfolding stands_for IsLawful opening
no-past limits = record { lawful = tt; places = refl; leads = refl }

pub held-new : (limits : Limits) → IsHeld (opened limits) [] [] 0
unfolding opening
held-new limits = record { past = []; is_past = no-past limits; held = keeping.held-new limits }

module _ (tells : Told) (s longer : Journaled) (seat left : Seated) (r : Receipt) (ns : List ℕ)
    (xss : List (List Batch)) (total more : ℕ) (held : IsHeld s ns xss total) where
  pub held-call : (c : Call) (closed : Option ℕ) (o : Option Batch) → JoinsJournal s seat c longer left r
      → IsTrue (is_plain c) → more ≡ total + 1 → closed ≡ closed_of c → o ≡ end_of closed r.place r.reply
      → IsHeld longer ns (deliver o ns xss) more
  held-call c closed o enters plain one shut is = record {
    past = held.past;
    is_past = past-entry s longer _ held.past enters.entry held.is_past;
    held =
        keeping.held-call tells (whole s held.past) (whole longer held.past) seat left c r ns xss total more closed o
        held.held (JoinsJournal-whole s longer held.past seat left c r held.is_past enters) plain one shut is;
  }

  pub held-pump : (id bytes : ℕ) (rs : Option (List Event)) (o : Option Batch)
      → JoinsJournal s seat (call.Pump id bytes) longer left r → more ≡ total + 1 → rs ≡ pumped (now s) id bytes
      → IfSome rs AreEvents → o ≡ option_map (batch id r.place) rs
      → IsHeld longer ns (deliver o ns xss) more
  held-pump id bytes rs o enters one given events is = record {
    past = held.past;
    is_past = past-entry s longer _ held.past enters.entry held.is_past;
    held =
        keeping.held-pump tells (whole s held.past) (whole longer held.past) seat left id bytes r ns xss total more rs o
        held.held (JoinsJournal-whole s longer held.past seat left (call.Pump id bytes) r held.is_past enters) one
        (given ∙ ap (λ t. pumped t id bytes) (sym (now-whole s held.past held.is_past))) events is;
  }

  pub held-open : (limit : ℕ) → JoinsJournal s seat (call.Init limit true) longer left r → more ≡ total + 1
      → IsHeld longer (ns ++ piped_by (call.Init limit true) r.reply)
      (xss ++ map (λ (id : ℕ). []) (piped_by (call.Init limit true) r.reply)) more
  held-open limit enters one = record {
    past = held.past;
    is_past = past-entry s longer _ held.past enters.entry held.is_past;
    held =
        keeping.held-open tells (whole s held.past) (whole longer held.past) seat left limit r ns xss total more
        held.held (JoinsJournal-whole s longer held.past seat left (call.Init limit true) r held.is_past enters)
        one;
  }

module _ (s : Journaled) (ns : List ℕ) (total : ℕ) where
  pub pump-full : (xss : List (List Batch)) (id bytes : ℕ) → IsHeld s ns xss total → IsFilled ns (now s) (Some id) → IsForPipe (now s) (call.Pump id bytes)
  pump-full xss id bytes held filled =
      let same = now-whole s held.past held.is_past in
      subst (λ t. IsForPipe t (call.Pump id bytes)) same
      (keeping.pump-full (whole s held.past) ns xss total id bytes held.held
      (subst (λ t. IsFilled ns t (Some id)) (sym same) filled))

  pub close-full : (xss : List (List Batch)) (c : Call) → IsHeld s ns xss total → IsFilled ns (now s) (closed_of c) → IsForPipe (now s) c
  close-full xss c held filled =
      let same = now-whole s held.past held.is_past in
      subst (λ t. IsForPipe t c) same
      (keeping.close-full (whole s held.past) ns xss total c held.held
      (subst (λ t. IsFilled ns t (closed_of c)) (sym same) filled))

  pub held-sends : (xss : List (List Batch)) → IsHeld s ns xss total → IsSent s ns xss
  unfolding handed handed_since
  held-sends xss held = record { past = held.past; is_past = held.is_past; pipes_are = held.held.piped; sent_are = held.held.pushed }

pub held-lengths : (s : Journaled) (ns : List ℕ) (xss : List (List Batch)) (total : ℕ) → IsHeld s ns xss total → length ns ≡ length xss
held-lengths s ns xss total held = held-length (whole s held.past) ns xss total held.held

-- the number of an instance that is made is above those of all pipes
pub held-next : Told
    → (s longer : Journaled) (seat left : Seated) (r : Receipt) (ns : List ℕ) (xss : List (List Batch))
    (total limit id : ℕ)
    → IsHeld s ns xss total → JoinsJournal s seat (call.Init limit true) longer left r → r.reply ≡ reply.Instance id
    → Rises 1 ns id
held-next tells s longer seat left r ns xss total limit id held enters is =
    let next : id ≡ (now s).next_id = (tells (now s) (call.Init limit true)).opened id (sym enters.reply ∙ is) in
    subst (Rises 1 ns) (ap (λ (t : Tree). t.next_id) (now-whole s held.past held.is_past) ∙ sym next) held.held.rises

pub held-counted : (s : Journaled) (ns : List ℕ) (xss : List (List Batch)) (total : ℕ) → IsHeld s ns xss total → total ≡ last_place s
held-counted s ns xss total held = held.held.counted ∙ last-whole s held.past held.is_past

pub held-pipes-of-piped : (s : Journaled) (ns : List ℕ) (xss : List (List Batch)) (total : ℕ) → IsHeld s ns xss total
    → HasPipesOfPiped (tree_with_pipes s ns xss total)
held-pipes-of-piped s ns xss total held = λ id i at. held.held.with_pipe id i (ap (λ t. instance_of t.instances id) (now-whole s held.past held.is_past) ∙ at)

-- ---- a cut

-- what was cut off before and now leads to the tree at the new cut
past-cut : PastsMakeWhole → (s : Journaled) (past : List Entry) → IsPast s.start s.place past
    → IsLawfulFrom s.start s.entries → IsPast (now s) (last_place s) (past ++ s.entries)
past-cut law s past is lawful =
    let all = law s past is lawful in
    let limits = limits-now s in
    record {
      lawful = subst (λ l. IsLawful l (past ++ s.entries)) (sym limits) all.lawful;
      places = all.places;
      leads = ap (λ l. stands_for l (past ++ s.entries)) limits ∙ all.leads;
    }

pub held-cut : PastsMakeWhole → (s : Journaled) (ns : List ℕ) (xss : List (List Batch)) (total : ℕ)
    → IsLawfulFrom s.start s.entries → IsHeld s ns xss total → IsHeld (cut_off s) ns xss total
held-cut law s ns xss total lawful held =
    let same : whole s held.past ≡ whole (cut_off s) (held.past ++ s.entries) =
    λ i. record { start = opening (sym (limits-now s) i); place = 0; entries = sym (append-nil (held.past ++ s.entries)) i } in
    record {
      past = held.past ++ s.entries;
      is_past = past-cut law s held.past held.is_past lawful;
      held = subst (λ j. IsHeldWhole j ns xss total) same held.held;
    }

pub held-cut-either : PastsMakeWhole
    → (s new : Journaled) (ns : List ℕ) (xss : List (List Batch)) (total : ℕ) (result : Result ℕ Refusal)
    → IsLawfulFrom s.start s.entries → IsHeld s ns xss total → OnOk result (new ≡ cut_off s) → OnErr result (new ≡ s)
    → IsHeld new ns xss total
held-cut-either law s new ns xss total (Ok place) lawful held done same =
    subst (λ j. IsHeld j ns xss total) (sym done) (held-cut law s ns xss total lawful held)
held-cut-either law s new ns xss total (Err e) lawful held done same = subst (λ j. IsHeld j ns xss total) (sym same) held

-- ---- why a call is not carried out

pub pump-why : (s : Journaled) (ns : List ℕ) (xss : List (List Batch)) (total id bytes : ℕ) (e : Refusal)
    → IsHeld s ns xss total → (e ≡ PipeFull) × IsFilled ns (now s) (Some id) → RefusalOf s (call.Pump id bytes) e
pump-why s ns xss total id bytes e held full = why-full s (call.Pump id bytes) e full.0 (pump-full s ns total xss id bytes held full.1)

pub close-why : (s : Journaled) (ns : List ℕ) (xss : List (List Batch)) (total : ℕ) (c : Call) (closed : Option ℕ)
    (e : Refusal)
    → IsHeld s ns xss total → closed ≡ closed_of c → (e ≡ PipeFull) × IsFilled ns (now s) closed → RefusalOf s c e
close-why s ns xss total c closed e held shut full = why-full s c e full.0 (close-full s ns total xss c held (subst (IsFilled ns (now s)) shut full.1))

-- ---- what was handed before the cut, and since

handed_from-append : (t : Tree) (place : ℕ) (es fs : List Entry) (id : ℕ)
    → handed_from t place (es ++ fs) id
    ≡ handed_from t place es id ++ handed_from (tree_after t es) (place + length es) fs id
handed_from-append t place [] fs id = ap (λ p. handed_from t p fs id) (omega arith)
handed_from-append t place (e ∷ es) fs id =
    ap (λ bs. hands (handed_by t place e.call) id ++ bs)
    (handed_from-append (after t e.call) (place + 1) es fs id
    ∙ ap
    (λ p.
    handed_from (after t e.call) (place + 1) es id ++ handed_from (tree_after (after t e.call) es) p fs id)
    (omega arith))
    ∙ sym
    (append_assoc (hands (handed_by t place e.call) id) (handed_from (after t e.call) (place + 1) es id)
    (handed_from (tree_after (after t e.call) es) (place + length (e ∷ es)) fs id))

abbrev IsBetween : ℕ → ℕ → Batch → Type 0
IsBetween low high b = (low ≤ b.place) × (b.place < high)

all-both : (P : Batch → Type 0) (bs cs : List Batch) → AllByRecursion P bs → AllByRecursion P cs → AllByRecursion P (bs ++ cs)
all-both P [] cs h g = g
all-both P (b ∷ bs) cs h g = (h.0, all-both P bs cs h.1 g)

all-weaker : (P Q : Batch → Type 0) → ((b : Batch) → P b → Q b) → (bs : List Batch) → AllByRecursion P bs → AllByRecursion Q bs
all-weaker P Q f [] h = tt
all-weaker P Q f (b ∷ bs) h = (f b h.0, all-weaker P Q f bs h.1)

all-right : (P : Batch → Type 0) (bs cs : List Batch) → AllByRecursion P (bs ++ cs) → AllByRecursion P cs
all-right P [] cs h = h
all-right P (b ∷ bs) cs h = all-right P bs cs h.1

hands-at : (t : Tree) (place : ℕ) (c : Call) (id : ℕ) (high : ℕ) → place < high → AllByRecursion (IsBetween place high) (hands (handed_by t place c) id)
hands-at t place c id high below = by (handed_by t place c) refl
  where
    by : (o : Option Batch) → handed_by t place c ≡ o → AllByRecursion (IsBetween place high) (hands o id)
    by None e = tt
    by (Some b) e = pick (eqb b.instance id)
      where
        pick : (x : Bool) → AllByRecursion (IsBetween place high) (cond x (b ∷ []) [])
        pick true = let at = (answered t place c b e).0 in ((omega (arith, at), omega (arith, at, below)), tt)
        pick false = tt

-- the batches of entries have the sequence numbers of these entries
places-from : (t : Tree) (place : ℕ) (es : List Entry) (id : ℕ) → AllByRecursion (IsBetween place (place + length es)) (handed_from t place es id)
places-from t place [] id = tt
places-from t place (e ∷ es) id =
    all-both (IsBetween place (place + length (e ∷ es))) (hands (handed_by t place e.call) id)
    (handed_from (after t e.call) (place + 1) es id)
    (hands-at t place e.call id (place + length (e ∷ es)) (omega arith))
    (all-weaker (IsBetween (place + 1) (place + 1 + length es)) (IsBetween place (place + length (e ∷ es)))
    (λ b h. (omega (arith, h.0), omega (arith, h.1))) (handed_from (after t e.call) (place + 1) es id)
    (places-from (after t e.call) (place + 1) es id))

parted-is : (s : Journaled) (past : List Entry) (id : ℕ) → IsPast s.start s.place past
    → handed s.start.limits (past ++ s.entries) id ≡ handed s.start.limits past id ++ handed_since s id
unfolding handed handed_since stands_for
parted-is s past id is =
    let t = opening s.start.limits in
    handed_from-append t 1 past s.entries id
    ∙ (λ i. handed_from t 1 past id ++ handed_from (is.leads i) (next is.places i) s.entries id)
  where
    next : length past ≡ s.place → 1 + length past ≡ s.place + 1
    next e = omega (arith, e)

pub cuts-part-batches : Told → CutsPartBatches
unfolding handed handed_since stands_for
cuts-part-batches tells s past id is =
    let t = opening s.start.limits in
    record {
      parted = parted-is s past id is;
      early =
          all-weaker (IsBetween 1 (1 + length past)) (λ b. b.place ≤ s.place) (λ b h. omega (arith, h.1, is.places))
          (handed_from t 1 past id) (places-from t 1 past id);
      late =
          all-weaker (IsBetween (s.place + 1) (s.place + 1 + length s.entries)) (λ b. s.place < b.place)
          (λ b h. omega (arith, h.0)) (handed_from s.start (s.place + 1) s.entries id)
          (places-from s.start (s.place + 1) s.entries id);
      ended = λ before rest b e none. (
        ends-last tells s.start.limits past id before rest b e none,
        ap (λ (u : Tree). instance_of u.instances id) (sym is.leads) ∙ (gone-from tells t 1 past id (below-opening s.start.limits) before rest b e none).none,
      );
    }

handed-whole : (s : Journaled) (past : List Entry) (id : ℕ) → handed_since (whole s past) id ≡ handed s.start.limits (past ++ s.entries) id
unfolding handed handed_since
handed-whole s past id = refl

-- what was handed since are events
pub held-events : (s : Journaled) (ns : List ℕ) (xss : List (List Batch)) (total id : ℕ) → IsHeld s ns xss total → AreOfEvents (handed_since s id)
held-events s ns xss total id held =
    all-right (λ (b : Batch). AreEvents b.records) (handed s.start.limits held.past id) (handed_since s id)
    (subst AreOfEvents (handed-whole s held.past id ∙ parted-is s held.past id held.is_past) (held.held.events id))

-- ---- what a call does beside its entry

pub hands-call : (old new : TreeWithPipes) (seat left : Seated) (c : Call) (r : Receipt) (closed : Option ℕ)
    (o : Option Batch)
    → JoinsJournal old.state seat c new.state left r → IsTrue (is_plain c) → closed ≡ closed_of c
    → o ≡ end_of closed r.place r.reply
    → new.pipes ≡ old.pipes → new.sent ≡ deliver o old.pipes old.sent → new.total ≡ old.total + 1 → HandsOver old c r new
hands-call old new seat left c r closed o enters plain shut is pipes sent one =
    let none = plain-makes-none c r.reply plain in
    let batch : o ≡ handed_by (now old.state) r.place c =
    is ∙ ap (λ x. end_of x r.place r.reply) shut ∙ ap (λ x. end_of (closed_of c) r.place x) enters.reply
    ∙ end_of-handed (now old.state) c r.place plain in
    record {
      pipes_are = pipes ∙ sym (ap (λ (ms : List ℕ). old.pipes ++ ms) none ∙ append-nil old.pipes);
      sent_are =
          sent ∙ ap (λ b. deliver b old.pipes old.sent) batch
          ∙ sym
          (ap
          (λ (ms : List ℕ).
          deliver (handed_by (now old.state) r.place c) old.pipes old.sent ++ map (λ (id : ℕ). []) ms)
          none
          ∙ append-nil _);
      counted = one;
    }

pub hands-pump : (old new : TreeWithPipes) (id bytes : ℕ) (r : Receipt) (rs : Option (List Event)) (o : Option Batch)
    → rs ≡ pumped (now old.state) id bytes → o ≡ option_map (batch id r.place) rs
    → new.pipes ≡ old.pipes → new.sent ≡ deliver o old.pipes old.sent → new.total ≡ old.total + 1 → HandsOver old (call.Pump id bytes) r new
hands-pump old new id bytes r rs o given is pipes sent one = record {
  pipes_are = pipes ∙ sym (append-nil old.pipes);
  sent_are = sent ∙ ap (λ b. deliver b old.pipes old.sent) (is ∙ ap (λ x. option_map (batch id r.place) x) given) ∙ sym (append-nil _);
  counted = one;
}

pub hands-open : (old new : TreeWithPipes) (limit : ℕ) (r : Receipt) → length old.pipes ≡ length old.sent
    → new.pipes ≡ old.pipes ++ piped_by (call.Init limit true) r.reply
    → new.sent ≡ old.sent ++ map (λ (id : ℕ). []) (piped_by (call.Init limit true) r.reply) → new.total ≡ old.total + 1
    → HandsOver old (call.Init limit true) r new
hands-open old new limit r len pipes sent one = record {
  pipes_are = pipes;
  sent_are =
      sent
      ∙ ap (λ (xss : List (List Batch)). xss ++ map (λ (id : ℕ). []) (piped_by (call.Init limit true) r.reply))
      (sym (deliver-none old.pipes old.sent len));
  counted = one;
}
