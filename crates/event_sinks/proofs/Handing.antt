-- What an entry makes of the tracks.
use Rattle.std.proofs.Common.{◌≡◌, ◌≢◌, ℕ, Bool, cond, List, [], ◌∷◌, Option, Some, None, inl, inr, refl, sym, ap, ◌∙◌, subst}
use Rattle.std.specs.BTreeMap as tree
use Rattle.std.specs.BTreeMap.{BTreeMap}
use Rattle.std.specs.Cmp.{unsigned_tied}
use Rattle.std.specs.Ordering.{nat_cmp}
use Rattle.std.proofs.lemmas.Bool.{cases_eq, eq-eqb, ne_eqb}
use Rattle.record_codec.specs.declared.event.Event.{Event}
use Rattle.record_codec.specs.Records.{AreEvents, spelling}
use Rattle.tree_core.specs.declared.reply.Entry.{Entry}
use Rattle.shared_tree.specs.declared.pipe.Batch.{Batch}
use Rattle.shared_tree.specs.Handed.{hands}
use Rattle.event_sinks.specs.declared.served.Progress.{Progress}
use Rattle.event_sinks.specs.declared.served.Track.{Track}
use Rattle.event_sinks.specs.Audited.{Outcome}
use Rattle.event_sinks.specs.Tracks.{Follows, Goes, HandsOn, HandsOver, IsSpelled, given_by, handed_at, track_at}

-- ---- a batch and what it is compared with

-- bytes spell one list of events
pub same_batch : ((es fs : List Event) → AreEvents es → AreEvents fs → spelling es ≡ spelling fs → es ≡ fs)
    → (b one : Batch) (instance place : ℕ) (bytes : List ℕ) → IsSpelled b instance place bytes → one.instance ≡ instance
    → one.place ≡ place → bytes ≡ spelling one.records
    → AreEvents one.records → b ≡ one
same_batch are_one b one instance place bytes s same_instance same_place spelled events =
    let i : b.instance ≡ one.instance = s.instance_is ∙ sym same_instance in
    let p : b.place ≡ one.place = s.place_is ∙ sym same_place in
    let r : b.records ≡ one.records = are_one b.records one.records s.events events (sym s.bytes_are ∙ spelled) in
    ap (λ (x : ℕ). record b { instance = x }) i ∙ ap (λ (x : ℕ). record one { place = x; records = b.records }) p
    ∙ ap (λ (x : List Event). record one { records = x }) r

-- ---- the tracks

module _ (cut : ℕ) (es : List Outcome) where
  goes_same : (o new : Option Track) → new ≡ o → Goes cut es [] o new
  goes_same None new is = is
  goes_same (Some t) new is = (t.progress, is, λ left o h. h)

  module _ (b : Batch) (number : ℕ) (own : b.instance ≡ number) where
    here : (n : ℕ) → n ≡ number → hands (Some b) n ≡ b ∷ []
    here n is = ap (λ (t : Bool). cond t (b ∷ []) []) (eq-eqb b.instance n (own ∙ sym is))

    there : (n : ℕ) → n ≢ number → hands (Some b) n ≡ []
    there n off = ap (λ (t : Bool). cond t (b ∷ []) []) (ne_eqb b.instance n (λ is. off (sym is ∙ own)))

    module _ (m k : BTreeMap ℕ Track) where
      pub hands_some : (t : Track) (p : Progress) → track_at m number ≡ Some t
          → Follows cut (handed_at es t.first) (b ∷ []) t.progress p
          → tree.Updates nat_cmp m k number (Some (record t { progress = p })) → HandsOn cut es (Some b) m k
      hands_some t p was follows put n =
          let new : Track = record t { progress = p } in
          elim (cases_eq n number) [
            | inl is ↦
                let gets : track_at k n ≡ Some new =
                put.0 n
                ∙ ap (λ (x : Bool). cond x (Some new) (track_at m n))
                (unsigned_tied number n ∙ eq-eqb number n (sym is)) in
                let before : Some t ≡ track_at m n = sym (ap (track_at m) is ∙ was) in
                subst (λ (bs : List Batch). Goes cut es bs (track_at m n) (track_at k n)) (sym (here n is))
                (subst (λ (o : Option Track). Goes cut es (b ∷ []) o (track_at k n)) before (p, gets, follows))
            | inr off ↦
                let gets : track_at k n ≡ track_at m n =
                put.0 n
                ∙ ap (λ (x : Bool). cond x (Some new) (track_at m n))
                (unsigned_tied number n ∙ ne_eqb number n (λ is. off (sym is))) in
                subst (λ (bs : List Batch). Goes cut es bs (track_at m n) (track_at k n)) (sym (there n off)) (goes_same (track_at m n) (track_at k n) gets)
          ]

      pub hands_none : track_at m number ≡ None → k ≡ m → HandsOn cut es (Some b) m k
      hands_none was same n =
          let gets : track_at k n ≡ track_at m n = ap (λ (x : BTreeMap ℕ Track). track_at x n) same in
          elim (cases_eq n number) [
            | inl is ↦
                let none : track_at m n ≡ None = ap (track_at m) is ∙ was in
                subst (λ (o : Option Track). Goes cut es (hands (Some b) n) o (track_at k n)) (sym none) (gets ∙ none)
            | inr off ↦ subst (λ (bs : List Batch). Goes cut es bs (track_at m n) (track_at k n)) (sym (there n off))
                (goes_same (track_at m n) (track_at k n) gets)
          ]

  -- ---- what an entry hands over

  module _ (e : Entry) (place : ℕ) (m k : BTreeMap ℕ Track) where
    pub entry_some : (number : ℕ) (bytes : List ℕ) → given_by e.call e.reply ≡ Some (number, bytes)
        → ((b : Batch) → IsSpelled b number place bytes → HandsOn cut es (Some b) m k) → (o : Option Batch)
        → HandsOver e place o → HandsOn cut es o m k
    entry_some number bytes gives hands_on None over = absurd (cc)
    entry_some number bytes gives hands_on (Some b) over =
        let same : (b.instance, over.0) ≡ (number, bytes) = cc in
        hands_on b (subst (λ (p : ℕ × List ℕ). IsSpelled b p.0 place p.1) same over.2)

    pub entry_none : given_by e.call e.reply ≡ None → (o : Option Batch) → HandsOver e place o → HandsOn cut es o m m
    entry_none none None over = λ n. goes_same (track_at m n) (track_at m n) refl
    entry_none none (Some b) over = absurd (cc)
