-- Records that are printed one after another.
use Rattle.std.proofs.Common.{◌≡◌, ℕ, ◌<◌, List, [], ◌∷◌, ◌++◌, length, refl, sym, ap, ◌∙◌, arith, length-append, append_assoc}
use Rattle.std.specs.List.{flat_map}
use Rattle.std.proofs.lemmas.List.{append-nil}
use Rattle.std.proofs.lemmas.Grind.{flat_map-append}
use Rattle.record_codec.specs.declared.event.Event.{Event}
use Rattle.record_codec.specs.Records.{AreEvents, IsEvent, record_bytes, spelling}
use Rattle.record_codec.specs.Views.{AreRecords}
use Rattle.record_codec.proofs.DecodeLemmas.{AreEvents-push, record_bytes-some}
use Rattle.watchtree_script.specs.Replies.{AreEventsIn, event_line}

-- the records before the rest are printed
pub record ArePrinted (bytes rest old new : List ℕ) : Type 0 where
  pub events : List Event
  pub fits : AreEvents events
  pub spelled : bytes ≡ spelling events ++ rest
  pub text : new ≡ old ++ flat_map event_line events
  pub left : AreRecords rest

pub none_printed : (bytes old : List ℕ) → AreRecords bytes → ArePrinted bytes bytes old old
none_printed bytes old left = record { events = []; fits = tt; spelled = refl; text = sym (append-nil old); left = left }

pub one_printed : (bytes rest behind old mid new : List ℕ) (e : Event) → ArePrinted bytes rest old mid
    → IsEvent e → rest ≡ record_bytes e ++ behind → AreRecords behind → new ≡ mid ++ event_line e → ArePrinted bytes behind old new
one_printed bytes rest behind old mid new e so_far fits is left text =
    let es = so_far.events in
    record {
      events = es ++ e ∷ [];
      fits = AreEvents-push es e so_far.fits fits;
      spelled = so_far.spelled ∙ ap (λ (t : List ℕ). spelling es ++ t) is ∙ sym (append_assoc (spelling es) (record_bytes e) behind)
          ∙ ap (λ (t : List ℕ). (spelling es ++ t) ++ behind) (sym (append-nil (record_bytes e)))
          ∙ ap (λ (t : List ℕ). t ++ behind) (sym (flat_map-append record_bytes es (e ∷ [])));
      text = text ∙ ap (λ (t : List ℕ). t ++ event_line e) so_far.text ∙ append_assoc old (flat_map event_line es) (event_line e)
          ∙ ap (λ (t : List ℕ). old ++ (flat_map event_line es ++ t)) (sym (append-nil (event_line e)))
          ∙ ap (λ (t : List ℕ). old ++ t) (sym (flat_map-append event_line es (e ∷ [])));
      left = left;
    }

pub all_printed : (bytes rest old new : List ℕ) → ArePrinted bytes rest old new → rest ≡ []
    → (events : List Event) × AreEventsIn bytes events × (new ≡ old ++ flat_map event_line events)
all_printed bytes rest old new so_far none =
    (so_far.events, (so_far.fits, so_far.spelled ∙ ap (λ (t : List ℕ). spelling so_far.events ++ t) none ∙ append-nil (spelling so_far.events)), so_far.text)

pub record_shorter : (rest behind : List ℕ) (e : Event) → rest ≡ record_bytes e ++ behind → length behind < length rest
record_shorter rest behind e is = omega (arith, ap length is, length-append (record_bytes e) behind, record_bytes-some e)
