-- What waits stays events, over what joins a queue and what is read of it.
use Rattle.std.proofs.Common.{ℕ, zero, suc, List, [], ◌∷◌, ◌++◌, drop, arith, rules}
use Rattle.record_codec.specs.declared.event.Event.{Event}
use Rattle.record_codec.specs.Records.{AreEvents, IsEvent}
use Rattle.event_queue.specs.declared.offered.Offered.{Offered}
use Rattle.event_queue.specs.declared.offered.Offered.TheVariants.{Kept, Merged, Marked, Lost}
use Rattle.event_queue.specs.Backlogs.{Backlog, after_offer, joining, offered, overflow_mark}

events-append : (es fs : List Event) → AreEvents es → AreEvents fs → AreEvents (es ++ fs)
events-append [] fs h g = g
events-append (e ∷ es) fs h g = (h.0, events-append es fs h.1 g)

pub events-drop : (k : ℕ) (es : List Event) → AreEvents es → AreEvents (drop k es)
events-drop zero es h = h
events-drop (suc k) [] h = h
events-drop (suc k) (e ∷ es) h = events-drop k es h.1

mark-fits : IsEvent overflow_mark
unfolding overflow_mark
mark-fits = record { wd = search rules; mask = omega arith; cookie = omega arith; name = tt }

joining-fits : (o : Offered) (e : Event) → IsEvent e → AreEvents (joining o e)
joining-fits Kept e h = (h, tt)
joining-fits Merged e h = tt
joining-fits Marked e h = (mark-fits, tt)
joining-fits Lost e h = tt

pub offered-fits : (b : Backlog) (e : Event) → IsEvent e → AreEvents b.waiting → AreEvents (after_offer b e).waiting
offered-fits b e fits h = events-append b.waiting (joining (offered b.limit b.waiting e) e) h (joining-fits (offered b.limit b.waiting e) e fits)
