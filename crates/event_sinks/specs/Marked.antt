-- The sequence numbers that the search for a stray call has marked. No public clause cites this module.
use Rattle.std.specs.Prelude.{◌≡◌, ◌<◌, ◌-◌, ⊤, ℕ, Bool, true, false, List, [], ◌∷◌, slice_get, slice_set, Some}
use Rattle.tree_core.specs.declared.reply.Entry.{Entry}
use Rattle.tree_core.specs.declared.reply.Kept.{Kept}
use Rattle.event_sinks.specs.Audited.{IsInJournal}

-- these sequence numbers are marked too, counted from 1
abbrev pub marked : List Bool → List ℕ → List Bool
marked seen [] = seen
marked seen (p ∷ ps) = marked (slice_set seen (p - 1) true) ps

-- the call can be the next one of a seat: its sequence number is above the last and not marked, and the call is in the
-- journal
abbrev pub IsNext : ℕ → List Entry → List Bool → ℕ → ℕ → Kept → Type 0
IsNext cut entries seen number last k =
    (last < k.place) × IsInJournal cut entries number k × (slice_get seen (k.place - 1) ≡ Some false)

-- each of these calls can be the next one, once those before it are marked
abbrev pub AreNext : ℕ → List Entry → List Bool → ℕ → ℕ → List Kept → Type 0
AreNext cut entries seen number last [] = ⊤
AreNext cut entries seen number last (k ∷ ks) =
    IsNext cut entries seen number last k × AreNext cut entries (slice_set seen (k.place - 1) true) number k.place ks
