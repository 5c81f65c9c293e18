-- What `==` says of events and of lists, for callers too.
use Rattle.std.proofs.Common.{rules, ◌≡◌, ◌↔◌, refl, ℕ, List, Bool, IsTrue, nat_eq}
use Rattle.std.specs.Bool.{Decides}
use Rattle.std.specs.Cmp.Lexicographic.{pointwise}
use Rattle.std.specs.Str.{bytes_eq}
use Rattle.std.proofs.lemmas.Slice.Eq.{slice_eq-Decides, bytes_eq-Decides}
use Rattle.record_codec.specs.declared.event.Event.{Event}
use Rattle.record_codec.specs.Equality.{event_eq, events_eq}

pub event_eq_decides : (a b : Event) → Decides (event_eq a b) (a ≡ b)
event_eq_decides a b = search rules

pub events_eq_decides : (a b : List Event) → Decides (events_eq a b) (a ≡ b)
events_eq_decides a b = slice_eq-Decides event_eq_decides a b (events_eq a b) refl

-- lists of names, as a path has them
pub names_eq_decides : (a b : List (List ℕ)) → Decides (pointwise (pointwise nat_eq) a b) (a ≡ b)
names_eq_decides a b = slice_eq-Decides bytes_eq-Decides a b (pointwise bytes_eq a b) refl

pub same_events : (a b : List Event) (r : Bool) → r ≡ events_eq a b → IsTrue r ↔ (a ≡ b)
same_events a b r is = rw is (events_eq_decides a b)

pub same_names : (a b : List (List ℕ)) (r : Bool) → r ≡ pointwise (pointwise nat_eq) a b → IsTrue r ↔ (a ≡ b)
same_names a b r is = rw is (names_eq_decides a b)
