-- When two events are equal: in each of their fields.
use Rattle.std.specs.Prelude.{Bool, ◌&&◌, nat_eq, List}
use Rattle.std.specs.Option.{option_eq}
use Rattle.std.specs.Ordering.{int_eq}
use Rattle.std.specs.Cmp.{IsEquivalence, int_eq_equiv, nat_eq_equiv, on_equiv, and_equiv}
use Rattle.std.specs.Cmp.Lexicographic.{pointwise, lists_equiv, options_equiv, nat_list_eq_equiv}
use Rattle.record_codec.specs.declared.event.Event.{Event}

abbrev pub event_eq : Event → Event → Bool
event_eq a b =
    int_eq a.wd b.wd && nat_eq a.mask b.mask && nat_eq a.cookie b.cookie && option_eq (pointwise nat_eq) a.name b.name

abbrev pub events_eq : List Event → List Event → Bool
events_eq = pointwise event_eq

-- what `Eq` promises of it
pub events_eq_equiv : IsEquivalence events_eq
events_eq_equiv =
    lists_equiv (and_equiv (and_equiv (and_equiv (on_equiv (λ (e : Event). e.wd) int_eq_equiv)
    (on_equiv (λ (e : Event). e.mask) nat_eq_equiv)) (on_equiv (λ (e : Event). e.cookie) nat_eq_equiv))
    (on_equiv (λ (e : Event). e.name) (options_equiv nat_list_eq_equiv)))
