-- Two events pass `==` exactly where they are one.
use Rattle.std.proofs.Common.{◌≡◌, ◌≢◌, ℕ, Bool, true, false, List, Option, Some, None, refl, ap, ◌∙◌, nat_eq}
use Rattle.std.specs.Bool.{Decides}
use Rattle.std.specs.Prelude.{◌&&◌, negsuc}
use Rattle.std.specs.Option.{option_eq}
use Rattle.std.specs.Ordering.{int_eq}
use Rattle.std.specs.Cmp.Lexicographic.{pointwise}
use Rattle.std.proofs.lemmas.Bool.Decides.{Decides-eqb, Decides-int_eq, Decides-and, Decides-like}
use Rattle.std.proofs.lemmas.Option.{same_Some}
use Rattle.std.proofs.lemmas.Slice.Eq.{bytes_eq-Decides}
use Rattle.record_codec.specs.declared.event.Event.{Event}
use Rattle.record_codec.specs.Equality.{event_eq}
use Rattle.event_queue.specs.Backlogs.{is_mark, overflow_mark}

and_assoc : (a b c : Bool) → (a && (b && c)) ≡ ((a && b) && c)
and_assoc true b c = refl
and_assoc false b c = refl

-- what `==` answers
pub event_eq_regrouped : (a b : Event) (r : Bool)
    → r
    ≡ (int_eq a.wd b.wd
    && (nat_eq a.mask b.mask && (nat_eq a.cookie b.cookie && option_eq (pointwise nat_eq) a.name b.name)))
    → r ≡ event_eq a b
event_eq_regrouped a b r p =
    p ∙ and_assoc (int_eq a.wd b.wd) (nat_eq a.mask b.mask) _ ∙ and_assoc (int_eq a.wd b.wd && nat_eq a.mask b.mask) (nat_eq a.cookie b.cookie) _

names_decide : (a b : Option (List ℕ)) → Decides (option_eq (pointwise nat_eq) a b) (a ≡ b)
names_decide None None = (λ _. refl, λ _. refl)
names_decide None (Some y) = (λ e. cc, λ e. cc)
names_decide (Some x) None = (λ e. cc, λ e. cc)
names_decide (Some x) (Some y) = Decides-like (pointwise nat_eq x y) (ap Some) (same_Some x y) (bytes_eq-Decides x y)

pub event_eq-Decides : (a b : Event) → Decides (event_eq a b) (a ≡ b)
event_eq-Decides a b =
    Decides-like (event_eq a b)
    (λ p. λ k. record { wd = p.0.0.0 k; mask = p.0.0.1 k; cookie = p.0.1 k; name = p.1 k })
    (λ e. (((ap (λ (x : Event). x.wd) e, ap (λ (x : Event). x.mask) e), ap (λ (x : Event). x.cookie) e), ap (λ (x : Event). x.name) e))
    (Decides-and _ _
    (Decides-and _ _ (Decides-and _ _ (Decides-int_eq a.wd b.wd) (Decides-eqb a.mask b.mask))
    (Decides-eqb a.cookie b.cookie))
    (names_decide a.name b.name))

pub is_mark-Decides : (e : Event) → Decides (is_mark e) (e ≡ overflow_mark)
unfolding is_mark
is_mark-Decides e = event_eq-Decides e overflow_mark

-- an event of another descriptor is no mark
pub is_mark_other : (e : Event) → e.wd ≢ negsuc 0 → false ≡ is_mark e
unfolding overflow_mark
is_mark_other e other =
    elim (is_mark e) as (λ b. is_mark e ≡ b → false ≡ b) [
      | true ↦ λ h. absurd (other (ap (λ (x : Event). x.wd) ((is_mark-Decides e).0 h)))
      | false ↦ λ h. refl
    ] refl
