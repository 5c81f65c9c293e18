-- The watches that earlier notices ended.
use Rattle.std.proofs.Common.{◌≡◌, ◌≢◌, ℕ, zero, suc, Bool, true, false, not, ◌&&◌, ◌||◌, ◌==◌, ◌<◌, if◌then◌else◌, List, [], ◌∷◌, Option, Some, None}
use Rattle.std.proofs.Common.{refl, sym, ap, ◌∙◌, arith}
use Rattle.std.specs.Prelude.{bit_and, bit_or, min, max}
use Rattle.std.specs.Int.{bit_at}
use Rattle.std.specs.Int.Bits.{or_add_and, or_zero_l}
use Rattle.std.proofs.lemmas.Bool.{eqb-true, false≢true, ne_eqb}
use Rattle.std.proofs.lemmas.Nat.{and_le_r}
use Rattle.std.proofs.lemmas.Nat.Bits.{bit_at_and, bit_at_or, same_from_bits}
use Rattle.watch_table.specs.Masks.{has_any}
use Rattle.watch_table.specs.declared.watch.Watch.{Watch}
use Rattle.watch_table.specs.Watching.{Watching, dropped, watch_of}
use Rattle.event_rules.specs.declared.notice.Notice.{Notice}
use Rattle.record_codec.specs.declared.bits.TheConstants.{IN_ALL_EVENTS}
use Rattle.event_rules.specs.declared.notice.Notice.TheVariants.{Told}
use Rattle.event_rules.specs.declared.ended.EndedWatches.{EndedWatches}
use Rattle.event_rules.specs.Raised.{ends_watch, event_bit, is_oneshot, left, told_number, watches_after}
use Rattle.event_rules.specs.Staging.{ended_before, is_ended, left_before}
use Rattle.event_rules.proofs.Removals.{left_by, dropped-here, dropped-other, left-either}

-- ---- the watch that notices leave

module _ (number : ℕ) where
  before-none : (o : Option Watch) → left_before [] number o ≡ o
  before-none None = refl
  before-none (Some watch) = refl

  before-one : (n : Notice) (o : Option Watch) → (told_number n == number) ≡ false → left_before (n ∷ []) number o ≡ o
  before-one n None off = refl
  before-one n (Some watch) off = ap (λ b. if (b && ends_watch n watch) || false then None else Some watch) off

  before-more : (n : Notice) (ns : List Notice) (o : Option Watch) → left_before ns number (left_before (n ∷ []) number o) ≡ left_before (n ∷ ns) number o
  before-more n ns None = refl
  before-more n ns (Some watch) = by ((told_number n == number) && ends_watch n watch)
    where
      by : (b : Bool) → left_before ns number (if b || false then None else Some watch)
          ≡ (if b || ended_before ns number watch then None else Some watch)
      by true = refl
      by false = refl

  module _ (w : Watching) (n : Notice) where
    ends-here : told_number n ≡ number → (told_number n == number) ≡ true → (o : Option Watch) → watch_of w (told_number n) ≡ o
        → watch_of (left_by w n o) number ≡ left_before (n ∷ []) number (watch_of w number)
    ends-here is on None at =
        let none : watch_of w number ≡ None = ap (watch_of w) (sym is) ∙ at in
        none ∙ ap (left_before (n ∷ []) number) (sym none)
    ends-here is on (Some watch) at =
        let some : watch_of w number ≡ Some watch = ap (watch_of w) (sym is) ∙ at in
        by (ends_watch n watch) some ∙ ap (λ b. if (b && ends_watch n watch) || false then None else Some watch) (sym on)
        ∙ ap (left_before (n ∷ []) number) (sym some)
      where
        by : (b : Bool) → watch_of w number ≡ Some watch
            → watch_of (if b then dropped w (told_number n) else w) number ≡ (if (true && b) || false then None else Some watch)
        by true some = ap (watch_of (dropped w (told_number n))) (sym is) ∙ dropped-here w (told_number n)
        by false some = some

    left-one : watch_of (left w n) number ≡ left_before (n ∷ []) number (watch_of w number)
    unfolding left
    left-one =
        elim (told_number n == number) as (λ b. (told_number n == number) ≡ b
        → watch_of (left_by w n (watch_of w (told_number n))) number ≡ left_before (n ∷ []) number (watch_of w number)) [
          | true ↦ λ on. ends-here (eqb-true (told_number n) number on) on (watch_of w (told_number n)) refl
          | false ↦ λ off.
              left-either (λ x. watch_of x number ≡ watch_of w number) w n refl (dropped-other w (told_number n) number (apart off))
              ∙ sym (before-one n (watch_of w number) off)
        ] refl
      where
        apart : (told_number n == number) ≡ false → number ≢ told_number n
        apart off is = false≢true (sym off ∙ Rattle.std.proofs.lemmas.Bool.eq-eqb (told_number n) number (sym is))

  -- the watch of a file after notices is the one from before, where none of them ends it
  pub left-before : (w : Watching) (ns : List Notice) → watch_of (watches_after w ns) number ≡ left_before ns number (watch_of w number)
  left-before w [] = sym (before-none (watch_of w number))
  left-before w (n ∷ ns) =
      left-before (left w n) ns ∙ ap (left_before ns number) (left-one w n) ∙ before-more n ns (watch_of w number)

-- ---- the bits of several events in one

min-max : (a b c : ℕ) → min a (max b c) ≡ max (min a b) (min a c)
min-max a b c = omega arith

and-or : (m a b : ℕ) → bit_and m (bit_or a b) ≡ bit_or (bit_and m a) (bit_and m b)
and-or m a b =
    same_from_bits (bit_and m (bit_or a b)) (bit_or (bit_and m a) (bit_and m b)) (λ i.
    bit_at_and m (bit_or a b) i ∙ ap (min (bit_at m i)) (bit_at_or a b i) ∙ min-max (bit_at m i) (bit_at a i) (bit_at b i)
    ∙ sym (bit_at_or (bit_and m a) (bit_and m b) i ∙ (λ j. max (bit_at_and m a i j) (bit_at_and m b i j))))

some-bit : (n : ℕ) → 0 < n → not (n == 0) ≡ true
some-bit n h = ap not (ne_eqb n 0 (λ is. absurd (omega arith)))

or-zero : (x y : ℕ) → not (bit_or x y == 0) ≡ (not (x == 0) || not (y == 0))
or-zero zero y = ap (λ n. not (n == 0)) (or_zero_l y)
or-zero (suc x) y =
    some-bit (bit_or (suc x) y) (omega (arith, or_add_and (suc x) y, and_le_r (suc x) y))
    ∙ ap (λ b. b || not (y == 0)) (sym (some-bit (suc x) (omega arith)))

any-or : (m a b : ℕ) → has_any m (bit_or a b) ≡ (has_any m a || has_any m b)
any-or m a b = ap (λ n. not (n == 0)) (and-or m a b) ∙ or-zero (bit_and m a) (bit_and m b)

either : (g a b o : Bool) → (g || ((a || b) && o)) ≡ ((g || (a && o)) || (b && o))
either true a b o = refl
either false true b true = refl
either false true true false = refl
either false true false false = refl
either false false b o = refl

-- the watches that one more event ends
pub ended-told : (e : EndedWatches) (number bits cookie : ℕ) (name : Option (List ℕ)) (watch : Watch)
    → is_ended (record { is_gone = e.is_gone; bits = bit_or e.bits (bit_and bits IN_ALL_EVENTS) }) watch
    ≡ (is_ended e watch || ends_watch (Told number bits cookie name) watch)
ended-told e number bits cookie name watch =
    ap (λ b. e.is_gone || (b && is_oneshot watch)) (any-or watch.mask e.bits (event_bit bits))
    ∙ either e.is_gone (has_any watch.mask e.bits) (has_any watch.mask (event_bit bits)) (is_oneshot watch)
