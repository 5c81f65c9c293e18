-- The count that fits is the greatest one. Any record fits where the oldest does.
use Rattle.std.proofs.Common.{◌≡◌, ℕ, zero, suc, ◌-◌, ◌<◌, ◌≤◌, Bool, true, false, cond, List, [], ◌∷◌, length, take, refl, sym, ap, ◌∙◌, arith, length-append}
use Rattle.std.specs.Prelude.{nat_le, nat_lt, slice_get, Some, None}
use Rattle.std.proofs.lemmas.Bool.{leb-true, leb-false, le-ltb, lt-ltb}
use Rattle.std.proofs.lemmas.Option.{same_Some}
use Rattle.record_codec.specs.declared.event.Event.{Event}
use Rattle.record_codec.specs.Records.{record_bytes, spelling}
use Rattle.event_queue.specs.Reads.{fitting, IsGreatestFit}

-- one more record in front, which fits
more_fit : (n : ℕ) (e : Event) (es : List Event) (k : ℕ) → length (record_bytes e) ≤ n
    → IsGreatestFit (n - length (record_bytes e)) es k → IsGreatestFit n (e ∷ es) (suc k)
more_fit n e es k h ih = record {
  within = omega arith;
  fits = omega (arith, length-append (record_bytes e) (spelling (take k es)), ih.fits);
  greatest = greater;
} where
  greater : (more : ℕ) → suc k < more → more ≤ length (e ∷ es) → n < length (spelling (take more (e ∷ es)))
  greater zero l m = absurd (omega arith)
  greater (suc more) l m =
      let far : n - length (record_bytes e) < length (spelling (take more es)) = ih.greatest more (omega arith) (omega arith) in
      omega (arith, length-append (record_bytes e) (spelling (take more es)))

-- a first record that does not fit
none_fit : (n : ℕ) (e : Event) (es : List Event) → n < length (record_bytes e) → IsGreatestFit n (e ∷ es) 0
none_fit n e es h = record { within = omega arith; fits = omega arith; greatest = greater } where
  greater : (more : ℕ) → 0 < more → more ≤ length (e ∷ es) → n < length (spelling (take more (e ∷ es)))
  greater zero l m = absurd (omega arith)
  greater (suc more) l m = omega (arith, length-append (record_bytes e) (spelling (take more es)))

one_more_or_none : (n : ℕ) (e : Event) (es : List Event) (k : ℕ) (b : Bool) → nat_le (length (record_bytes e)) n ≡ b
    → IsGreatestFit (n - length (record_bytes e)) es k
    → IsGreatestFit n (e ∷ es) (cond b (suc k) 0)
one_more_or_none n e es k true p ih = more_fit n e es k (leb-true _ _ p) ih
one_more_or_none n e es k false p ih = none_fit n e es (leb-false _ _ p)

pub fitting_is_greatest : (n : ℕ) (es : List Event) → IsGreatestFit n es (fitting n es)
fitting_is_greatest n [] = record { within = omega arith; fits = omega arith; greatest = λ more l m. absurd (omega arith) }
fitting_is_greatest n (e ∷ es) = one_more_or_none n e es _ _ refl (fitting_is_greatest (n - length (record_bytes e)) es)

-- the bytes of those that fit
abbrev pub taken : ℕ → List Event → ℕ
taken n es = length (spelling (take (fitting n es) es))

any_by : (k : ℕ) (b : Bool) → b ≡ nat_lt 0 (cond b (suc k) 0)
any_by k true = sym (lt-ltb 0 (suc k) (omega arith))
any_by k false = sym (le-ltb 0 0 (omega arith))

-- any fits where the oldest does
pub any_fits : (n : ℕ) (es : List Event) (e : Event) → Some e ≡ slice_get es 0 → nat_le (length (record_bytes e)) n ≡ nat_lt 0 (fitting n es)
any_fits n [] e h = cc
any_fits n (x ∷ es) e h =
    ap (λ (y : Event). nat_le (length (record_bytes y)) n) (same_Some e x h)
    ∙ any_by (fitting (n - length (record_bytes x)) es) (nat_le (length (record_bytes x)) n)

pub none_fits : (n : ℕ) (es : List Event) → None ≡ slice_get es 0 → false ≡ nat_lt 0 (fitting n es)
none_fits n [] h = sym (le-ltb 0 0 (omega arith))
none_fits n (x ∷ es) h = cc
