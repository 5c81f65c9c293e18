use Rattle.std.proofs.Common.{◌≡◌, ◌<◌, ℕ, zero, suc, ◌-◌, ◌*◌, ◌/◌, ◌%◌, ◌^◌, max, List, [], ◌∷◌, get_or, set, arith, ap, ◌∙◌, refl}
use Rattle.std.specs.Prelude.{bit_or}
use Rattle.std.specs.Int.{Width, bit_at}
use Rattle.std.proofs.lemmas.Bool.{eqb-true, eq-eqb}
use Rattle.std.proofs.lemmas.Nat.Bits.{bit_at-lt, bit_at_ones, bit_at_or, bit_at_set_same}
use Rattle.instance_table.specs.declared.filter.TheConstants.{WORDS}
use Rattle.instance_table.specs.Filters.{passes}
use Rattle.instance_table.proofs.filter.WatchFilter.add.Goals as goal

abbrev ones : ℕ
ones = 2 ^ 64 - 1

below : (n : ℕ) → n % 64 < 64
below n = omega arith

max-one : (b : ℕ) → b < 2 → max 1 b ≡ 1
max-one zero h = refl
max-one (suc zero) h = refl
max-one (suc (suc b)) h = absurd (omega (arith, h))

-- a bit of the word that is set
set-bit : (ws : List ℕ) (i k v : ℕ) → k < 64 → bit_at v k ≡ 1 → bit_at (get_or (set ws i v) i ones) k ≡ 1
set-bit [] i k v within is = bit_at_ones 64 k within
set-bit (w ∷ ws) zero k v within is = is
set-bit (w ∷ ws) (suc i) k v within is = set-bit ws i k v within is

-- bits stay set where others are set too
still-set : (ws : List ℕ) (i j k m : ℕ) → bit_at (get_or ws j ones) k ≡ 1
    → bit_at (get_or (set ws i (bit_or (get_or ws i 0) m)) j ones) k ≡ 1
still-set [] i j k m is = is
still-set (w ∷ ws) zero zero k m is = bit_at_or w m k ∙ ap (λ b. max b (bit_at m k)) is ∙ max-one (bit_at m k) (bit_at-lt m k)
still-set (w ∷ ws) zero (suc j) k m is = is
still-set (w ∷ ws) (suc i) zero k m is = is
still-set (w ∷ ws) (suc i) (suc j) k m is = still-set ws i j k m is

pub returns-clause-added : goal.returns-clause-added
unfolding passes
returns-clause-added c =
    let number = c.args.number in
    let word = get_or c.args.self.now.words (number / 64 % WORDS) 0 in
    eq-eqb _ 1 (set-bit c.args.self.now.words (number / 64 % WORDS) (number % 64) (bit_or word (1 * 2 ^ (number % 64) % 2 ^ 64)) (below number)
    (bit_at_set_same Width.w64 word (number % 64) (below number)))

pub returns-clause-kept : goal.returns-clause-kept
unfolding passes
returns-clause-kept c n is =
    let number = c.args.number in
    eq-eqb _ 1 (still-set c.args.self.now.words (number / 64 % WORDS) (n / 64 % WORDS) (n % 64) (1 * 2 ^ (number % 64) % 2 ^ 64)
    (eqb-true _ 1 is))
