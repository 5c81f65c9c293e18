-- The field of a short name: its bytes with zero bytes behind them.
use Rattle.std.proofs.Common.{◌≡◌, ℕ, zero, suc, ◌<◌, ◌≤◌, ◌+◌, ◌-◌, List, [], ◌∷◌, ◌++◌, length, take, Some, refl, ap, sym, append_assoc, ◌∙◌, arith}
use Rattle.std.specs.Prelude.{replicate, slice_index}
use Rattle.record_codec.specs.Records.{field_len, head, name_field, record_bytes}
use Rattle.record_codec.specs.declared.event.Event.{Event}

-- the first bytes, where all behind fewer of them are zero
pub padded-front : (n len k : ℕ) (xs : List ℕ) → len + k ≡ n → n ≤ length xs → ((i : ℕ) → len ≤ i → slice_index xs i ≡ 0)
    → take n xs ≡ take len xs ++ replicate k 0
padded-front zero zero zero xs sum within zeros = refl
padded-front zero zero (suc k) xs sum within zeros = absurd (omega arith)
padded-front zero (suc len) k xs sum within zeros = absurd (omega arith)
padded-front (suc n) len k [] sum within zeros = absurd (omega arith)
padded-front (suc n) zero zero (x ∷ xs) sum within zeros = absurd (omega arith)
padded-front (suc n) zero (suc k) (x ∷ xs) sum within zeros =
    let first : x ≡ 0 = zeros zero (omega arith) in
    let rest : take n xs ≡ replicate k 0 = padded-front n zero k xs (omega arith) (omega arith) (λ i past. zeros (suc i) (omega arith)) in
    (λ j. first j ∷ rest j)
padded-front (suc n) (suc len) k (x ∷ xs) sum within zeros =
    ap (λ (t : List ℕ). x ∷ t) (padded-front n len k xs (omega arith) (omega arith) (λ i past. zeros (suc i) (omega arith)))

-- the field of a name that is shorter than 16 bytes
pub short-field : (name : List ℕ) → length name < 16 → name ++ replicate (16 - length name) 0 ≡ name_field (Some name)
unfolding name_field
short-field name h = let e : field_len (length name) ≡ 16 = omega arith in ap (λ (n : ℕ). name ++ replicate (n - length name) 0) (sym e)

-- a record whose name field takes 16 bytes
pub record-of-field : (e : Event) (old field : List ℕ) → field ≡ name_field e.name → length field ≡ 16
    → (old ++ head e 16) ++ field ≡ old ++ record_bytes e
unfolding record_bytes
record-of-field e old field is len =
    append_assoc old (head e 16) field ∙ ap (λ (t : List ℕ). old ++ (head e 16 ++ t)) is
    ∙ ap (λ (n : ℕ). old ++ (head e n ++ name_field e.name)) (sym len ∙ ap (λ (t : List ℕ). length t) is)
