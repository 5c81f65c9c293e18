use Rattle.std.proofs.Common.{◌≡◌, ◌≤◌, ℕ, zero, suc, List, [], ◌∷◌, ◌++◌, length, refl, ap, ◌∙◌, arith}
use Rattle.std.specs.Prelude.{replicate, slice_index}
use Rattle.record_codec.proofs.name_buf.NameBuf.in_place.Goals as goal

zero-at : (n i : ℕ) → slice_index (replicate n 0) i ≡ 0
zero-at zero i = refl
zero-at (suc n) zero = refl
zero-at (suc n) (suc i) = zero-at n i

-- zero bytes stand behind a front
zero-behind : (front : List ℕ) (n i : ℕ) → length front ≤ i → slice_index (front ++ replicate n 0) i ≡ 0
zero-behind [] n i past = zero-at n i
zero-behind (x ∷ front) n zero past = absurd (omega arith)
zero-behind (x ∷ front) n (suc i) past = zero-behind front n i (omega arith)

pub returns-clause-sound : goal.returns-clause-sound
returns-clause-sound c = (
  omega arith,
  λ i past. ap (λ (t : List ℕ). slice_index t i) c.zero_padded_in_registers.ensures
      ∙ zero-behind c.args.bytes.now _ i past,
)
