-- What a write in place leaves.
use Rattle.std.proofs.Common.{◌≡◌, ◌≢◌, ℕ, ◌+◌, ◌-◌, ◌≤◌, List, [], ◌∷◌, ◌++◌, length, take, drop, replicate, refl, sym}
use Rattle.std.proofs.Common.{ap, ◌∙◌, inl, inr, append_assoc, append-nil, arith}
use Rattle.std.proofs.lemmas.Bool.{cases_lt}
use Rattle.std.proofs.lemmas.List.{take_all, take_at, take-append-le, drop_all, length-append, length-replicate, replicate-append-replicate}
use Rattle.inode_table.specs.Bytes.{written, resized}

abbrev filled : ℕ → List ℕ → List ℕ
filled len old = old ++ replicate (len - length old) 0

take-filled : (offset end : ℕ) (old : List ℕ) → offset ≤ end → take offset (filled end old) ≡ resized offset old
take-filled offset end old le =
    elim (cases_lt (length old) offset) [
      | inl past ↦
          let n : (offset - length old) + (end - offset) ≡ end - length old = omega arith in
          let len : length (old ++ replicate (offset - length old) 0) ≡ offset =
          omega (arith, length-append old (replicate (offset - length old) 0), length-replicate {A = ℕ} (offset - length old) 0) in
          ap (λ z. take offset (old ++ z)) (sym (replicate-append-replicate (offset - length old) (end - offset) 0 ∙ ap (λ k. replicate k 0) n))
          ∙ ap (take offset) (sym (append_assoc old (replicate (offset - length old) 0) (replicate (end - offset) 0)))
          ∙ take_at (old ++ replicate (offset - length old) 0) (replicate (end - offset) 0) offset len
          ∙ ap (λ x. x ++ replicate (offset - length old) 0) (sym (take_all offset old (omega arith)))
      | inr within ↦
          let none : offset - length old ≡ 0 = omega arith in
          take-append-le offset old (replicate (end - length old) 0) within
          ∙ sym (ap (λ k. take offset old ++ replicate k 0) none ∙ append-nil (take offset old))
    ]

drop-filled : (end : ℕ) (old : List ℕ) → drop end (filled end old) ≡ drop end old
drop-filled end old =
    elim (cases_lt end (length old)) [
      | inl within ↦ let none : end - length old ≡ 0 = omega arith in ap (λ k. drop end (old ++ replicate k 0)) none ∙ ap (drop end) (append-nil old)
      | inr past ↦
          drop_all end (filled end old) (omega (arith, length-append old (replicate (end - length old) 0), length-replicate {A = ℕ} (end - length old) 0))
          ∙ sym (drop_all end old past)
    ]

pub written-is : (offset : ℕ) (new old : List ℕ) → length new ≢ 0
    → take offset (filled (offset + length new) old) ++ (new ++ drop (offset + length new) (filled (offset + length new) old)) ≡ written offset new old
written-is offset [] old some = absurd (some refl)
written-is offset (b ∷ new) old some =
    λ i. take-filled offset (offset + length (b ∷ new)) old (omega arith) i ++ ((b ∷ new) ++ drop-filled (offset + length (b ∷ new)) old i)
