use Rattle.std.proofs.Common.{◌≡◌, ◌≤◌, ◌+◌, ◌-◌, ◌++◌, ℕ, List, length, take, drop, ap, sym, ◌∙◌, arith}
use Rattle.std.proofs.lemmas.List.{drop-take, length-take-le, length-drop, take-append-drop, take-take}
use Rattle.std.proofs.lemmas.Slice.{take-put_mid}
use borrow.Rule.Slice.PartMut.{put_mid}
use Rattle.record_codec.proofs.padded.copy_part.Goals as goal

-- the bytes up to the end of a part that was copied
part-copied : (n at k : ℕ) (bytes from part : List ℕ) → part ≡ take n (drop at from) → k ≡ n → at + n ≤ length from → at ≤ length bytes
    → take at bytes ≡ take at from → take (at + n) (put_mid at k bytes part) ≡ take (at + n) from
part-copied n at k bytes from part is same within room front =
    let long : length part ≡ n = ap (λ (t : List ℕ). length t) is ∙ length-take-le n (drop at from) (omega (arith, length-drop at from)) in
    take-put_mid at k bytes part (at + n) (omega arith) room ∙ ap (λ (t : List ℕ). t ++ part) front ∙ ap (λ (t : List ℕ). take at from ++ t) is
    ∙ sym (ap (λ (t : List ℕ). t ++ take n (drop at from)) (take-take at (at + n) from (omega arith)))
    ∙ sym (ap (λ (t : List ℕ). take at (take (at + n) from) ++ t) (drop-take at n from))
    ∙ take-append-drop at (take (at + n) from)

pub returns : goal.returns
returns g c =
    let k : (c.args.at + g.row.N) - c.args.at ≡ g.row.N = omega arith in
    part-copied g.row.N c.args.at _ c.args.bytes.now c.args.from.now c.copy_from_slice.new.self
    (c.copy_from_slice.ensures.after ∙ ap (λ (n : ℕ). take n (drop c.args.at c.args.from.now)) k) k (omega arith) (omega arith) c.requires.front
