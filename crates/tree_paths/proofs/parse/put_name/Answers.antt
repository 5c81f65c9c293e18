use Rattle.std.proofs.Common.{◌≡◌, ◌∙◌, ◌≤◌, ◌+◌, ◌++◌, ◌∷◌, [], List, ℕ, length, take, ap, append_assoc, arith}
use Rattle.std.proofs.Math.ListN.{set, length-set}
use Rattle.std.proofs.lemmas.List.{take_more_set}
use Rattle.std.proofs.lemmas.Slice.{take-put_mid}
use borrow.Rule.Slice.PartMut.{put_mid}
use Rattle.tree_paths.proofs.parse.put_name.Goals as goal

put-is : (out ys name : List ℕ) (at k : ℕ) → at + 1 + length name ≤ length out → ys ≡ name
    → take (at + 1 + length name) (put_mid (at + 1) k (set out at 47) ys) ≡ take at out ++ 47 ∷ name
put-is out ys name at k within same =
    let len : length ys ≡ length name = ap (λ (t : List ℕ). length t) same in
    let kept : length (set out at 47) ≡ length out = length-set out at 47 in
    take-put_mid (at + 1) k (set out at 47) ys (at + 1 + length name) (omega (arith, len)) (omega (arith, kept, within))
    ∙ ap (λ (t : List ℕ). t ++ ys) (take_more_set out at 47 (omega (arith, within))) ∙ append_assoc (take at out) (47 ∷ []) ys
    ∙ ap (λ (t : List ℕ). take at out ++ 47 ∷ t) same

pub returns : goal.returns
returns c = put-is c.args.out.now c.copy_from_slice.new.self c.args.name.now c.args.at _ c.requires c.copy_from_slice.ensures.after
