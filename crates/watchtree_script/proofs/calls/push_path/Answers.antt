use Rattle.std.proofs.Common.{◌≡◌, ◌∷◌, [], ap, ◌∙◌, append_assoc, rules}
use Rattle.watchtree_script.specs.CallLines.{path_text}
use Rattle.watchtree_script.proofs.CallLemmas.{printed-root}
use Rattle.watchtree_script.proofs.calls.push_path.Goals as goal

pub returns-then-is_root : goal.returns-then-is_root
returns-then-is_root c =
    let none : c.args.path.now ≡ [] = c.is_root.ensures.0 c.if-is_root.true in
    let root : path_text c.args.path.now ≡ 47 ∷ [] = ap path_text none ∙ printed-root in
    rw (root, append_assoc) (search rules)
