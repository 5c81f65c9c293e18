use Rattle.std.proofs.Common.{◌≡◌, nat_eq, ◌∙◌}
use Rattle.std.specs.Cmp.Lexicographic.{pointwise}
use Rattle.tree_paths.specs.Paths.{names_of}
use Rattle.tree_paths.proofs.PathLemmas.{names_eq-Decides}
use Rattle.tree_paths.proofs.SlashedLemmas.{same-texts}
use Rattle.tree_paths.proofs.path.PathPartialEq.eq.Goals as goal
use Rattle.tree_paths.proofs.path.PathPartialEq.eq.Goals.{After-eq}

value : (c : After-eq) → c.eq.result ≡ pointwise (pointwise nat_eq) c.args.self.now c.args.other.now
value c =
    let names : names_of c.in-Some-Some.text.now ≡ c.args.self.now = c.in-Some-Some.ensures.names ∙ c.self.view_is in
    let other : names_of c.in-Some-Some.other.now ≡ c.args.other.now = c.in-Some-Some.ensures'.names ∙ c.other.view_is in
    same-texts c.in-Some-Some.text.now c.in-Some-Some.other.now c.eq.result c.in-Some-Some.ensures.sound c.in-Some-Some.ensures'.sound c.eq.ensures
    ∙ (λ i. pointwise (pointwise nat_eq) (names i) (other i))

pub returns-in-Some-Some-clause-value : goal.returns-in-Some-Some-clause-value
returns-in-Some-Some-clause-value c = value c

pub returns-in-Some-Some-clause-same : goal.returns-in-Some-Some-clause-same
returns-in-Some-Some-clause-same c = names_eq-Decides c.args.self.now c.args.other.now c.eq.result (value c)

pub returns-in_default-clause-same : goal.returns-in_default-clause-same
returns-in_default-clause-same c = names_eq-Decides c.args.self.now c.args.other.now c.are_same.result (cc)
