use Rattle.std.proofs.Common.{◌≡◌, ◌+◌, [], ◌∷◌, ◌++◌, length, length-append, sym, subst, arith}
use Rattle.shared_tree.specs.Held.{Rises}
use Rattle.shared_tree.specs.PipeEnds.{PipesState}
use Rattle.shared_tree.proofs.Keeping.{Rises-snoc}
use Rattle.shared_tree.proofs.pipes.Pipes.add.Goals as goal

pub invariant_of-self : goal.invariant_of-self
invariant_of-self c =
    let ns = c.self.inside.numbers.items in
    let ps = c.self.inside.ends.items in
    let id = c.in-Instance.id in
    let rises : Rises 1 ns id = subst (λ (p : PipesState). Rises 1 p.numbers id) (sym c.self.view_is) (c.requires.next id c.in-Instance.is) in
    let len : length (ns ++ id ∷ []) ≡ length (ps ++ c.args.pipe ∷ []) =
    omega (arith, length-append ns (id ∷ []), length-append ps (c.args.pipe ∷ []), c.self.invariant.1) in
    rw (c.push_reserved.ensures.items, c.push_reserved-in-Instance.ensures.items) ((id + 1, Rises-snoc ns 1 id rises), len)
