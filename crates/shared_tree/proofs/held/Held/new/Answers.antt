use Rattle.shared_tree.proofs.Wholes.{held-new}
use Rattle.shared_tree.proofs.held.Held.new.Goals as goal

pub invariant_of-held : goal.invariant_of-held
invariant_of-held g c = rw (c.in_ok-core.ensures.ok, c.new-2.ensures.0, c.new-2.ensures.1, c.open-book.ensures.total) (held-new c.args.limits)
