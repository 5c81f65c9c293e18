use Rattle.shared_tree.specs.Held.{sents}
use Rattle.shared_tree.proofs.Wholes.{held-cut-either}
use Rattle.shared_tree.proofs.held.Held.cut.Goals as goal

pub invariant_of-self : goal.invariant_of-self
invariant_of-self g c =
    let a = c.self.inside in
    held-cut-either c.pasts_make_whole.ensures a.core c.cut.new.self a.pipes.numbers (sents a.pipes.ends) a.book.total
    c.cut.result c.journal.ensures.lawful c.self.invariant c.cut.ensures.cut c.cut.ensures.err
