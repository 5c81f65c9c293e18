use Rattle.shared_tree.specs.Held.{sents}
use Rattle.shared_tree.proofs.Wholes.{held-events, held-sends}
use Rattle.shared_tree.proofs.held.Held.dissolve.Goals as goal

pub invariant_of-result : goal.invariant_of-result
invariant_of-result g c =
    let a = c.self.inside in
    record {
      lawful = c.journal.ensures.lawful;
      counted = search;
      sends = held-sends a.core a.pipes.numbers a.book.total (sents a.pipes.ends) c.self.invariant;
      events = λ id. held-events a.core a.pipes.numbers (sents a.pipes.ends) a.book.total id c.self.invariant;
    }
