use Rattle.std.proofs.Common.{◌++◌, ◌∷◌, [], ◌∙◌, ap, reverse}
use Rattle.std.specs.Iterator.Adapters.{rev_source}
use Rattle.inode_table.specs.Listing.{longer}
use Rattle.inode_table.proofs.FlatLemmas.{stack-end, stack-turn}
use Rattle.inode_table.proofs.table.flat.put_off.Goals as goal

pub loop-name-preserved : goal.loop-name-preserved
loop-name-preserved c =
    stack-turn c.args.path.now c.loop-name.pending.items c.push.new.self.items _ (rev_source c.loop-name.name-iterator)
    (rev_source c.next.new.self) c.in-Some.name.now
    c.in-Some.child.now c.loop-name.invariant c.in-Some.ensures.steps
    (c.in_ok-push.ensures.items ∙ ap (λ p. c.loop-name.pending.items ++ (p, c.in-Some.child.now) ∷ []) c.in_ok-child.ensures)

pub returns-clause-put : goal.returns-clause-put
returns-clause-put c =
    stack-end c.args.path.now c.loop-name.pending.items _ (rev_source c.loop-name.name-iterator) c.loop-name.invariant c.in-None.ensures.steps.0
    ∙ ap (λ es. es ++ reverse (longer c.args.path.now c.args.names.now.entries)) c.in_ok-reserve.ensures.items
