use Rattle.watchtree_c.proofs.Opening.{closed_opens}
use Rattle.watchtree_c.proofs.life.wt_open.Goals as goal

pub returns-in-Ok : goal.returns-in-Ok
returns-in-Ok c =
    closed_opens c.args.tree.now.held.state c.args.tree.now.ready c.of.result.held.state c.args.tree.now.agrees c.if-tree.false
    (rw c.of.ensures (c.in-Ok.ensures.state, c.in-Ok.ensures.text))
