use Rattle.std.proofs.Common.{rules}
use Rattle.watchtree_c.proofs.Opening.{closed_forks}
use Rattle.watchtree_c.proofs.life.open_fork.Goals as goal

pub returns-in-Ok : goal.returns-in-Ok
returns-in-Ok c =
    closed_forks c.args.state.now c.args.fork.now.held.state c.args.fork.now.ready c.of.result.held.state c.args.fork.now.agrees c.if-fork.false
    (rw c.of.ensures (c.in-Ok.ensures.state, c.in-Ok.ensures.text))

pub returns-in-Err : goal.returns-in-Err
returns-in-Err c = search rules
