use Rattle.std.proofs.Common.{rules}
use Rattle.watchtree_c.proofs.Unmade.{read-peeked, read-refused}
use Rattle.watchtree_c.proofs.peeking.bytes_at.Goals as goal

pub returns-in-Ok : goal.returns-in-Ok
returns-in-Ok c =
    read-peeked c.args.state.now c.args.path.now c.args.offset _ c.args.out.now _ c.in-Ok.bytes.now _
    (search rules) c.in-Ok.ensures.ok (search rules) (search rules)

pub returns-in-Err : goal.returns-in-Err
returns-in-Err c =
    read-refused c.args.state.now c.args.path.now c.args.offset _ c.args.out.now _ c.in-Err.refusal _
    (search rules) c.in-Err.ensures.err (search rules) (search rules)
