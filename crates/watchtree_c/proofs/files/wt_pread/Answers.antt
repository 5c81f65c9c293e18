use Rattle.std.proofs.Common.{rules}
use Rattle.watchtree_c.proofs.Fits.{read_call_fits, replies_bytes}
use Rattle.watchtree_c.specs.Calls.{asked_bytes, read_call}
use Rattle.watchtree_c.proofs.files.wt_pread.Goals as goal

pub returns : goal.returns
returns c =
    let n = asked_bytes c.args.out.now in
    replies_bytes c.args.tree.now.held.state (read_call c.args.path.now c.args.offset n) _ _ _ _ c.read.ensures.r
    (read_call_fits c.args.path.now c.args.offset n)
    (search rules) (search rules) (search rules)
