use Rattle.std.proofs.Common.{rules}
use Rattle.std.specs.Prelude.{Ok}
use Rattle.tree_core.specs.declared.call.Call.TheVariants as call
use Rattle.watchtree_c.proofs.Fits.{read_fits, answers_bytes}
use Rattle.watchtree_c.specs.Calls.{asked_bytes}
use Rattle.watchtree_c.proofs.instances.wt_read.Goals as goal

pub returns : goal.returns
returns c =
    let n = asked_bytes c.args.out.now in
    answers_bytes c.args.tree.now.held.state (Ok (call.Read c.args.instance n)) _ _ _ _ c.read.ensures.r (λ t. read_fits t c.args.instance n)
    (search rules) (search rules) (search rules)
