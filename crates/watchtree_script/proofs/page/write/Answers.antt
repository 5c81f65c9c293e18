use Rattle.watchtree_script.proofs.Pages.{front-taken}
use Rattle.watchtree_script.proofs.page.write.Goals as goal

pub returns-in-Err-clause-err : goal.returns-in-Err-clause-err
returns-in-Err-clause-err g c = front-taken c.args.text.now c.in-Err.ensures.front.0 _ _ c.in-Err.ensures.front.1
