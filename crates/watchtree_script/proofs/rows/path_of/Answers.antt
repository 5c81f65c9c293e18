use Rattle.std.proofs.Common.{Err, ap}
use Rattle.watchtree_script.proofs.PathLemmas.{path-lacking}
use Rattle.watchtree_script.proofs.rows.path_of.Goals as goal

pub returns-in-Err-Enomem : goal.returns-in-Err-Enomem
returns-in-Err-Enomem c = path-lacking c.args.text.now (Err c.in-Err-Enomem.field-0) (ap Err c.in-Err-Enomem.field-0-is) c.in-Err-Enomem.ensures.refused
