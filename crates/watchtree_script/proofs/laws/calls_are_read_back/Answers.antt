use Rattle.watchtree_script.proofs.ReadBack.{calls_are_read_back}
use Rattle.watchtree_script.proofs.laws.calls_are_read_back.Goals as goal

pub returns : goal.returns
returns c = calls_are_read_back c.pathnames_are_parsed.ensures
