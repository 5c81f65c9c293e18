use Rattle.watchtree_script.proofs.EntryLines.{entries_are_read_back}
use Rattle.watchtree_script.proofs.laws.entries_are_read_back.Goals as goal

pub returns : goal.returns
returns c = entries_are_read_back c.pathnames_are_parsed.ensures
