use Rattle.std.proofs.Common.{rules}
use Rattle.watchtree_script.proofs.line.is_silent.Goals as goal

pub returns-else-is_blank_or_comment : goal.returns-else-is_blank_or_comment
returns-else-is_blank_or_comment c = search rules
