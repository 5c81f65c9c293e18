use Rattle.std.proofs.Common.{rules}
use Rattle.tree_paths.proofs.refusal.Refusal.name.Goals as goal

pub returns-in-Eperm : goal.returns-in-Eperm
returns-in-Eperm c = search rules
