use Rattle.std.proofs.Common.{rules}
use Rattle.tree_ops.proofs.checking.check_cookie.Goals as goal

pub returns : goal.returns
returns c = search rules
