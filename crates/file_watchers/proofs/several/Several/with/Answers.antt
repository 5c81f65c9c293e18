use Rattle.std.proofs.Common.{rules}
use Rattle.file_watchers.proofs.several.Several.with.Goals as goal

pub returns : goal.returns
returns c = search rules
