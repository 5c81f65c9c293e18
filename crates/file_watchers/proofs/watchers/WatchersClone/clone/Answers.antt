use Rattle.std.proofs.Common.{rules}
use Rattle.file_watchers.proofs.watchers.WatchersClone.clone.Goals as goal

pub returns : goal.returns
returns c = search rules

pub returns-in-One : goal.returns-in-One
returns-in-One c = search rules
