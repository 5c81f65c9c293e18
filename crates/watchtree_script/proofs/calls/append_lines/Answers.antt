use Rattle.std.proofs.Common.{rules}
use Rattle.watchtree_script.proofs.calls.append_lines.Goals as goal

pub unwrap-requires-in-Some : goal.unwrap-requires-in-Some
unwrap-requires-in-Some c = search rules
