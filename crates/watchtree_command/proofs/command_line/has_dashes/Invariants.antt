use Rattle.std.proofs.Common.{◌≡◌, ◌||◌, drop, map}
use Rattle.std.specs.List.{list_any}
use Rattle.std.specs.String.{string_bytes}
use Rattle.watchtree_command.specs.CommandLine.{is_dashes}
use Rattle.watchtree_command.proofs.command_line.has_dashes.Given as goal

abbrev pub invariant-loop-word : goal.invariant-loop-word
invariant-loop-word l = (l.found || list_any is_dashes (map string_bytes (drop l.word-index l.words))) ≡ list_any is_dashes (map string_bytes l.fn.words)
