use Rattle.std.proofs.Common.{◌≡◌, ◌++◌, take}
use Rattle.std.specs.List.{flat_map}
use Rattle.watchtree_command.specs.Report.{listener_line}
use Rattle.watchtree_command.proofs.lines.add_listeners.Given as goal

abbrev pub invariant-loop-listener : goal.invariant-loop-listener
invariant-loop-listener l = l.text.items ≡ l.initial.text.items ++ flat_map listener_line (take l.listener-index l.listeners)
