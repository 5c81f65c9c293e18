use Rattle.std.proofs.Common.{◌≡◌, take}
use Rattle.instance_table.proofs.rows.waiting.Given as goal

abbrev pub invariant-loop-index : goal.invariant-loop-index
invariant-loop-index l = l.events.items ≡ take l.index l.queue.waiting
