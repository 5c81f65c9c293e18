use Rattle.std.proofs.Common.{◌≡◌, deque_len}
use Rattle.instance_table.specs.Heard.{delivered_all}
use Rattle.instance_table.proofs.instances.Instances.deliver_each.Given as goal

abbrev pub invariant-loop-first : goal.invariant-loop-first
invariant-loop-first l = delivered_all l.self l.events.items ≡ delivered_all l.fn.self l.fn.events.items

abbrev pub decreases-loop-first : goal.decreases-loop-first
decreases-loop-first l = deque_len l.events
