use Rattle.std.proofs.Common.{◌≡◌, ◌++◌, ◌+◌, ◌≤◌, ◌-◌, take, drop, vec_len, vec_capacity}
use Rattle.instance_table.proofs.instances.move_oldest.Given as goal

abbrev pub invariant-loop : goal.invariant-loop
invariant-loop l = record {
  queue : l.queue ≡ record l.initial.queue { waiting = drop l.counter l.initial.queue.waiting };
  records : l.records.items ≡ l.initial.records.items ++ take l.counter l.initial.queue.waiting;
  room : vec_len l.records + (l.count - l.counter) ≤ vec_capacity l.records;
}
