use Rattle.std.proofs.Common.{◌≡◌, ◌≤◌, ◌*◌, length, take}
use Rattle.record_codec.specs.Records.{spelling}
use Rattle.event_queue.proofs.queue.Queue.bytes.Given as goal

abbrev pub invariant-loop-index : goal.invariant-loop-index
invariant-loop-index l = record {
  len : l.len ≡ length (spelling (take l.index l.self.waiting));
  small : l.len ≤ 272 * l.index;
}
