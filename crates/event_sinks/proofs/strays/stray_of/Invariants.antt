use Rattle.std.proofs.Common.{◌≡◌, take}
use Rattle.event_sinks.specs.Audited.{AreKept}
use Rattle.event_sinks.proofs.KeptCalls.{marks_of}
use Rattle.event_sinks.proofs.strays.stray_of.Given as goal

abbrev pub invariant-loop-log : goal.invariant-loop-log
invariant-loop-log l = record {
  kept : AreKept l.cut l.journal (take l.log-index l.logs);
  marks : l.seen.items ≡ marks_of l.cut l.journal (take l.log-index l.logs);
}
