use Rattle.std.proofs.Common.{◌≡◌, take}
use Rattle.record_codec.specs.Records.{AreEvents, spelling}
use Rattle.tree_core.proofs.file_system.spelled.Given as goal

abbrev pub invariant-loop-index : goal.invariant-loop-index
invariant-loop-index l = record { bytes : l.bytes.items ≡ spelling (take l.index l.queue.waiting); events : AreEvents (take l.index l.queue.waiting) }
