use Rattle.std.proofs.Common.{◌≡◌, ℕ, length}
use Rattle.record_codec.specs.Ports.{inner_of, faults_of}
use Rattle.record_codec.proofs.Appending.{Added}
use Rattle.record_codec.proofs.port.Port.write_all.Given as goal

abbrev pub invariant-loop-rest : goal.invariant-loop-rest
invariant-loop-rest g l = record {
  added : (n : ℕ) × Added (g.T.Write.contents (inner_of l.fn.self)) (g.T.Write.contents (inner_of l.self)) l.bytes l.rest n;
  faults : faults_of l.self ≡ faults_of l.fn.self;
}

abbrev pub decreases-loop-rest : goal.decreases-loop-rest
decreases-loop-rest g l = length l.rest
