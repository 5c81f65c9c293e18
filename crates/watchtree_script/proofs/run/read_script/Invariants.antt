use Rattle.std.proofs.Common.{◌≡◌, ◌+◌, ◌-◌, vec_len}
use Rattle.std.specs.Io.KnownBytes.{Consumes}
use Rattle.record_codec.specs.Ports.{inner_of, faults_of}
use Rattle.watchtree_script.specs.Script.{script_max}
use Rattle.watchtree_script.proofs.run.read_script.Given as goal

abbrev pub invariant-loop-buffer : goal.invariant-loop-buffer
invariant-loop-buffer g l = record {
  taken : Consumes (g.R.Read.remaining (inner_of l.fn.input)) (g.R.Read.remaining (inner_of l.input)) l.script.items;
  faults : faults_of l.input ≡ faults_of l.fn.input;
}

abbrev pub decreases-loop-buffer : goal.decreases-loop-buffer
decreases-loop-buffer g l = script_max + 1 - vec_len l.script
