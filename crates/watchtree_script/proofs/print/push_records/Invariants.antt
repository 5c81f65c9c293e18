use Rattle.std.proofs.Common.{length}
use Rattle.watchtree_script.proofs.PrintLemmas.{ArePrinted}
use Rattle.watchtree_script.proofs.print.push_records.Given as goal

abbrev pub invariant-loop-record : goal.invariant-loop-record
invariant-loop-record l = ArePrinted l.bytes l.rest l.initial.text.items l.text.items

abbrev pub decreases-loop-record : goal.decreases-loop-record
decreases-loop-record l = length l.rest
