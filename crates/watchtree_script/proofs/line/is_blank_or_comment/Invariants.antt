use Rattle.std.proofs.Common.{◌≡◌, drop}
use Rattle.watchtree_script.specs.Lines.{is_blank_or_comment}
use Rattle.watchtree_script.proofs.line.is_blank_or_comment.Given as goal

abbrev pub invariant-loop-b : goal.invariant-loop-b
invariant-loop-b l = is_blank_or_comment (drop l.b-index l.line) ≡ is_blank_or_comment l.line
