use Rattle.std.proofs.Common.{◌≡◌, drop}
use Rattle.std.specs.List.{list_all}
use Rattle.tree_paths.specs.PathText.{is_plain_name}
use Rattle.tree_paths.specs.Pieces.{pieces}
use Rattle.tree_paths.proofs.PlainLemmas.{goes_on}
use Rattle.tree_paths.proofs.parse.are_plain.Given as goal

abbrev pub invariant-loop-b : goal.invariant-loop-b
invariant-loop-b l = list_all is_plain_name (pieces 47 l.text) ≡ goes_on l.begins (drop l.b-index l.text)
