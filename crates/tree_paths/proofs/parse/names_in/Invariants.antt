use Rattle.std.proofs.Common.{◌≡◌, ◌++◌, true, false, length}
use Rattle.std.specs.List.{list_any, list_all}
use Rattle.record_codec.specs.Names.{is_name}
use Rattle.tree_paths.specs.Paths.{names_of, is_null}
use Rattle.tree_paths.proofs.parse.names_in.Given as goal

abbrev pub invariant-loop-names : goal.invariant-loop-names
invariant-loop-names l = record {
  names : names_of l.text ≡ l.names.items ++ names_of l.rest;
  named : list_all is_name (names_of l.rest) ≡ true;
  no_null : list_any is_null l.rest ≡ false;
}

abbrev pub decreases-loop-names : goal.decreases-loop-names
decreases-loop-names l = length l.rest
