use Rattle.std.proofs.Common.{◌≡◌, ◌≤◌, ◌+◌, ◌&&◌, ◌||◌, leb, ltb, length}
use Rattle.std.specs.List.{list_any, list_all}
use Rattle.tree_paths.specs.PathText.{IsMarked}
use Rattle.tree_paths.specs.Paths.{names_of, is_null, is_dots, is_in_place, is_long, slashed}
use Rattle.tree_paths.proofs.parse.shape_between.Given as goal

abbrev pub invariant-loop-rest : goal.invariant-loop-rest
invariant-loop-rest l = record {
  null : list_any is_null l.text ≡ list_any is_null l.rest;
  dots : list_any is_dots (names_of l.text) ≡ list_any is_dots (names_of l.rest);
  long : list_any is_long (names_of l.text) ≡ (ltb 255 l.longest || list_any is_long (names_of l.rest));
  count : length (names_of l.text) ≡ l.count + length (names_of l.rest);
  len : length (slashed (names_of l.text)) ≡ (l.count + l.bytes) + length (slashed (names_of l.rest));
  fits : list_all is_in_place (names_of l.text) ≡ (leb l.longest 31 && list_all is_in_place (names_of l.rest));
  marked : IsMarked l.rest l.stops;
  room : (l.count + l.bytes) + length l.rest ≤ length l.text;
}

abbrev pub decreases-loop-rest : goal.decreases-loop-rest
decreases-loop-rest l = length l.rest
