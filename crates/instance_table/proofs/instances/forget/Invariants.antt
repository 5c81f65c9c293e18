use Rattle.std.proofs.Common.{◌≡◌, ℕ, None, cond, eqb, ◌&&◌, map}
use Rattle.std.specs.List.{list_any}
use Rattle.std.specs.Map.Iter.{deref}
use Rattle.instance_table.specs.Index.{HasSoundRows, watch_noted}
use Rattle.instance_table.proofs.instances.forget.Given as goal

abbrev pub invariant-loop-number : goal.invariant-loop-number
invariant-loop-number l = record {
  noted : (n q : ℕ) → watch_noted l.index n q ≡ cond (list_any (eqb n) (map deref l.yielded) && eqb q l.id) None (watch_noted l.initial.index n q);
  rows : HasSoundRows l.initial.index → HasSoundRows l.index;
}
