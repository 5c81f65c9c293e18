use Rattle.std.proofs.Common.{◌≡◌, w64, to_z, of_z}
use Rattle.std.proofs.lemmas.Int.{to_z-of_z}
use Rattle.watchtree_c.proofs.line.wt_line.Goals as goal

pub returns : goal.returns
returns c =
    let same : to_z w64 (of_z w64 c.run-number.result) ≡ c.run-number.result = to_z-of_z w64 c.run-number.result (record { sfits = c.run-number.type_inv }) in
    rw (c.in-Some.ensures.taken, same) (c.run-number.new.opened, rw c.deref_mut.ensures.value at c.run-number.ensures, c.of.ensures)
