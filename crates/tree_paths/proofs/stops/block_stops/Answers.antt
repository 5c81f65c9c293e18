use Rattle.std.proofs.Common.{refl, arith}
use Rattle.std.proofs.lemmas.Simd.{zip2_splat, zip2_of_maps, length-chunk}
use lib.Lanes.{chunk}
use Rattle.tree_paths.proofs.StopLemmas.{block-is}
use Rattle.tree_paths.proofs.stops.block_stops.Goals as goal

pub returns : goal.returns
returns g c =
    let n = g.row.N in
    let v = chunk c.args.at n c.args.text.now in
    let long = length-chunk c.args.at n c.args.text.now c.requires.within in
    block-is c.args.text.now c.args.at n _ (omega (arith, c.requires.lanes)) c.requires.within c.type_inv.text _
    (zip2_of_maps _ _ _ v (zip2_splat _ v n 47 long) (zip2_splat _ v n 0 long)) refl
