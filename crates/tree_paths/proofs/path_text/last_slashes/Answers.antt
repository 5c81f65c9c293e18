use Rattle.std.proofs.Common.{◌-◌, length, drop, w8, nat_eq, ap, ◌∙◌, arith, take_all}
use Rattle.std.proofs.lemmas.List.{length-drop}
use Rattle.std.proofs.lemmas.Simd.{bitmask_splat, length-chunk}
use lib.Lanes.{chunk}
use Rattle.tree_paths.specs.PathText.{slashes_in}
use Rattle.tree_paths.proofs.path_text.last_slashes.Goals as goal

pub returns : goal.returns
returns c =
    let text = c.args.text.now in
    let at = length text - 16 in
    let long = length-chunk at 16 text (omega (arith, c.requires)) in
    bitmask_splat w8 nat_eq (chunk at 16 text) 16 47 long (omega arith)
    ∙ ap slashes_in (take_all 16 (drop at text) (omega (arith, length-drop at text)))
