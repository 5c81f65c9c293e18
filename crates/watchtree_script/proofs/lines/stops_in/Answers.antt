use Rattle.std.proofs.Common.{◌≡◌, ◌&&◌, Bool, true, false, not, cond, ℕ, refl, w8, arith, bit_or}
use Rattle.std.proofs.lemmas.Bool.{agree_below}
use Rattle.std.proofs.lemmas.Simd.{chunk-fits, length-chunk, zip2_splat, zip2_splat_left, zip2_of_maps}
use lib.Lanes.{chunk, top}
use Rattle.watchtree_script.specs.Lines.{is_line_byte}
use Rattle.watchtree_script.proofs.DigitLemmas.{less8}
use Rattle.watchtree_script.proofs.LineLemmas.{stops-are}
use Rattle.watchtree_script.proofs.lines.stops_in.Goals as goal

abbrev pub lane : Bool → ℕ → ℕ
lane t b = bit_or (bit_or (less8 b 32) (less8 126 b)) (cond t 255 0)

lanes-agree : (t : Bool) → agree_below (λ b. top 7 (lane t b)) (λ b. not (is_line_byte b && not t)) 256 ≡ true
lanes-agree true = refl
lanes-agree false = refl

pub returns : goal.returns
returns c =
    let bytes = c.args.bytes.now in
    let block = chunk 0 16 bytes in
    let long = length-chunk 0 16 bytes (omega (arith, c.requires)) in
    stops-are c.args.stop block _ long (chunk-fits w8 0 16 bytes c.type_inv.bytes) lane
    (zip2_of_maps _ _ _ block
    (zip2_of_maps _ _ _ block (zip2_splat _ block 16 32 long) (zip2_splat_left {X = ℕ} less8 126 16 block long))
    (zip2_splat _ block 16 c.args.stop long)) lanes-agree
