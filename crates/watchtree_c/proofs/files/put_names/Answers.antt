use Rattle.std.proofs.Common.{◌≡◌, ◌-◌, ◌^◌, ◌++◌, length, take, sym, ◌∙◌, ap, arith, List, ℕ, refl, length-append, [], ◌∷◌, w64, to_z, of_z}
use Rattle.std.proofs.lemmas.Int.{to_z-of_z}
use Rattle.std.specs.Prelude.{min}
use Rattle.std.specs.List.{flat_map}
use Rattle.std.proofs.lemmas.List.{take_all}
use Rattle.watchtree_c.specs.Answers.{overlaid, count_number}
use Rattle.watchtree_c.specs.Listings.{ended}
use Rattle.watchtree_c.proofs.Listing.{overlaid_none, names_next, count_same}
use Rattle.watchtree_c.proofs.files.put_names.Goals as goal

pub loop-name-init : goal.loop-name-init
loop-name-init c = record { len = refl; bytes = sym (overlaid_none c.args.out.now) }

pub loop-name-preserved : goal.loop-name-preserved
loop-name-preserved c =
    let old = c.args.out.now in
    let bytes = c.bytes.result.now in
    let front = flat_map ended (take c.loop-name.name-index c.args.names.now) in
    let one_len : c.put_more-len.result ≡ min (length (front ++ bytes)) (2 ^ 64 - 1) =
    omega (arith, c.put_more-len.ensures.len, c.loop-name.invariant.len, length-append front bytes) in
    let one = c.put_more-len.ensures.bytes front old c.loop-name.invariant.len c.loop-name.invariant.bytes in
    let both_len : c.put_more-len-in-loop-name.result ≡ min (length ((front ++ bytes) ++ 0 ∷ [])) (2 ^ 64 - 1) =
    omega (arith, c.put_more-len-in-loop-name.ensures.len, one_len, length-append (front ++ bytes) (0 ∷ [])) in
    let both = c.put_more-len-in-loop-name.ensures.bytes (front ++ bytes) old one_len one in
    let next = names_next c.args.names.now c.loop-name.name-index c.name-item.result c.loop-name-test.true c.name-item.is
    ∙ ap (λ (t : List ℕ). (front ++ t) ++ 0 ∷ []) (sym c.bytes.ensures.value) in
    record { len = both_len ∙ ap (λ (t : List ℕ). min (length t) (2 ^ 64 - 1)) (sym next); bytes = both ∙ ap (λ (t : List ℕ). overlaid t old) (sym next) }

pub returns : goal.returns
returns c =
    let all = take_all c.loop-name.name-index c.args.names.now c.loop-name-test.false in
    let same : to_z w64 (of_z w64 c.count_number.result) ≡ c.count_number.result =
    to_z-of_z w64 c.count_number.result (record { sfits = c.count_number.type_inv }) in
    record {
      number = same ∙ c.count_number.ensures ∙ ap count_number c.loop-name.invariant.len
          ∙ count_same (length (flat_map ended (take c.loop-name.name-index c.args.names.now)))
          ∙ ap (λ (t : List (List ℕ)). count_number (length (flat_map ended t))) all;
      bytes = c.loop-name.invariant.bytes ∙ ap (λ (t : List (List ℕ)). overlaid (flat_map ended t) c.args.out.now) all;
    }
