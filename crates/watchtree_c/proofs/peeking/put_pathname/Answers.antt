use Rattle.std.proofs.Common.{rules, ◌≡◌, ◌++◌, length, sym, ◌∙◌, ap, List, ℕ, refl, [], w64, to_z, of_z}
use Rattle.std.proofs.lemmas.Int.{to_z-of_z}
use Rattle.std.proofs.lemmas.List.{append-nil}
use Rattle.tree_paths.specs.Paths.{pathname_of, slashed}
use Rattle.watchtree_c.specs.Answers.{overlaid, count_number}
use Rattle.watchtree_c.proofs.Listing.{overlaid_none, put_next, slashed_all, count_same}
use Rattle.watchtree_c.proofs.peeking.put_pathname.Goals as goal

pub loop-name-init : goal.loop-name-init
loop-name-init c = record { front = []; whole = refl; len = refl; bytes = sym (overlaid_none c.args.out.now) }

pub loop-name-preserved-in-Some : goal.loop-name-preserved-in-Some
loop-name-preserved-in-Some c =
    put_next c.args.names c.loop-name.names c.next.new.self c.in-Some.name c.bytes.result.now c.loop-name.len
    c.put_more-len.result c.put_more-len-in-Some.result
    c.args.out.now c.loop-name.out c.put_more-len.new.out c.put_more-len-in-Some.new.out c.loop-name.invariant c.in-Some.ensures
    (c.bytes.ensures.value ∙ c.as_name.ensures)
    c.put_more-len.ensures.len c.put_more-len.ensures.bytes c.put_more-len-in-Some.ensures.len c.put_more-len-in-Some.ensures.bytes

pub loop-name-preserved : goal.loop-name-preserved
loop-name-preserved c =
    put_next c.args.names c.loop-name.names c.next.new.self c.in-Some.name c.bytes.result.now c.loop-name.len
    c.put_more-len.result c.put_more-len-in-Some.result
    c.args.out.now c.loop-name.out c.put_more-len.new.out c.put_more-len-in-Some.new.out c.loop-name.invariant c.in-Some.ensures
    (c.bytes.ensures.value ∙ c.as_name.ensures)
    c.put_more-len.ensures.len c.put_more-len.ensures.bytes c.put_more-len-in-Some.ensures.len c.put_more-len-in-Some.ensures.bytes

pub returns : goal.returns
returns c =
    let inv = c.loop-name.invariant in
    let all : inv.front ≡ c.args.names = sym (append-nil inv.front) ∙ ap (λ (t : List (List ℕ)). inv.front ++ t) (sym c.in_default.ensures.0) ∙ inv.whole in
    let whole : slashed inv.front ≡ pathname_of c.args.names = ap slashed all ∙ slashed_all c.args.names (search rules) in
    let same : to_z w64 (of_z w64 c.count_number.result) ≡ c.count_number.result =
    to_z-of_z w64 c.count_number.result (record { sfits = c.count_number.type_inv }) in
    record {
      number = same ∙ c.count_number.ensures ∙ ap count_number inv.len
          ∙ count_same (length (slashed inv.front)) ∙ ap (λ (t : List ℕ). count_number (length t)) whole;
      bytes = inv.bytes ∙ ap (λ (t : List ℕ). overlaid t c.args.out.now) whole;
    }
