use Rattle.std.proofs.Common.{◌≡◌, ◌-◌, ◌++◌, ◌∷◌, [], length, take, drop, sym, ap, ◌∙◌, arith}
use Rattle.std.proofs.lemmas.List.{length-take-le, append-nil}
use Rattle.std.specs.List.{list_any, list_all}
use Rattle.record_codec.specs.Names.{is_name}
use Rattle.tree_paths.specs.Paths.{names_of, is_null}
use Rattle.tree_paths.proofs.FrontLemmas.{IsFront, behind_front, is_path, behind_slash, is_cut, front_is_name}
use Rattle.tree_paths.proofs.FrontLemmas.{names_step, named_step, null_step, names_end, pushed, passed}
use Rattle.tree_paths.specs.Pieces.{pieces}
use Rattle.tree_paths.proofs.parse.names_in.Goals as goal
use Rattle.tree_paths.proofs.parse.names_in.Goals.{then-len-gt0+in_ok-from_bytes+in_ok-push, else-len-gt0}

pub slice_bounds-rest-count : goal.slice_bounds-rest-count
slice_bounds-rest-count c = let is = is_path c.args.text.now c.requires in omega (arith, is.some)

pub slice_bounds-rest-start : goal.slice_bounds-rest-start
slice_bounds-rest-start c = let is = is_path c.args.text.now c.requires in omega (arith, is.some)

pub loop-names-init : goal.loop-names-init
loop-names-init c =
    let text = c.args.text.now in
    let is = is_path text c.requires in
    let e : text ≡ 47 ∷ take (length text - 1) (drop 1 text) = behind_slash text is.some is.first in
    let none : c.in_ok-names.names.items ≡ [] = c.in_ok-names.ensures.items in
    record {
      names = rw none (ap names_of e);
      named = ap (list_all is_name) (ap names_of (sym e)) ∙ is.named;
      no_null = ap (list_any is_null) (sym e) ∙ is.no_null;
    }

pub from_bytes-requires : goal.from_bytes-requires
from_bytes-requires c =
    let w = c.loop-names.rest.now in
    let n = c.front_len-len.result in
    let ens = c.front_len-len.ensures in
    let inv = c.loop-names.invariant in
    let f : IsFront w n = record { within = ens.within; front = ens.front; end = ens.end; no_null = inv.no_null } in
    front_is_name w n f c.if-len-gt0.true inv.named

pub returns-then-len-rest : goal.returns-then-len-rest
returns-then-len-rest c =
    let w = c.loop-names.rest.now in
    let n = c.front_len-len.result in
    let ens = c.front_len-len.ensures in
    let inv = c.loop-names.invariant in
    let e = inv.names ∙ ap (λ t. c.loop-names.names.items ++ t) (names_end w n c.if-len-rest.true ens.front) in
    let t = take n w in
    let len : length t ≡ n = length-take-le n w ens.within in
    let all : names_of c.args.text.now ≡ c.if-len-gt0.names.items ++ [] = elim c.if-len-gt0.branch [
      | then-len-gt0+in_ok-from_bytes+in_ok-push b ↦
          pushed (names_of c.args.text.now) c.loop-names.names.items c.if-len-gt0.names.items t [] e (omega (arith, len, b.if-len-gt0.true))
          (ap (λ v. v.items) b.names-is ∙ b.in_ok-push.ensures.items ∙ ap (λ x. c.loop-names.names.items ++ x ∷ []) b.in_ok-from_bytes.ensures.same)
      | else-len-gt0 b ↦
          passed (names_of c.args.text.now) c.loop-names.names.items c.if-len-gt0.names.items t [] e
          (omega (arith, len, b.if-len-gt0.false)) (ap (λ v. v.items) b.names-is)
    ] in
    sym (all ∙ append-nil c.if-len-gt0.names.items)

pub loop-names-preserved : goal.loop-names-preserved
loop-names-preserved c =
    let w = c.loop-names.rest.now in
    let n = c.front_len-len.result in
    let ens = c.front_len-len.ensures in
    let inv = c.loop-names.invariant in
    let f : IsFront w n = record { within = ens.within; front = ens.front; end = ens.end; no_null = inv.no_null } in
    let is = is_cut w n f c.if-len-rest.false in
    let e = inv.names ∙ ap (λ t. c.loop-names.names.items ++ t) (names_step w n is) in
    let t = take n w in
    let ps = pieces 47 (behind_front w n) in
    let len : length t ≡ n = length-take-le n w ens.within in
    record {
      names = elim c.if-len-gt0.branch [
        | then-len-gt0+in_ok-from_bytes+in_ok-push b ↦
            pushed (names_of c.args.text.now) c.loop-names.names.items c.if-len-gt0.names.items t ps e (omega (arith, len, b.if-len-gt0.true))
            (ap (λ v. v.items) b.names-is ∙ b.in_ok-push.ensures.items ∙ ap (λ x. c.loop-names.names.items ++ x ∷ []) b.in_ok-from_bytes.ensures.same)
        | else-len-gt0 b ↦
            passed (names_of c.args.text.now) c.loop-names.names.items c.if-len-gt0.names.items t ps e
            (omega (arith, len, b.if-len-gt0.false)) (ap (λ v. v.items) b.names-is)
      ];
      named = named_step w n is inv.named;
      no_null = sym (null_step w n is) ∙ inv.no_null;
    }
