use Rattle.std.proofs.Common.{◌≡◌, ◌≤◌, ◌+◌, ◌-◌, ◌++◌, ◌∷◌, [], List, ℕ, length, ltb, take, drop, refl, sym, ap, subst, ◌∙◌}
use Rattle.std.proofs.Common.{append_assoc, arith, length-append, take_all}
use Rattle.std.specs.List.{list_any}
use Rattle.std.specs.Prelude.{filter}
use Rattle.tree_paths.specs.PathText.{IsMarked}
use Rattle.tree_paths.specs.Paths.{names_of, is_null, slashed}
use Rattle.tree_paths.specs.Pieces.{pieces, is_nonempty}
use Rattle.tree_paths.proofs.FrontLemmas.{IsFront, behind_front, behind_is, front_by, is_path, behind_slash, is_cut, names_step, null_step, names_end}
use Rattle.tree_paths.proofs.SlashedLemmas.{slashed-front}
use Rattle.tree_paths.proofs.parse.squeeze.Goals as goal

pub slice_bounds-rest-count : goal.slice_bounds-rest-count
slice_bounds-rest-count c = let is = is_path c.args.text.now c.requires.path in omega (arith, is.some)

pub slice_bounds-rest-start : goal.slice_bounds-rest-start
slice_bounds-rest-start c = let is = is_path c.args.text.now c.requires.path in omega (arith, is.some)

pub loop-rest-init : goal.loop-rest-init
loop-rest-init c =
    let text = c.args.text.now in
    let is = is_path text c.requires.path in
    let e : text ≡ 47 ∷ take (length text - 1) (drop 1 text) = behind_slash text is.some is.first in
    record {
      written = ap (λ (t : List ℕ). slashed (names_of t)) (sym e);
      len = ap (λ (t : List ℕ). 0 + length (slashed (names_of t))) (sym e) ∙ omega (arith, c.requires.len);
      no_null = ap (list_any is_null) (sym e) ∙ is.no_null;
      marked = c.stops_of-stops.ensures;
    }

pub put_front-at-requires : goal.put_front-at-requires
put_front-at-requires c =
    let w = c.loop-rest.rest.now in
    let n = c.next_stop-len.result.0 in
    let ens = c.next_stop-len.ensures in
    let inv = c.loop-rest.invariant in
    let f : IsFront w n = record { within = ens.within; front = ens.front; end = ens.end; no_null = inv.no_null } in
    let split = front_by w n f (ltb n (length w)) refl in
    let front = slashed (filter is_nonempty (take n w ∷ [])) in
    let more = slashed (filter is_nonempty split.0) in
    let e : slashed (names_of w) ≡ front ++ more = ap slashed split.1 ∙ slashed-front (take n w) split.0 in
    let len : length (slashed (names_of w)) ≡ length front + length more = ap (λ (t : List ℕ). length t) e ∙ length-append front more in
    omega (arith, len, inv.len)

pub returns-then-len-rest : goal.returns-then-len-rest
returns-then-len-rest c =
    let w = c.loop-rest.rest.now in
    let n = c.next_stop-len.result.0 in
    let out = c.put_front-at.new.out in
    let inv = c.loop-rest.invariant in
    let front = slashed (filter is_nonempty (take n w ∷ [])) in
    let e : slashed (names_of w) ≡ front = ap slashed (names_end w n c.if-len-rest.true c.next_stop-len.ensures.front) in
    let all : length out ≤ c.put_front-at.result =
    omega (arith, c.put_front-at.auto.out, c.put_front-at.ensures.end, inv.len, ap (λ (t : List ℕ). length t) e) in
    sym (take_all c.put_front-at.result out all) ∙ c.put_front-at.ensures.written
    ∙ ap (λ (t : List ℕ). take c.loop-rest.at c.loop-rest.out ++ t) (sym e) ∙ inv.written

pub loop-rest-preserved : goal.loop-rest-preserved
loop-rest-preserved c =
    let w = c.loop-rest.rest.now in
    let n = c.next_stop-len.result.0 in
    let ens = c.next_stop-len.ensures in
    let inv = c.loop-rest.invariant in
    let f : IsFront w n = record { within = ens.within; front = ens.front; end = ens.end; no_null = inv.no_null } in
    let is = is_cut w n f c.if-len-rest.false in
    let out = c.put_front-at.new.out in
    let front = slashed (filter is_nonempty (take n w ∷ [])) in
    let more = slashed (names_of (behind_front w n)) in
    let e : slashed (names_of w) ≡ front ++ more = ap slashed (names_step w n is) ∙ slashed-front (take n w) (pieces 47 (behind_front w n)) in
    let len : length (slashed (names_of w)) ≡ length front + length more = ap (λ (t : List ℕ). length t) e ∙ length-append front more in
    record {
      written =
          ap (λ (t : List ℕ). t ++ more) c.put_front-at.ensures.written ∙ append_assoc (take c.loop-rest.at c.loop-rest.out) front more
          ∙ ap (λ (t : List ℕ). take c.loop-rest.at c.loop-rest.out ++ t) (sym e) ∙ inv.written;
      len = omega (arith, c.put_front-at.auto.out, c.put_front-at.ensures.end, inv.len, len);
      marked = subst (λ (t : List ℕ). IsMarked t c.next_stop-len.result.1) (behind_is w n) c.next_stop-len.ensures.behind;
      no_null = sym (null_step w n is) ∙ inv.no_null;
    }
