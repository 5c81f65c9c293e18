use Rattle.std.proofs.Common.{◌≡◌, ◌<◌, ◌+◌, true, false, ◌&&◌, ◌||◌, leb, ltb, lt-ltb, List, ℕ, Ok, ap, subst, length, refl, sym, ◌∙◌, arith}
use Rattle.std.specs.List.{list_any, list_all}
use Rattle.tree_paths.specs.PathText.{IsMarked}
use Rattle.tree_paths.specs.Paths.{names_of, is_null, is_dots, is_in_place, is_long, slashed}
use Rattle.tree_paths.proofs.FrontLemmas.{IsCut, behind_is, IsWhole, null_step, dots_step, long_step, count_step, len_step}
use Rattle.tree_paths.proofs.FrontLemmas.{fits_step, one_most, shape_by, null_end, dots_end, long_end, count_end}
use Rattle.tree_paths.proofs.FrontLemmas.{len_end, fits_end, behind_front, fits_max, long_max}
use Rattle.std.proofs.lemmas.Bool.{le-ltb}
use Rattle.tree_paths.proofs.parse.shape_between.Goals as goal

pub returns-then-longest-gt-NAME_MAX : goal.returns-then-longest-gt-NAME_MAX
returns-then-longest-gt-NAME_MAX c =
    let w = c.loop-rest.rest.now in
    let n = c.next_stop-len.result.0 in
    let inv = c.loop-rest.invariant in
    let is : IsWhole w n = record { all = c.if-len-rest.true; front = c.next_stop-len.ensures.front } in
    let null : list_any is_null c.args.text.now ≡ false = inv.null ∙ null_end w n c.if-len-rest.true c.next_stop-len.ensures.front in
    let dots : list_any is_dots (names_of c.args.text.now) ≡ false = inv.dots ∙ dots_end w n is (sym c.has_dots.ensures ∙ c.if-has_dots.false) in
    let long : list_any is_long (names_of c.args.text.now) ≡ true =
    inv.long ∙ long_end w n is (ltb 255 c.loop-rest.longest) ∙ sym (long_max c.loop-rest.longest n c.max-longest.result c.max-longest.ensures)
    ∙ lt-ltb 255 c.max-longest.result c.if-longest-gt-NAME_MAX.true in
    rw (null, dots, long) refl

pub returns-then-len-rest : goal.returns-then-len-rest
returns-then-len-rest c =
    let w = c.loop-rest.rest.now in
    let n = c.next_stop-len.result.0 in
    let inv = c.loop-rest.invariant in
    let is : IsWhole w n = record { all = c.if-len-rest.true; front = c.next_stop-len.ensures.front } in
    let null : list_any is_null c.args.text.now ≡ false = inv.null ∙ null_end w n c.if-len-rest.true c.next_stop-len.ensures.front in
    let dots : list_any is_dots (names_of c.args.text.now) ≡ false = inv.dots ∙ dots_end w n is (sym c.has_dots.ensures ∙ c.if-has_dots.false) in
    let long : list_any is_long (names_of c.args.text.now) ≡ false =
    inv.long ∙ long_end w n is (ltb 255 c.loop-rest.longest) ∙ sym (long_max c.loop-rest.longest n c.max-longest.result c.max-longest.ensures)
    ∙ le-ltb 255 c.max-longest.result c.if-longest-gt-NAME_MAX.false in
    let count : length (names_of c.args.text.now) ≡ c.loop-rest.count + c.from-count.result =
    omega (arith, inv.count, count_end w n is, c.from-count.ensures) in
    let len : length (slashed (names_of c.args.text.now)) ≡ (c.loop-rest.count + c.from-count.result) + (c.loop-rest.bytes + n) =
    omega (arith, inv.len, len_end w n is, c.from-count.ensures) in
    let fits = inv.fits ∙ fits_end w n is (leb c.loop-rest.longest 31) ∙ sym (fits_max c.loop-rest.longest n c.max-longest.result c.max-longest.ensures) in
    rw (null, dots, long) (ap Ok (shape_by (names_of c.args.text.now) _ _ _ count len fits))

pub loop-rest-preserved : goal.loop-rest-preserved
loop-rest-preserved c =
    let w = c.loop-rest.rest.now in
    let n = c.next_stop-len.result.0 in
    let inv = c.loop-rest.invariant in
    let inside : n < length w = omega (arith, c.next_stop-len.ensures.within, c.if-len-rest.false) in
    let is : IsCut w n = record { inside = inside; front = c.next_stop-len.ensures.front; slash = c.if-rest-len-ne-SEPARATOR.false } in
    record {
      null = inv.null ∙ null_step w n is;
      dots = inv.dots ∙ dots_step w n is (sym c.has_dots.ensures ∙ c.if-has_dots.false);
      long = inv.long ∙ long_step w n is (ltb 255 c.loop-rest.longest)
          ∙ ap (λ t. t || list_any is_long (names_of (behind_front w n))) (sym (long_max c.loop-rest.longest n c.max-longest.result c.max-longest.ensures));
      count = omega (arith, inv.count, count_step w n is, c.from-count.ensures);
      len = omega (arith, inv.len, len_step w n is, c.from-count.ensures);
      fits = inv.fits ∙ fits_step w n is (leb c.loop-rest.longest 31)
          ∙ ap (λ t. t && list_all is_in_place (names_of (behind_front w n))) (sym (fits_max c.loop-rest.longest n c.max-longest.result c.max-longest.ensures));
      room = omega (arith, inv.room, c.from-count.ensures, one_most n, inside);
      marked = subst (λ (t : List ℕ). IsMarked t c.next_stop-len.result.1) (behind_is w n) c.next_stop-len.ensures.behind;
    }
