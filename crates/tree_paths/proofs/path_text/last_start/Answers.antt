use Rattle.std.proofs.Common.{◌≡◌, ◌-◌, ◌+◌, ◌<◌, ◌≤◌, ℕ, true, drop, length, get_or, subst, sym, ap, ◌∙◌, arith}
use Rattle.std.specs.List.{list_all}
use Rattle.std.proofs.lemmas.Bool.{ne_eqb}
use Rattle.tree_paths.specs.PathText.{is_other}
use Rattle.tree_paths.proofs.SlashedLemmas.{above-first, others-more}
use Rattle.std.proofs.lemmas.List.{drop_all}
use Rattle.tree_paths.proofs.LastLemmas.{last-start-by, all-others}
use Rattle.tree_paths.proofs.path_text.last_start.Goals as goal
use Rattle.tree_paths.proofs.path_text.last_start.Goals.{then-start-gt-BLOCK+else-slashes-ne0, else-start-gt-BLOCK}

pub returns-then-slashes-ne0 : goal.returns-then-slashes-ne0
returns-then-slashes-ne0 c =
    last-start-by c.args.text.now (length c.args.text.now - 16) c.last_slashes-slashes.result c.ilog2.result (omega arith)
    c.last_slashes-slashes.ensures c.ilog2.ensures.power_le c.ilog2.ensures.next_power_gt

pub loop-start-init : goal.loop-start-init
loop-start-init c =
    let text = c.args.text.now in
    elim c.if-start-gt-BLOCK.branch [
      | then-start-gt-BLOCK+else-slashes-ne0 w ↦
          let some : 0 < length text - 16 = omega (arith, w.if-start-gt-BLOCK.true) in
          let within : length text - 16 ≤ length text = omega arith in
          let none = all-others (drop (length text - 16) text) (sym w.last_slashes-slashes.ensures ∙ w.if-slashes-ne0.false) in
          record {
            some = subst (λ (n : ℕ). 0 < n) (sym w.start-is) some;
            within = subst (λ (n : ℕ). n ≤ length text) (sym w.start-is) within;
            none = subst (λ (n : ℕ). list_all is_other (drop n text) ≡ true) (sym w.start-is) none;
          }
      | else-start-gt-BLOCK w ↦
          let within : length text ≤ length text = omega arith in
          record {
            some = subst (λ (n : ℕ). 0 < n) (sym w.start-is) c.requires.some;
            within = subst (λ (n : ℕ). n ≤ length text) (sym w.start-is) within;
            none = ap (λ (n : ℕ). list_all is_other (drop n text)) w.start-is ∙ ap (list_all is_other) (drop_all (length text) text within);
          }
    ]

pub loop-start-preserved : goal.loop-start-preserved
loop-start-preserved c =
    let text = c.args.text.now in
    let start = c.loop-start.start in
    let inv = c.loop-start.invariant in
    let behind : start ≡ start - 1 + 1 = omega (arith, inv.some) in
    let none : list_all is_other (drop (start - 1 + 1) text) ≡ true = subst (λ (n : ℕ). list_all is_other (drop n text) ≡ true) behind inv.none in
    record {
      some = above-first text start c.requires.slashed inv.some inv.within c.loop-start-test.true;
      within = omega (arith, inv.within);
      none = others-more text (start - 1) (omega (arith, inv.some, inv.within)) (ne_eqb (get_or text (start - 1) 0) 47 c.loop-start-test.true) none;
    }
