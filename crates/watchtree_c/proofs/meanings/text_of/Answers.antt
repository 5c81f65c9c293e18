use Rattle.std.proofs.Common.{◌≡◌, Some, sym, ap, ◌∙◌, arith, pos}
use Rattle.std.specs.Prelude.{neg_ℤ}
use Rattle.std.proofs.lemmas.Int.{ints}
use Rattle.std.proofs.lemmas.Grind.{common_steps}
use Rattle.tree_paths.specs.Refusals.{refusal_number}
use Rattle.watchtree_c.specs.Lines.{fault_number}
use Rattle.watchtree_c.specs.Meanings.{refusal_text}
use Rattle.watchtree_c.proofs.Numbers.{no_fault, one_refusal, same_number}
use Rattle.watchtree_c.proofs.meanings.text_of.Goals as goal

pub returns-in-Some : goal.returns-in-Some
returns-in-Some c =
    let n = c.in-Ok.number in
    let r = c.in-Some.refusal in
    let number : c.args.number ≡ neg_ℤ (pos n) = grind (arith, ints, common_steps) in
    let is : n ≡ refusal_number r = c.in-Some.ensures.some in
    record {
      refusal = λ s e. ap Some (c.refusal_text.ensures ∙ ap refusal_text (one_refusal r s (sym is ∙ same_number n (refusal_number s) (sym number ∙ e))));
      fault = λ f e. absurd (no_fault r f (sym is ∙ same_number n (fault_number f) (sym number ∙ e)));
      other = λ none others. absurd (none r (number ∙ ap (λ k. neg_ℤ (pos k)) is));
    }
