-- Fronts of paths.
use Rattle.std.proofs.Common.{◌≡◌, true, false, cond, List, [], ◌∷◌, ◌++◌, Some, None, refl, sym, ap, ◌∙◌}
use Rattle.std.specs.Cmp.Lexicographic.{nat_list_cmp_total}
use Rattle.inode_table.specs.Rows.{Label, same_label}
use Rattle.tree_paths.specs.Paths.{rest_after}
use Rattle.tree_ops.proofs.Keys.{tested, itself, name_exact}

pub rest_after-append : (p s : List Label) → rest_after p (p ++ s) ≡ Some s
rest_after-append [] s = refl
rest_after-append (l ∷ p) s = ap (λ b. cond b (rest_after p (p ++ s)) None) (itself nat_list_cmp_total name_exact l l refl) ∙ rest_after-append p s

pub rest_after-some : (p q s : List Label) → rest_after p q ≡ Some s → q ≡ p ++ s
rest_after-some [] q s e = cc
rest_after-some (l ∷ p) [] s e = absurd (cc)
rest_after-some (l ∷ p) (m ∷ q) s e =
    elim (same_label l m) as (λ b. same_label l m ≡ b → cond b (rest_after p q) None ≡ Some s → m ∷ q ≡ (l ∷ p) ++ s) [
      | true ↦ λ t f i. sym (tested nat_list_cmp_total name_exact l m t) i ∷ rest_after-some p q s f i
      | false ↦ λ t f. absurd (cc)
    ] refl e
