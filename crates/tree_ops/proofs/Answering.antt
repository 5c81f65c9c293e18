-- What calls that only read answer, by their rows.
use Rattle.std.proofs.Common.{◌≡◌, ℕ, List, [], ◌∷◌, Option, Some, None, refl, ap, ◌∙◌}
use Rattle.tree_paths.specs.Rows.{first_row}
use Rattle.tree_paths.specs.declared.limits.Limits.{Limits}
use Rattle.tree_paths.specs.declared.refusal.Refusal.{Refusal}
use Rattle.inode_table.specs.World.{World, look}
use Rattle.inode_table.specs.Refusals.{find}
use Rattle.tree_ops.specs.declared.call.Counts.{Counts}
use Rattle.tree_ops.specs.declared.call.FileCall.{FileCall}
use Rattle.tree_ops.specs.declared.call.FileCall.TheVariants.{ReadFile, Stat, List as Listed}
use Rattle.tree_ops.specs.Refused.{refused, refusal_seen, list_rows, read_rows}
use Rattle.tree_ops.specs.After.{answer_of}
use Rattle.tree_ops.specs.Answered.{answered, answered_by}

pub by-refusal : (w : World) (limits : Limits) (counts : Counts) (call : FileCall) (o : Option Refusal)
    → o ≡ refused w limits counts call → answered_by o (answer_of w counts call) ≡ answered w limits counts call
by-refusal w limits counts call o e = ap (λ x. answered_by x (answer_of w counts call)) e

-- one row alone
alone : (o : Option Refusal) → o ≡ first_row (o ∷ [])
alone None = refl
alone (Some refusal) = refl

-- the rows at the path of each call, as it was resolved
pub stat-row : (w : World) (limits : Limits) (counts : Counts) (p q : List (List ℕ)) (o : Option Refusal) → q ≡ p
    → o ≡ find (look w) q → o ≡ refused w limits counts (Stat p)
unfolding refusal_seen
stat-row w limits counts p q o is e = e ∙ alone (find (look w) q) ∙ ap (λ x. first_row (find (look w) x ∷ [])) is

pub list-row : (w : World) (limits : Limits) (counts : Counts) (p q : List (List ℕ)) (o : Option Refusal) → q ≡ p
    → o ≡ first_row (list_rows (look w) q) → o ≡ refused w limits counts (Listed p)
unfolding refusal_seen
list-row w limits counts p q o is e = e ∙ ap (λ x. first_row (list_rows (look w) x)) is

pub read-row : (w : World) (limits : Limits) (counts : Counts) (p q : List (List ℕ)) (offset count : ℕ) (o : Option Refusal)
    → q ≡ p → o ≡ first_row (read_rows (look w) q) → o ≡ refused w limits counts (ReadFile p offset count)
unfolding refusal_seen
read-row w limits counts p q offset count o is e = e ∙ ap (λ x. first_row (read_rows (look w) x)) is
