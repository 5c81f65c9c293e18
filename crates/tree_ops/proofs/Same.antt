-- The derived tests decide whether two calls, or two answers, are the same.
use Rattle.std.proofs.Common.{rules, ◌≡◌, ◌↔◌, IsTrue}
use Rattle.record_codec.proofs.Equal.{names_eq_decides}
use Rattle.tree_ops.specs.declared.answer.Answer.{Answer}
use Rattle.tree_ops.specs.declared.answer.Answer.TheVariants as answer
use Rattle.tree_ops.specs.declared.call.FileCall.{FileCall}
use Rattle.tree_ops.specs.declared.call.FileCall.TheVariants.{Create, Mkdir, Write, ReadFile, Truncate, Chmod, Link}
use Rattle.tree_ops.specs.declared.call.FileCall.TheVariants.{Unlink, Rmdir, Rename, Rename2, Stat, List as Listed}
use Rattle.tree_ops.specs.contracts.answer.AnswerPartialEq.TheImpl as answers
use Rattle.tree_ops.specs.contracts.call.FileCallPartialEq.TheImpl as calls

pub calls_same : (a b : FileCall) → IsTrue (calls.ghosts.eq a b) ↔ (a ≡ b)
calls_same (Create p m) b =
    elim b as (λ b. IsTrue (calls.ghosts.eq (Create p m) b) ↔ (Create p m ≡ b)) [ Create q n ↦ search (rules, names_eq_decides) | _ ↦ search rules ]
calls_same (Mkdir p m) b =
    elim b as (λ b. IsTrue (calls.ghosts.eq (Mkdir p m) b) ↔ (Mkdir p m ≡ b)) [ Mkdir q n ↦ search (rules, names_eq_decides) | _ ↦ search rules ]
calls_same (Write p o x) b =
    elim b as (λ b. IsTrue (calls.ghosts.eq (Write p o x) b) ↔ (Write p o x ≡ b)) [ Write q n y ↦ search (rules, names_eq_decides) | _ ↦ search rules ]
calls_same (ReadFile p o m) b =
    elim b as (λ b. IsTrue (calls.ghosts.eq (ReadFile p o m) b) ↔ (ReadFile p o m ≡ b))
    [ ReadFile q n k ↦ search (rules, names_eq_decides) | _ ↦ search rules ]
calls_same (Truncate p m) b =
    elim b as (λ b. IsTrue (calls.ghosts.eq (Truncate p m) b) ↔ (Truncate p m ≡ b)) [ Truncate q n ↦ search (rules, names_eq_decides) | _ ↦ search rules ]
calls_same (Chmod p m) b =
    elim b as (λ b. IsTrue (calls.ghosts.eq (Chmod p m) b) ↔ (Chmod p m ≡ b)) [ Chmod q n ↦ search (rules, names_eq_decides) | _ ↦ search rules ]
calls_same (Link p m) b =
    elim b as (λ b. IsTrue (calls.ghosts.eq (Link p m) b) ↔ (Link p m ≡ b)) [ Link q n ↦ search (rules, names_eq_decides) | _ ↦ search rules ]
calls_same (Unlink p) b =
    elim b as (λ b. IsTrue (calls.ghosts.eq (Unlink p) b) ↔ (Unlink p ≡ b)) [ Unlink q ↦ search (rules, names_eq_decides) | _ ↦ search rules ]
calls_same (Rmdir p) b = elim b as (λ b. IsTrue (calls.ghosts.eq (Rmdir p) b) ↔ (Rmdir p ≡ b)) [ Rmdir q ↦ search (rules, names_eq_decides) | _ ↦ search rules ]
calls_same (Rename p m) b =
    elim b as (λ b. IsTrue (calls.ghosts.eq (Rename p m) b) ↔ (Rename p m ≡ b)) [ Rename q n ↦ search (rules, names_eq_decides) | _ ↦ search rules ]
calls_same (Rename2 p m k) b =
    elim b as (λ b. IsTrue (calls.ghosts.eq (Rename2 p m k) b) ↔ (Rename2 p m k ≡ b)) [ Rename2 q n l ↦ search (rules, names_eq_decides) | _ ↦ search rules ]
calls_same (Stat p) b = elim b as (λ b. IsTrue (calls.ghosts.eq (Stat p) b) ↔ (Stat p ≡ b)) [ Stat q ↦ search (rules, names_eq_decides) | _ ↦ search rules ]
calls_same (Listed p) b =
    elim b as (λ b. IsTrue (calls.ghosts.eq (Listed p) b) ↔ (Listed p ≡ b)) [ Listed q ↦ search (rules, names_eq_decides) | _ ↦ search rules ]

pub answers_same : (a b : Answer) → IsTrue (answers.ghosts.eq a b) ↔ (a ≡ b)
answers_same answer.Done b = elim b as (λ b. IsTrue (answers.ghosts.eq answer.Done b) ↔ (answer.Done ≡ b)) [ answer.Done ↦ search rules | _ ↦ search rules ]
answers_same (answer.Number n) b =
    elim b as (λ b. IsTrue (answers.ghosts.eq (answer.Number n) b) ↔ (answer.Number n ≡ b)) [ answer.Number m ↦ search rules | _ ↦ search rules ]
answers_same (answer.Count n) b =
    elim b as (λ b. IsTrue (answers.ghosts.eq (answer.Count n) b) ↔ (answer.Count n ≡ b)) [ answer.Count m ↦ search rules | _ ↦ search rules ]
answers_same (answer.Bytes x) b =
    elim b as (λ b. IsTrue (answers.ghosts.eq (answer.Bytes x) b) ↔ (answer.Bytes x ≡ b)) [ answer.Bytes y ↦ search rules | _ ↦ search rules ]
answers_same (answer.Names x) b =
    elim b as (λ b. IsTrue (answers.ghosts.eq (answer.Names x) b) ↔ (answer.Names x ≡ b))
    [ answer.Names y ↦ search (rules, names_eq_decides) | _ ↦ search rules ]
answers_same (answer.Stat n k m l s) b =
    elim b as (λ b. IsTrue (answers.ghosts.eq (answer.Stat n k m l s) b) ↔ (answer.Stat n k m l s ≡ b))
    [ answer.Stat a b c d e ↦ search rules | _ ↦ search rules ]
