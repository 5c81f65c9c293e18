-- Numbers of files and of instances are given in turn.
use Rattle.std.proofs.Common.{◌≡◌, ℕ, zero, suc, ◌+◌, List, [], ◌∷◌, ◌++◌, length, Option, Some, None, refl, sym, subst, arith}
use Rattle.std.specs.FinMap as finmap
use Rattle.std.specs.Option.{option_map_or}
use Rattle.tree_paths.specs.declared.refusal.Refusal.{Refusal}
use Rattle.inode_table.specs.World.{World, File, links, look}
use Rattle.inode_table.specs.Rows.{Label}
use Rattle.tree_ops.specs.declared.call.FileCall.{FileCall}
use Rattle.tree_ops.specs.declared.call.FileCall.TheVariants.{Create, Write, ReadFile, Truncate, Chmod, Mkdir, Link}
use Rattle.tree_ops.specs.declared.call.FileCall.TheVariants.{Unlink, Rmdir, Rename, Rename2, Stat as Status}
use Rattle.tree_ops.specs.declared.call.FileCall.TheVariants.{List as Listed}
use Rattle.tree_ops.specs.declared.answer.Answer.{Answer}
use Rattle.tree_ops.specs.declared.answer.Answer.TheVariants.{Done, Stat}
use Rattle.tree_ops.specs.After as ops
use Rattle.event_rules.specs.Laws.{cookies_from}
use Rattle.instance_table.specs.declared.instance.Instance.{Instance}
use Rattle.instance_table.specs.Instances.{instance_of}
use Rattle.tree_core.specs.declared.call.Call.{Call}
use Rattle.tree_core.specs.declared.call.Call.TheVariants as call
use Rattle.tree_core.specs.declared.reply.Entry.{Entry}
use Rattle.tree_core.specs.declared.reply.Reply.{Reply}
use Rattle.tree_core.specs.declared.reply.Reply.TheVariants as reply
use Rattle.tree_core.specs.Journal.{IsLawfulFrom}
use Rattle.tree_core.specs.Tree.{Tree, counts_of, refusal_of, after_file}
use Rattle.tree_core.specs.Tree.{accepted}
use Rattle.tree_core.specs.Tree.{accepted_reply, after}
use Rattle.tree_core.specs.TurnLaws.{AreInTurn, number_in, numbers_given, NumbersAreInTurn, id_in, ids_given, IdsAreInTurn}
use Rattle.tree_core.proofs.Parts.{watch_answer, read_answer, reply_by, tree_by, number_seen}

-- what a call gives is in turn: what is in turn from the number that comes next after it is so behind it too
pub record Step (now next : ℕ) (given : List ℕ) : Type 0 where
  pub all : (rest : List ℕ) → AreInTurn next rest → AreInTurn now (given ++ rest)

pub gives-none : (now next : ℕ) (given : List ℕ) → given ≡ [] → next ≡ now → Step now next given
gives-none now next given none stays =
    record { all = λ rest h. subst (λ (xs : List ℕ). AreInTurn now (xs ++ rest)) (sym none) (subst (λ (n : ℕ). AreInTurn n rest) stays h) }

pub gives-one : (now next : ℕ) (given : List ℕ) → given ≡ now ∷ [] → next ≡ now + 1 → Step now next given
gives-one now next given one rises =
    record { all = λ rest h. subst (λ (xs : List ℕ). AreInTurn now (xs ++ rest)) (sym one) (refl, subst (λ (n : ℕ). AreInTurn n rest) rises h) }

pub gives-many : (now used : ℕ) → Step now (now + used) (cookies_from now used)
gives-many now zero = gives-none now (now + 0) [] refl (omega arith)
gives-many now (suc used) = record {
  all = λ rest h.
      (refl, (gives-many (now + 1) used).all rest (subst (λ (n : ℕ). AreInTurn n rest) (let same : now + suc used ≡ (now + 1) + used = omega arith in same) h));
}

-- ---- numbers of files

stat-number : (w : World) (p : List Label) → number_in (reply.File (ops.stat_of w p)) ≡ []
unfolding ops.stat_of
stat-number w p = by (finmap.get w.paths p)
  where
    told : ℕ → Option File → Answer
    told n o = option_map_or (λ (f : File). Stat n f.kind f.mode (links w n) (length f.bytes)) o Done

    of : (n : ℕ) (o : Option File) → number_in (reply.File (told n o)) ≡ []
    of n None = refl
    of n (Some f) = refl

    by : (o : Option ℕ) → number_in (reply.File (option_map_or (λ n. told n (finmap.get w.files n)) o Done)) ≡ []
    by None = refl
    by (Some n) = of n (finmap.get w.files n)

watch-number : (number : ℕ) (o : Option Instance) → number_in (watch_answer number o) ≡ []
watch-number number None = refl
watch-number number (Some i) = refl

read-number : (bytes : ℕ) (o : Option Instance) → number_in (read_answer bytes o) ≡ []
read-number bytes None = refl
read-number bytes (Some i) = refl

pub same-number : (n : ℕ) → n + 0 ≡ n
same-number n = omega arith

file-step : (t : Tree) (f : FileCall) → Step t.next_number (t.next_number + ops.numbers_of f) (number_in (reply.File (ops.answer_of t.world (counts_of t) f)))
unfolding ops.stat_of
file-step t (Create p mode) = gives-one _ _ _ refl refl
file-step t (Mkdir p mode) = gives-one _ _ _ refl refl
file-step t (Write p offset bytes) = gives-none _ _ _ refl (same-number t.next_number)
file-step t (ReadFile p offset count) = gives-none _ _ _ refl (same-number t.next_number)
file-step t (Truncate p len) = gives-none _ _ _ refl (same-number t.next_number)
file-step t (Chmod p mode) = gives-none _ _ _ refl (same-number t.next_number)
file-step t (Link old new) = gives-none _ _ _ refl (same-number t.next_number)
file-step t (Unlink p) = gives-none _ _ _ refl (same-number t.next_number)
file-step t (Rmdir p) = gives-none _ _ _ refl (same-number t.next_number)
file-step t (Rename old new) = gives-none _ _ _ refl (same-number t.next_number)
file-step t (Rename2 old new flags) = gives-none _ _ _ refl (same-number t.next_number)
file-step t (Status p) = gives-none _ _ _ (stat-number t.world p) (same-number t.next_number)
file-step t (Listed p) = gives-none _ _ _ refl (same-number t.next_number)

accepted-numbers : (t : Tree) (c : Call) → Step t.next_number (accepted t c).next_number (number_in (accepted_reply t c))
unfolding after_file
accepted-numbers t (call.File f) = file-step t f
accepted-numbers t (call.Init limit is_piped) = gives-none _ _ _ refl refl
accepted-numbers t (call.AddWatch id p mask) = gives-none _ _ _ (watch-number (number_seen (look t.world p)) (instance_of t.instances id)) refl
accepted-numbers t (call.RmWatch id wd) = gives-none _ _ _ refl refl
accepted-numbers t (call.Read id bytes) = gives-none _ _ _ (read-number bytes (instance_of t.instances id)) refl
accepted-numbers t (call.Pump id bytes) = gives-none _ _ _ (read-number bytes (instance_of t.instances id)) refl
accepted-numbers t (call.Close id) = gives-none _ _ _ refl refl

step-numbers : (t : Tree) (c : Call) (o : Option Refusal)
    → Step t.next_number (tree_by o t (accepted t c)).next_number (number_in (reply_by o (accepted_reply t c)))
step-numbers t c None = accepted-numbers t c
step-numbers t c (Some r) = gives-none _ _ _ refl refl

numbers-from : (t : Tree) (es : List Entry) → IsLawfulFrom t es → AreInTurn t.next_number (numbers_given es)
numbers-from t [] h = tt
numbers-from t (e ∷ es) h =
    subst (λ (r : Reply). AreInTurn t.next_number (number_in r ++ numbers_given es)) (sym h.0)
    ((step-numbers t e.call (refusal_of t e.call)).all (numbers_given es) (numbers-from (after t e.call) es h.1))

pub numbers-in-turn : NumbersAreInTurn
numbers-in-turn = numbers-from

-- ---- numbers of instances

watch-id : (number : ℕ) (o : Option Instance) → id_in (watch_answer number o) ≡ []
watch-id number None = refl
watch-id number (Some i) = refl

read-id : (bytes : ℕ) (o : Option Instance) → id_in (read_answer bytes o) ≡ []
read-id bytes None = refl
read-id bytes (Some i) = refl

accepted-ids : (t : Tree) (c : Call) → Step t.next_id (accepted t c).next_id (id_in (accepted_reply t c))
unfolding after_file
accepted-ids t (call.File f) = gives-none _ _ _ refl refl
accepted-ids t (call.Init limit is_piped) = gives-one _ _ _ refl refl
accepted-ids t (call.AddWatch id p mask) = gives-none _ _ _ (watch-id (number_seen (look t.world p)) (instance_of t.instances id)) refl
accepted-ids t (call.RmWatch id wd) = gives-none _ _ _ refl refl
accepted-ids t (call.Read id bytes) = gives-none _ _ _ (read-id bytes (instance_of t.instances id)) refl
accepted-ids t (call.Pump id bytes) = gives-none _ _ _ (read-id bytes (instance_of t.instances id)) refl
accepted-ids t (call.Close id) = gives-none _ _ _ refl refl

step-ids : (t : Tree) (c : Call) (o : Option Refusal) → Step t.next_id (tree_by o t (accepted t c)).next_id (id_in (reply_by o (accepted_reply t c)))
step-ids t c None = accepted-ids t c
step-ids t c (Some r) = gives-none _ _ _ refl refl

ids-from : (t : Tree) (es : List Entry) → IsLawfulFrom t es → AreInTurn t.next_id (ids_given es)
ids-from t [] h = tt
ids-from t (e ∷ es) h =
    subst (λ (r : Reply). AreInTurn t.next_id (id_in r ++ ids_given es)) (sym h.0)
    ((step-ids t e.call (refusal_of t e.call)).all (ids_given es) (ids-from (after t e.call) es h.1))

pub ids-in-turn : IdsAreInTurn
ids-in-turn = ids-from
