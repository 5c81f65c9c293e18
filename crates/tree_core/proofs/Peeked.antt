-- What a file system shows of its tree where no call is made.
use Rattle.std.proofs.Common.{◌≡◌, ℕ, ◌-◌, List, [], ◌∷◌, length, Option, Some, None, refl, sym, ap, ◌∙◌, inl, inr, arith}
use Rattle.std.specs.List.{last_or, slice_get}
use Rattle.std.specs.Prelude.{option_map, Result, Ok, Err, IfOk, IfErr, ◌⊎◌}
use Rattle.record_codec.specs.Records.{spelling}
use Rattle.tree_paths.specs.declared.refusal.Refusal.{Refusal}
use Rattle.tree_paths.specs.declared.refusal.Refusal.TheVariants.{Enomem}
use Rattle.inode_table.specs.TableWorld.{world_of}
use Rattle.instance_table.specs.declared.instance.Instance.{Instance}
use Rattle.instance_table.specs.Instances.{instance_of}
use Rattle.tree_ops.specs.declared.answer.Answer.{Answer}
use Rattle.tree_ops.specs.declared.call.FileCall.{FileCall}
use Rattle.tree_ops.specs.Refused.{refused}
use Rattle.tree_ops.specs.After.{answer_of}
use Rattle.tree_ops.specs.Answered.{answered, answered_by}
use Rattle.tree_core.specs.declared.call.Call.TheVariants as call
use Rattle.tree_core.specs.declared.file_system.FileSystem.{FileSystem}
use Rattle.tree_core.specs.declared.reply.Reply.{Reply}
use Rattle.tree_core.specs.declared.reply.Reply.TheVariants as reply
use Rattle.tree_core.specs.Peeks.{bytes_waiting_in}
use Rattle.tree_core.specs.FileSystems.{tree_in}
use Rattle.tree_core.specs.Tree.{Tree, counts_of, reply_of}
use Rattle.tree_core.proofs.Parts.{reply_by}

pub bytes-file_system : (t : Tree) (m : FileSystem) (id : ℕ) (o : Option Instance) → tree_in m ≡ t
    → o ≡ instance_of m.instances id → option_map (λ (i : Instance). length (spelling i.queue.waiting)) o ≡ bytes_waiting_in t id
unfolding bytes_waiting_in
bytes-file_system t m id o is there =
    ap (option_map (λ (i : Instance). length (spelling i.queue.waiting))) (there ∙ ap (λ (x : Tree). instance_of x.instances id) is)

-- the reply that an answer is, or a refusal
abbrev pub as_reply : Result Answer Refusal → Reply
as_reply (Ok answer) = reply.File answer
as_reply (Err refusal) = reply.Refused refusal

by-rows : (o : Option Refusal) (a : Answer) → reply_by o (reply.File a) ≡ as_reply (answered_by o a)
by-rows (Some refusal) a = refl
by-rows None a = refl

-- what the files answer is the reply of the tree
pub replied : (t : Tree) (m : FileSystem) (f : FileCall) (r : Result Answer Refusal) → tree_in m ≡ t
    → answered (world_of m.table) m.limits (counts_of (tree_in m)) f ≡ r → reply_of t (call.File f) ≡ as_reply r
replied t m f r is e =
    ap (λ (x : Tree). reply_of x (call.File f)) (sym is)
    ∙ by-rows (refused (world_of m.table) m.limits (counts_of (tree_in m)) f) (answer_of (world_of m.table) (counts_of (tree_in m)) f)
    ∙ ap as_reply e

module _ (t : Tree) (m : FileSystem) (f : FileCall) where
  abbrev pub said : Result Answer Refusal
  said = answered (world_of m.table) m.limits (counts_of (tree_in m)) f

  pub said-ok : {X : Type 0} (g : X → Answer) → tree_in m ≡ t → (r : Result X Refusal) → IfOk r (λ x. said ≡ Ok (g x))
      → IfOk r (λ x. reply_of t (call.File f) ≡ reply.File (g x))
  said-ok g is (Ok x) e = replied t m f (Ok (g x)) is e
  said-ok g is (Err refusal) e = tt

  pub said-err : {X : Type 0} → tree_in m ≡ t → (r : Result X Refusal) → IfErr r (λ refusal. said ≡ Err refusal)
      → IfErr r (λ refusal. reply_of t (call.File f) ≡ reply.Refused refusal)
  said-err is (Ok x) e = tt
  said-err is (Err refusal) e = replied t m f (Err refusal) is e

  pub may-err : {X : Type 0} → tree_in m ≡ t → (r : Result X Refusal) → IfErr r (λ refusal. (said ≡ Err refusal) ⊎ (refusal ≡ Enomem))
      → IfErr r (λ refusal. (reply_of t (call.File f) ≡ reply.Refused refusal) ⊎ (refusal ≡ Enomem))
  may-err is (Ok x) e = tt
  may-err is (Err refusal) (inl e) = inl (replied t m f (Err refusal) is e)
  may-err is (Err refusal) (inr e) = inr e

-- what an equation on a result says of its answer, and of its refusal
pub of-answer : (r s : Result Answer Refusal) → r ≡ s → IfOk r (λ a. s ≡ Ok a) × IfErr r (λ refusal. s ≡ Err refusal)
of-answer (Ok a) s e = (sym e, tt)
of-answer (Err refusal) s e = (tt, sym e)

-- the last element, counted from the front
last_or-get : {A : Type 0} (o : Option A) (x : A) (xs : List A) → slice_get (x ∷ xs) (length xs) ≡ last_or o (x ∷ xs)
last_or-get o x [] = refl
last_or-get o x (y ∷ ys) = last_or-get (Some x) y ys

pub last-get : {A : Type 0} (xs : List A) → slice_get xs (length xs - 1) ≡ last_or None xs
last-get [] = refl
last-get (x ∷ xs) = let e : length (x ∷ xs) - 1 ≡ length xs = omega arith in ap (slice_get (x ∷ xs)) e ∙ last_or-get None x xs
