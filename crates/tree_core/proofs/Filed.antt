-- File systems on whose table a call on files was carried out.
use Rattle.std.proofs.Common.{◌≡◌, ◌+◌, Bool, true, false, None, Ok, refl, sym, ap, subst, ◌∙◌, add-zero}
use Rattle.std.proofs.lemmas.Bool.{false≢true}
use Rattle.inode_table.specs.Tree as table
use Rattle.inode_table.specs.TableWorld.{world_of, HasNumbersBelow}
use Rattle.inode_table.specs.World.{World}
use Rattle.tree_ops.specs.declared.call.Counts.{Counts}
use Rattle.tree_ops.specs.declared.call.FileCall.{FileCall}
use Rattle.tree_ops.specs.declared.call.FileCall.TheVariants.{Create, Write, ReadFile, Truncate, Chmod, Mkdir, Link}
use Rattle.tree_ops.specs.declared.call.FileCall.TheVariants.{Unlink, Rmdir, Rename, Rename2, Stat as Status}
use Rattle.tree_ops.specs.declared.call.FileCall.TheVariants.{List as Listed}
use Rattle.tree_ops.specs.declared.answer.Answer.{Answer}
use Rattle.tree_ops.specs.ReadyCall.{PlanValue}
use Rattle.tree_ops.specs.Moves.{cookies_of}
use Rattle.tree_ops.specs.Refused.{refused}
use Rattle.tree_ops.specs.After as ops
use Rattle.event_rules.specs.Table.{notices_of}
use Rattle.instance_table.specs.Instances.{Instances, all_changed, told}
use Rattle.tree_core.specs.declared.call.Call.TheVariants as call
use Rattle.tree_core.specs.declared.file_system.FileSystem.{FileSystem}
use Rattle.tree_core.specs.declared.file_system.Rest.{Rest}
use Rattle.tree_core.specs.declared.reply.Reply.TheVariants as reply
use Rattle.tree_core.specs.Calls.{has_list}
use Rattle.tree_core.specs.Tree.{Tree, cookie_now, counts_of, after_file}
use Rattle.tree_core.specs.FileSystems.{tree_in, Attempts, CanFinish, IsNumbered, LeadsTo, finished, rest_of}
use Rattle.tree_core.proofs.Counted.{IsCounted-filed}

-- a table on which a call was carried out, and what that answered
pub record IsCarriedOut (t : Tree) (f : FileCall) (u : table.TableValue) (said : Answer) : Type 0 where
  pub world : world_of u ≡ ops.after t.world (counts_of t) f
  pub given : HasNumbersBelow (ops.after t.world (counts_of t) f) (t.next_number + ops.numbers_of f)
  pub answer : said ≡ ops.answer_of t.world (counts_of t) f

pub IsCarriedOut-checked : (t : Tree) (f : FileCall) (plan : PlanValue) (u : table.TableValue) (said : Answer) → plan.call ≡ f → plan.counts ≡ counts_of t
    → world_of u ≡ ops.after t.world plan.counts plan.call → HasNumbersBelow (world_of u) (plan.counts.next_number + ops.numbers_of plan.call)
    → said ≡ ops.answer_of t.world plan.counts plan.call → IsCarriedOut t f u said
IsCarriedOut-checked t f plan u said call counts world given answer =
    let same : world_of u ≡ ops.after t.world (counts_of t) f = world ∙ (λ i. ops.after t.world (counts i) (call i)) in
    record {
      world = same;
      given =
          subst (λ (x : World). HasNumbersBelow x (t.next_number + ops.numbers_of f)) same
          (subst (λ (x : Counts × FileCall). HasNumbersBelow (world_of u) (x.0.next_number + ops.numbers_of x.1)) (λ i. (counts i, call i)) given);
      answer = answer ∙ (λ i. ops.answer_of t.world (counts i) (call i));
    }

-- a call that leaves the files as they were, and counts nothing
pub record ChangesNothing (w : World) (counts : Counts) (f : FileCall) : Type 0 where
  pub world : ops.after w counts f ≡ w
  pub numbers : ops.numbers_of f ≡ 0
  pub cookies : cookies_of w f ≡ 0

-- a call that answers a list reads alone
lists-change-nothing : (w : World) (counts : Counts) (f : FileCall) → has_list (ops.answer_of w counts f) ≡ true → ChangesNothing w counts f
lists-change-nothing w counts (Create p mode) e = absurd (false≢true e)
lists-change-nothing w counts (Mkdir p mode) e = absurd (false≢true e)
lists-change-nothing w counts (Write p offset bytes) e = absurd (false≢true e)
lists-change-nothing w counts (ReadFile p offset count) e = record { world = refl; numbers = refl; cookies = refl }
lists-change-nothing w counts (Truncate p len) e = absurd (false≢true e)
lists-change-nothing w counts (Chmod p mode) e = absurd (false≢true e)
lists-change-nothing w counts (Link old new) e = absurd (false≢true e)
lists-change-nothing w counts (Unlink p) e = absurd (false≢true e)
lists-change-nothing w counts (Rmdir p) e = absurd (false≢true e)
lists-change-nothing w counts (Rename old new) e = absurd (false≢true e)
lists-change-nothing w counts (Rename2 old new flags) e = absurd (false≢true e)
lists-change-nothing w counts (Status p) e = record { world = refl; numbers = refl; cookies = refl }
lists-change-nothing w counts (Listed p) e = record { world = refl; numbers = refl; cookies = refl }

-- a file system with another table
pub tree_in-table : (m : FileSystem) (u : table.TableValue) → world_of u ≡ world_of m.table → tree_in (record m { table = u }) ≡ tree_in m
tree_in-table m u same = λ i. record (tree_in m) { world = same i }

pub IsNumbered-filed : (t : Tree) (f : FileCall) (u : table.TableValue) (said : Answer) → IsNumbered t
    → refused t.world t.limits (counts_of t) f ≡ None → IsCarriedOut t f u said → IsNumbered (after_file t f)
unfolding after_file
IsNumbered-filed t f u said is none done = record { counted = IsCounted-filed t f is.counted none; given = done.given }

-- a call that was carried out and answers a list left the tree as it was
filed-listed : (m n : FileSystem) (f : FileCall) (said : Answer) → IsCarriedOut (tree_in m) f n.table said
    → n.limits ≡ m.limits → n.next_number ≡ m.next_number + ops.numbers_of f
    → n.next_cookie ≡ m.next_cookie + cookies_of (world_of m.table) f → n.next_id ≡ m.next_id → n.instances ≡ m.instances
    → has_list said ≡ true → tree_in n ≡ tree_in m
filed-listed m n f said done limits number cookie id instances e =
    let none = lists-change-nothing (world_of m.table) (counts_of (tree_in m)) f (ap has_list (sym done.answer) ∙ e) in
    λ i. record {
      limits = limits i;
      world = (done.world ∙ none.world) i;
      next_number = (number ∙ ap (λ k. m.next_number + k) none.numbers ∙ add-zero m.next_number) i;
      next_cookie = (cookie ∙ ap (λ k. m.next_cookie + k) none.cookies ∙ add-zero m.next_cookie) i;
      next_id = id i;
      instances = instances i;
    }

-- what is left to do can be done, and leads to these instances
can-finish : (n : FileSystem) (b : Bool) (after : Instances) → LeadsTo b n.instances n.notices n.staging after → CanFinish n (rest_of b)
can-finish n true after leads = leads.0
can-finish n false after leads = tt

finished-is : (n : FileSystem) (b : Bool) (after : Instances) → LeadsTo b n.instances n.notices n.staging after
    → finished n (rest_of b) ≡ record (tree_in n) { instances = after }
finished-is n true after leads = λ i. record (tree_in n) { instances = leads.1 i }
finished-is n false after leads = λ i. record (tree_in n) { instances = leads i }

-- a call that was carried out and counted, whose notices are staged if any file is watched
pub filed-attempts : (m n : FileSystem) (f : FileCall) (said : Answer) → IsCarriedOut (tree_in m) f n.table said
    → refused (world_of m.table) m.limits (counts_of (tree_in m)) f ≡ None → IsNumbered (tree_in m)
    → n.limits ≡ m.limits → n.next_number ≡ m.next_number + ops.numbers_of f
    → n.next_cookie ≡ m.next_cookie + cookies_of (world_of m.table) f → n.next_id ≡ m.next_id → n.instances ≡ m.instances
    → (b : Bool) (rest : Rest) → rest ≡ rest_of b
    → LeadsTo b n.instances n.notices n.staging (all_changed m.instances (told (notices_of (world_of m.table) f (cookie_now m.next_cookie))))
    → Attempts m (call.File f) (Ok (record { reply = reply.File said; rest = rest })) n
unfolding after_file
filed-attempts m n f said done passes numbered limits number cookie id instances b rest is leads =
    let heard : Instances = all_changed m.instances (told (notices_of (world_of m.table) f (cookie_now m.next_cookie))) in
    record {
      passes = passes;
      reply = ap reply.File done.answer;
      rest = subst (CanFinish n) (sym is) (can-finish n b heard leads);
      tree =
          ap (finished n) is ∙ finished-is n b heard leads
          ∙ (λ i. record {
            limits = limits i;
            world = done.world i;
            next_number = number i;
            next_cookie = cookie i;
            next_id = id i;
            instances = heard;
          });
      begun = filed-listed m n f said done limits number cookie id instances;
      numbered = IsNumbered-filed (tree_in m) f n.table said numbered passes done;
      refused = tt;
      err = tt;
    }
