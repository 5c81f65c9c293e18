-- What a reply says about the tree that gave it.
use Rattle.std.proofs.Common.{◌≡◌, ℕ, Bool, true, false, not, ◌&&◌, IsTrue, List, [], ◌∷◌, Option, Some, None, is_none, refl, sym, ap, ◌∙◌}
use Rattle.tree_paths.specs.Rows.{first_row, row}
use Rattle.tree_paths.specs.declared.refusal.Refusal.{Refusal}
use Rattle.tree_paths.specs.declared.refusal.Refusal.TheVariants.{Ebadf, NotPiped, Piped}
use Rattle.inode_table.specs.Refusals.{Look}
use Rattle.inode_table.specs.World.{look}
use Rattle.watch_table.specs.Masks.{known}
use Rattle.instance_table.specs.declared.instance.Instance.{Instance}
use Rattle.instance_table.specs.Instances.{instance_of}
use Rattle.tree_core.specs.declared.call.Call.{Call}
use Rattle.tree_core.specs.declared.call.Call.TheVariants as call
use Rattle.tree_core.specs.declared.reply.Reply.TheVariants as reply
use Rattle.tree_core.specs.Tree.{Tree, refusal_of, add_watch_rows, read_rows, accepted}
use Rattle.tree_core.specs.Tree.{accepted_reply, reply_of}
use Rattle.tree_core.specs.TurnLaws.{RepliesTell}
use Rattle.tree_core.specs.Histories.{events_for, raised_by, raised_to, read_by, records_for, where_open}
use Rattle.tree_core.proofs.Parts.{watch_answer, read_answer, reply_by, tree_by, number_seen}
use Rattle.tree_core.proofs.Counted.{each-passes, row-passes}
use Rattle.tree_core.proofs.OfTree.{of-tree}
use Rattle.tree_core.proofs.Untouched.{next-after}

-- ---- where the instance of a call is open

way-passes : (pumps piped : Bool) → (pumps && not piped) ≡ false → (not pumps && piped) ≡ false → piped ≡ pumps
way-passes true true e h = refl
way-passes true false e h = absurd (cc)
way-passes false true e h = absurd (cc)
way-passes false false e h = refl

-- records are given of an open instance, the way that they are asked for
given-open : (pumps : Bool) (count : ℕ) (bytes : List ℕ) (o : Option Instance) (r : Option Refusal)
    → first_row (read_rows pumps count o) ≡ r → reply_by r (read_answer count o) ≡ reply.Records bytes → (i : Instance) × (o ≡ Some i) × (i.is_piped ≡ pumps)
unfolding read_rows
given-open pumps count bytes o (Some r) passes e = absurd (cc)
given-open pumps count bytes None None passes e = absurd (cc)
given-open pumps count bytes (Some i) None passes e =
    let each = each-passes (read_rows pumps count (Some i)) passes in (
      i,
      refl,
      way-passes pumps i.is_piped (row-passes (pumps && not i.is_piped) NotPiped each.0) (row-passes (not pumps && i.is_piped) Piped each.1.0),
    )

piped-not : {o : Option Instance} → (i : Instance) × (o ≡ Some i) × (i.is_piped ≡ false) → (i : Instance) × (o ≡ Some i) × IsTrue (not i.is_piped)
piped-not w = (w.0, w.1, ap not w.2)

closed-open : (o : Option Instance) (r : Option Refusal) → first_row (row (is_none o) Ebadf ∷ []) ≡ r → reply_by r reply.Done ≡ reply.Done
    → (i : Instance) × (o ≡ Some i)
closed-open o (Some r) passes e = absurd (cc)
closed-open None None passes e = absurd (cc)
closed-open (Some i) None passes e = (i, refl)

-- ---- what accepted calls answer

watch-opens-none : (number id : ℕ) (o : Option Instance) → watch_answer number o ≡ reply.Instance id → ⊥
watch-opens-none number id None e = cc
watch-opens-none number id (Some i) e = cc

read-opens-none : (bytes id : ℕ) (o : Option Instance) → read_answer bytes o ≡ reply.Instance id → ⊥
read-opens-none bytes id None e = cc
read-opens-none bytes id (Some i) e = cc

-- an instance is answered by the call that makes one alone
opened-next : (t : Tree) (c : Call) (id : ℕ) → accepted_reply t c ≡ reply.Instance id → id ≡ t.next_id
opened-next t (call.File f) id e = absurd (cc)
opened-next t (call.Init limit is_piped) id e = cc
opened-next t (call.AddWatch from p mask) id e = absurd (watch-opens-none (number_seen (look t.world p)) id (instance_of t.instances from) e)
opened-next t (call.RmWatch from wd) id e = absurd (cc)
opened-next t (call.Read from bytes) id e = absurd (read-opens-none bytes id (instance_of t.instances from) e)
opened-next t (call.Pump from bytes) id e = absurd (read-opens-none bytes id (instance_of t.instances from) e)
opened-next t (call.Close from) id e = absurd (cc)

opened-by : (t : Tree) (c : Call) (id : ℕ) (o : Option Refusal) → reply_by o (accepted_reply t c) ≡ reply.Instance id → id ≡ t.next_id
opened-by t c id None e = opened-next t c id e
opened-by t c id (Some r) e = absurd (cc)

watch-passes : (at : Look) (p : List (List ℕ)) (mask number : ℕ) (o : Option Instance) (r : Refusal)
    → first_row (add_watch_rows at p mask o) ≡ None → watch_answer number o ≡ reply.Refused r → ⊥
unfolding add_watch_rows
watch-passes at p mask number None r passes e = cc
watch-passes at p mask number (Some i) r passes e = cc

read-passes : (pumps : Bool) (bytes : ℕ) (o : Option Instance) (r : Refusal) → first_row (read_rows pumps bytes o) ≡ None
    → read_answer bytes o ≡ reply.Refused r → ⊥
unfolding read_rows
read-passes pumps bytes None r passes e = cc
read-passes pumps bytes (Some i) r passes e = cc

-- what an accepted call answers is no refusal
no-refusal : (t : Tree) (c : Call) (r : Refusal) → refusal_of t c ≡ None → accepted_reply t c ≡ reply.Refused r → ⊥
no-refusal t (call.File f) r passes e = cc
no-refusal t (call.Init limit is_piped) r passes e = cc
no-refusal t (call.AddWatch id p mask) r passes e =
    watch-passes (look t.world) p (known mask) (number_seen (look t.world p)) (instance_of t.instances id) r passes e
no-refusal t (call.RmWatch id wd) r passes e = cc
no-refusal t (call.Read id bytes) r passes e = read-passes false bytes (instance_of t.instances id) r passes e
no-refusal t (call.Pump id bytes) r passes e = read-passes true bytes (instance_of t.instances id) r passes e
no-refusal t (call.Close id) r passes e = cc

refused-same : (t : Tree) (c : Call) (r : Refusal) (o : Option Refusal) → refusal_of t c ≡ o
    → reply_by o (accepted_reply t c) ≡ reply.Refused r → tree_by o t (accepted t c) ≡ t
refused-same t c r None passes e = absurd (no-refusal t c r passes e)
refused-same t c r (Some s) passes e = refl

nothing-raised : (t : Tree) (c : Call) (r : Refusal) → refusal_of t c ≡ Some r → (id : ℕ) → raised_by t c id ≡ []
unfolding raised_by
nothing-raised t c r e id = ap (λ o. where_open o (instance_of t.instances id) (λ i. raised_to i.queue (events_for t c id i))) e

nothing-read : (t : Tree) (c : Call) (r : Refusal) → refusal_of t c ≡ Some r → (id : ℕ) → read_by t c id ≡ []
unfolding read_by
nothing-read t c r e id = ap (λ o. where_open o (instance_of t.instances id) (records_for c id)) e

-- the refusal in a reply is the call's
refusal-is : (t : Tree) (c : Call) (r : Refusal) (o : Option Refusal) → refusal_of t c ≡ o
    → reply_by o (accepted_reply t c) ≡ reply.Refused r → refusal_of t c ≡ Some r
refusal-is t c r None passes e = absurd (no-refusal t c r passes e)
refusal-is t c r (Some s) passes e = passes ∙ ap Some cc

pub replies-tell : (t : Tree) (c : Call) → RepliesTell t c
replies-tell t c = record {
  read =
      λ id count bytes is e. piped-not
      (given-open false count bytes (instance_of t.instances id) (refusal_of t (call.Read id count)) refl (ap (reply_of t) (sym is) ∙ e));
  pumped =
      λ id count bytes is e. given-open true count bytes (instance_of t.instances id) (refusal_of t (call.Pump id count)) refl (ap (reply_of t) (sym is) ∙ e);
  opened = λ id e. opened-by t c id (refusal_of t c) e;
  closed = λ id is e. closed-open (instance_of t.instances id) (refusal_of t (call.Close id)) refl (ap (reply_of t) (sym is) ∙ e);
  rising = next-after t c;
  refused = λ refusal e.
      let is = refusal-is t c refusal (refusal_of t c) refl e in
      record { tree = refused-same t c refusal (refusal_of t c) refl e; raised = nothing-raised t c refusal is; read = nothing-read t c refusal is };
  of_tree = λ refusal e. of-tree t c refusal (refusal-is t c refusal (refusal_of t c) refl e);
}
