-- The queue that a raised event found is what had joined and was not read yet.
use Rattle.std.proofs.Common.{◌≡◌, List, [], ◌∷◌, ◌++◌, Option, Some, None, refl, sym, ap, subst, ◌∙◌, append_assoc, append-nil}
use Rattle.record_codec.specs.declared.event.Event.{Event}
use Rattle.tree_paths.specs.declared.refusal.Refusal.{Refusal}
use Rattle.event_queue.specs.Backlogs.{Backlog, offered, joining, after_offer}
use Rattle.instance_table.specs.declared.instance.Instance.{Instance}
use Rattle.instance_table.specs.Instances.{instance_of, waiting_of}
use Rattle.tree_core.specs.Tree.{refusal_of}
use Rattle.tree_core.specs.Journal.{tree_after}
use Rattle.tree_core.specs.Histories.{Raised, events_for, fate, joined, raised_by, raised_in, raised_to, read_in, where_open}
use Rattle.tree_core.specs.QueueLaws.{EventsFindTheUnread, IsInOrder}
use Rattle.tree_core.proofs.InOrder.{joined-append, reads_are_in_order}

no-list : (before later : List Raised) (r : Raised) → [] ≡ before ++ r ∷ later → ⊥
no-list [] later r e = cc
no-list (x ∷ before) later r e = cc

-- what is raised is raised for an open instance
pub record Opens (o : Option Instance) (f : Instance → List Raised) (rs : List Raised) : Type 0 where
  pub instance : Instance
  pub is_open : o ≡ Some instance
  pub all : f instance ≡ rs

opens : (r : Option Refusal) (o : Option Instance) (f : Instance → List Raised) (before later : List Raised) (x : Raised)
    → where_open r o f ≡ before ++ x ∷ later → Opens o f (before ++ x ∷ later)
opens (Some r) o f before later x e = absurd (no-list before later x e)
opens None None f before later x e = absurd (no-list before later x e)
opens None (Some i) f before later x e = record { instance = i; is_open = refl; all = e }

-- each of several events finds what waited, and what joined by those before it
found-in : (b : Backlog) (es : List Event) (before later : List Raised) (r : Raised) → raised_to b es ≡ before ++ r ∷ later
    → r.queue.waiting ≡ b.waiting ++ joined before
found-in b [] before later r e = absurd (no-list before later r e)
found-in b (x ∷ es) [] later r e =
    let head : (let first : Raised = record { queue = b; event = x } in first ≡ r) = cc in
    sym (ap (λ (y : Raised). y.queue.waiting) head) ∙ sym (append-nil b.waiting)
found-in b (x ∷ es) (y ∷ before) later r e =
    let head : (let first : Raised = record { queue = b; event = x } in first ≡ y) = cc in
    let tail : raised_to (after_offer b x) es ≡ before ++ r ∷ later = cc in
    found-in (after_offer b x) es before later r tail
    ∙ append_assoc b.waiting (joining (offered b.limit b.waiting x) x) (joined before)
    ∙ ap (λ (z : Raised). b.waiting ++ (joining (fate z) z.event ++ joined before)) head

pub find-the-unread : EventsFindTheUnread
unfolding raised_by
find-the-unread t es id sound front rest e before later r split raised =
    let u = tree_after t front in
    let found = opens (refusal_of u e.call) (instance_of u.instances id) (λ i. raised_to i.queue (events_for u e.call id i)) before later r raised in
    let i = found.instance in
    let waited = waiting_of (instance_of t.instances id) in
    let read = read_in t front id in
    let order : read ++ i.queue.waiting ≡ waited ++ joined (raised_in t front id) =
    subst (IsInOrder read (waited ++ joined (raised_in t front id))) found.is_open (reads_are_in_order t front id sound) in
    ap (λ (xs : List Event). read ++ xs) (found-in i.queue (events_for u e.call id i) before later r found.all)
    ∙ sym (append_assoc read i.queue.waiting (joined before))
    ∙ ap (λ (xs : List Event). xs ++ joined before) order
    ∙ append_assoc waited (joined (raised_in t front id)) (joined before)
    ∙ ap (λ (xs : List Event). waited ++ xs) (sym (joined-append (raised_in t front id) before))
