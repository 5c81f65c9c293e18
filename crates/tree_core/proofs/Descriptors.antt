-- Descriptors run on in each instance.
use Rattle.std.proofs.Common.{◌≡◌, inl, inr, ℕ, ◌<◌, ◌≤◌, ◌==◌, Bool, true, false, cond, eqb, if◌then◌else◌, List, []}
use Rattle.std.proofs.Common.{◌∷◌, ◌++◌, Option, Some, None, is_some, refl, sym, ap, subst, ◌∙◌, arith}
use Rattle.std.specs.Prelude.{ℤ, pos, option_map}
use Rattle.std.proofs.lemmas.Bool.{eqb-true}
use Rattle.tree_paths.specs.declared.refusal.Refusal.{Refusal}
use Rattle.inode_table.specs.World.{look}
use Rattle.watch_table.specs.Masks.{known}
use Rattle.watch_table.specs.declared.watch.Watch.{Watch}
use Rattle.watch_table.specs.Watching.{IsSound, Watching, added, dropped, watched_by, removed, watch_of, wd_added}
use Rattle.watch_table.proofs.Watched.{added_to, wd_or, without}
use Rattle.event_rules.specs.declared.notice.Notice.{Notice}
use Rattle.event_rules.specs.Laws.{IsPartOf}
use Rattle.event_rules.specs.Raised.{watches_after}
use Rattle.event_rules.specs.Table.{notices_of}
use Rattle.instance_table.specs.declared.instance.Instance.{Instance}
use Rattle.instance_table.specs.Instances.{instance_of, new_instance, unwatching, watching}
use Rattle.tree_core.specs.declared.call.Call.{Call}
use Rattle.tree_core.specs.declared.call.Call.TheVariants as call
use Rattle.tree_core.specs.declared.reply.Entry.{Entry}
use Rattle.tree_core.specs.declared.reply.Reply.{Reply}
use Rattle.tree_core.specs.declared.reply.Reply.TheVariants as reply
use Rattle.tree_core.specs.Journal.{IsLawfulFrom}
use Rattle.tree_core.specs.Sound.{IsSoundTree}
use Rattle.tree_core.specs.Tree.{Tree, accepted, after, accepted_reply, cookie_now}
use Rattle.tree_core.specs.Tree.{refusal_of, reply_of}
use Rattle.tree_core.specs.TurnLaws.{DescriptorsRunOn, RunOn, TreesAreSound, next_wd_of, wd_in, wds_given, wds_of}
use Rattle.tree_core.proofs.Parts.{after_reading, reply_by, tree_by, watch_answer, number_seen}
use Rattle.tree_core.proofs.Opened.{eqb-other, eqb-swap, instance_of-accepted, left_of}
use Rattle.tree_core.proofs.Untouched.{next-after, none-after}

-- ---- replies that give none

refused-none : (id : ℕ) (c : Call) (r : Refusal) → wds_of id c (reply.Refused r) ≡ []
refused-none id (call.File f) r = refl
refused-none id (call.Init limit is_piped) r = refl
refused-none id (call.AddWatch from p mask) r = by (from == id)
  where
    by : (b : Bool) → (let none : List ℤ = [] in (if b then none else none) ≡ none)
    by true = refl
    by false = refl
refused-none id (call.RmWatch from wd) r = refl
refused-none id (call.Read from count) r = refl
refused-none id (call.Pump from count) r = refl
refused-none id (call.Close from) r = refl

-- what one instance answers, and another
abbrev given_if : Bool → ℕ → Option Instance → List ℤ
given_if b number o = if b then wd_in (watch_answer number o) else []

same-given : (t : Tree) (from id number : ℕ) (b : Bool) → (from == id) ≡ b
    → given_if b number (instance_of t.instances from) ≡ given_if b number (instance_of t.instances id)
same-given t from id number true e = ap (λ (n : ℕ). wd_in (watch_answer number (instance_of t.instances n))) (eqb-true from id e)
same-given t from id number false e = refl

given-none : (b : Bool) (number : ℕ) (o : Option Instance) → o ≡ None → given_if b number o ≡ []
given-none true number None e = refl
given-none true number (Some i) e = absurd (cc)
given-none false number o e = refl

closed-answers : (t : Tree) (id : ℕ) (c : Call) → instance_of t.instances id ≡ None → wds_of id c (accepted_reply t c) ≡ []
closed-answers t id (call.File f) none = refl
closed-answers t id (call.Init limit is_piped) none = refl
closed-answers t id (call.AddWatch from p mask) none =
    let number = number_seen (look t.world p) in
    same-given t from id number (from == id) refl ∙ given-none (from == id) number (instance_of t.instances id) none
closed-answers t id (call.RmWatch from wd) none = refl
closed-answers t id (call.Read from count) none = refl
closed-answers t id (call.Pump from count) none = refl
closed-answers t id (call.Close from) none = refl

closed-gives : (t : Tree) (id : ℕ) (c : Call) → instance_of t.instances id ≡ None → wds_of id c (reply_of t c) ≡ []
closed-gives t id c none = by (refusal_of t c)
  where
    by : (r : Option Refusal) → wds_of id c (reply_by r (accepted_reply t c)) ≡ []
    by (Some r) = refused-none id c r
    by None = closed-answers t id c none

-- an instance that is closed gives none
closed-journal : (t : Tree) (es : List Entry) (id : ℕ) → instance_of t.instances id ≡ None → id < t.next_id → IsLawfulFrom t es → wds_given id es ≡ []
closed-journal t [] id none made h = refl
closed-journal t (e ∷ es) id none made h =
    let more = next-after t e.call in
    (λ i. (ap (wds_of id e.call) h.0 ∙ closed-gives t id e.call none) i ++ wds_given id es)
    ∙ closed-journal (after t e.call) es id (none-after t e.call id none (inl made)) (omega arith) h.1

-- ---- one call

-- what a call gives runs on to the next descriptor after it
record Step (now next : ℕ) (given : List ℤ) : Type 0 where
  all : (rest : List ℤ) → RunOn next rest → RunOn now (given ++ rest)

gives-none : (now next : ℕ) (given : List ℤ) → given ≡ [] → next ≡ now → Step now next given
gives-none now next given none stays =
    record { all = λ rest h. subst (λ (xs : List ℤ). RunOn now (xs ++ rest)) (sym none) (subst (λ (n : ℕ). RunOn n rest) stays h) }

-- an instance that is to be made
unmade-left : (t : Tree) (c : Call) (id : ℕ) → next_wd_of (left_of t c id None) ≡ 1
unmade-left t (call.File f) id = refl
unmade-left t (call.Init limit is_piped) id = by (eqb id t.next_id)
  where
    by : (b : Bool) → next_wd_of (cond b (Some (new_instance t.limits limit is_piped)) None) ≡ 1
    by true = refl
    by false = refl
unmade-left t (call.AddWatch from p mask) id = none-if (eqb id from)
  where
    none-if : (b : Bool) → next_wd_of (cond b None None) ≡ 1
    none-if true = refl
    none-if false = refl
unmade-left t (call.RmWatch from wd) id = none-if (eqb id from)
  where
    none-if : (b : Bool) → next_wd_of (cond b None None) ≡ 1
    none-if true = refl
    none-if false = refl
unmade-left t (call.Read from bytes) id = none-if (eqb id from)
  where
    none-if : (b : Bool) → next_wd_of (cond b None None) ≡ 1
    none-if true = refl
    none-if false = refl
unmade-left t (call.Pump from bytes) id = none-if (eqb id from)
  where
    none-if : (b : Bool) → next_wd_of (cond b None None) ≡ 1
    none-if true = refl
    none-if false = refl
unmade-left t (call.Close from) id = none-if (eqb id from)
  where
    none-if : (b : Bool) → next_wd_of (cond b None None) ≡ 1
    none-if true = refl
    none-if false = refl

-- the descriptor that a watch call answers is that of the file's watch, or the next
added-step : (w : Watching) (number mask : ℕ) → IsSound w → Step w.next_wd (added w number mask).next_wd (wd_added w number ∷ [])
unfolding added wd_added
added-step w number mask sound = by (watch_of w number) refl
  where
    by : (o : Option Watch) → watch_of w number ≡ o → Step w.next_wd (added_to w number mask o).next_wd (wd_or o (pos w.next_wd) ∷ [])
    by None at = record { all = λ rest h. inr (refl, h) }
    by (Some watch) at = record { all = λ rest h. inl (sound.given number watch.wd (ap (option_map (λ (x : Watch). x.wd)) at), h) }

removed-same : (w : Watching) (wd : ℤ) → (removed w wd).next_wd ≡ w.next_wd
unfolding dropped
removed-same w wd = by (watched_by w wd)
  where
    by : (o : Option ℕ) → (without w o).next_wd ≡ w.next_wd
    by None = refl
    by (Some number) = refl

same-if : (b : Bool) (i : Instance) (change : Instance → Instance) → (change i).watches.next_wd ≡ i.watches.next_wd
    → next_wd_of (cond b (Some (change i)) (Some i)) ≡ i.watches.next_wd
same-if true i change h = h
same-if false i change h = refl

watch-step : (b : Bool) (i : Instance) (number mask : ℕ) → IsSound i.watches
    → Step i.watches.next_wd (next_wd_of (cond b (Some (watching number mask i)) (Some i))) (given_if b number (Some i))
watch-step true i number mask sound = added-step i.watches number mask sound
watch-step false i number mask sound = gives-none _ _ _ refl refl

-- whether a call closes the instance of a number
abbrev closes : ℕ → Call → Bool
closes id (call.Close from) = eqb id from
closes id _ = false

closes-left : (t : Tree) (c : Call) (id : ℕ) (o : Option Instance) → closes id c ≡ true → left_of t c id o ≡ None
closes-left t (call.File f) id o e = absurd (cc)
closes-left t (call.Init limit is_piped) id o e = absurd (cc)
closes-left t (call.AddWatch from p mask) id o e = absurd (cc)
closes-left t (call.RmWatch from wd) id o e = absurd (cc)
closes-left t (call.Read from bytes) id o e = absurd (cc)
closes-left t (call.Pump from bytes) id o e = absurd (cc)
closes-left t (call.Close from) id o e = ap (λ b. cond b None o) e

closes-gives : (c : Call) (id : ℕ) (r : Reply) → closes id c ≡ true → wds_of id c r ≡ []
closes-gives (call.File f) id r e = refl
closes-gives (call.Init limit is_piped) id r e = refl
closes-gives (call.AddWatch from p mask) id r e = absurd (cc)
closes-gives (call.RmWatch from wd) id r e = refl
closes-gives (call.Read from bytes) id r e = refl
closes-gives (call.Pump from bytes) id r e = refl
closes-gives (call.Close from) id r e = refl

module _ (part : (w : Watching) (ns : List Notice) → IsPartOf (watches_after w ns) w) (t : Tree) (id : ℕ) (i : Instance)
    (at : instance_of t.instances id ≡ Some i) (made : id < t.next_id) (sound : IsSound i.watches) where
  -- a call that does not close the instance
  open-step : (c : Call) → closes id c ≡ false → Step i.watches.next_wd (next_wd_of (left_of t c id (Some i))) (wds_of id c (accepted_reply t c))
  open-step (call.File f) other = gives-none _ _ _ refl ((part i.watches (notices_of t.world f (cookie_now t.next_cookie))).next_wd)
  open-step (call.Init limit is_piped) other =
      gives-none _ _ _ refl (ap (λ b. next_wd_of (cond b (Some (new_instance t.limits limit is_piped)) (Some i)))
      (eqb-other id t.next_id (λ e. absurd (omega arith))))
  open-step (call.AddWatch from p mask) other =
      let number = number_seen (look t.world p) in
      subst (Step i.watches.next_wd (next_wd_of (cond (eqb id from) (Some (watching number (known mask) i)) (Some i))))
      (sym (same-given t from id number (from == id) refl ∙ (λ k. given_if (eqb-swap from id k) number (at k))))
      (watch-step (eqb id from) i number (known mask) sound)
  open-step (call.RmWatch from wd) other = gives-none _ _ _ refl (same-if (eqb id from) i (unwatching wd) (removed-same i.watches wd))
  open-step (call.Read from bytes) other = gives-none _ _ _ refl (same-if (eqb id from) i (after_reading bytes) refl)
  open-step (call.Pump from bytes) other = gives-none _ _ _ refl (same-if (eqb id from) i (after_reading bytes) refl)
  open-step (call.Close from) other = gives-none _ _ _ refl (ap (λ b. next_wd_of (cond b None (Some i))) other)

-- ---- a journal

module _ (part : (w : Watching) (ns : List Notice) → IsPartOf (watches_after w ns) w) (trees : TreesAreSound) (id : ℕ) where
  unmade-step : (t : Tree) (c : Call) (r : Option Refusal) → instance_of t.instances id ≡ None
      → next_wd_of (instance_of (tree_by r t (accepted t c)).instances id) ≡ 1
  unmade-step t c (Some r) none = ap next_wd_of none
  unmade-step t c None none = ap next_wd_of (instance_of-accepted t c id ∙ ap (left_of t c id) none) ∙ unmade-left t c id

  step-by : (t : Tree) (c : Call) (i : Instance) (r : Option Refusal) → instance_of t.instances id ≡ Some i → id < t.next_id
      → IsSound i.watches → closes id c ≡ false
      → Step i.watches.next_wd (next_wd_of (instance_of (tree_by r t (accepted t c)).instances id)) (wds_of id c (reply_by r (accepted_reply t c)))
  step-by t c i (Some r) at made sound other = gives-none _ _ _ (refused-none id c r) (ap next_wd_of at)
  step-by t c i None at made sound other =
      subst (λ o. Step i.watches.next_wd (next_wd_of o) (wds_of id c (accepted_reply t c)))
      (sym (instance_of-accepted t c id ∙ ap (left_of t c id) at)) (open-step part t id i at made sound c other)

  gone-by : (t : Tree) (c : Call) (i : Instance) (es : List Entry) (r : Option Refusal) → instance_of t.instances id ≡ Some i
      → id < t.next_id → closes id c ≡ true → IsLawfulFrom (tree_by r t (accepted t c)) es
      → RunOn (next_wd_of (instance_of (tree_by r t (accepted t c)).instances id)) (wds_given id es)
      → t.next_id ≤ (tree_by r t (accepted t c)).next_id → RunOn i.watches.next_wd (wds_given id es)
  gone-by t c i es (Some r) at made e lawful rest more = subst (λ (n : ℕ). RunOn n (wds_given id es)) (ap next_wd_of at) rest
  gone-by t c i es None at made e lawful rest more =
      subst (RunOn i.watches.next_wd)
      (sym (closed-journal (accepted t c) es id (instance_of-accepted t c id ∙ closes-left t c id (instance_of t.instances id) e) (omega arith) lawful))
      tt

  module _ (t : Tree) (e : Entry) (es : List Entry) (is : IsSoundTree t) (lawful : IsLawfulFrom (after t e.call) es)
      (rest : RunOn (next_wd_of (instance_of (after t e.call).instances id)) (wds_given id es)) where
    opened : (i : Instance) (b : Bool) → instance_of t.instances id ≡ Some i → closes id e.call ≡ b
        → RunOn i.watches.next_wd (wds_of id e.call (reply_of t e.call) ++ wds_given id es)
    opened i true at c =
        subst (λ (xs : List ℤ). RunOn i.watches.next_wd (xs ++ wds_given id es)) (sym (closes-gives e.call id (reply_of t e.call) c))
        (gone-by t e.call i es (refusal_of t e.call) at (is.counted.opened id (ap is_some at)) c lawful rest (next-after t e.call))
    opened i false at c =
        (step-by t e.call i (refusal_of t e.call) at (is.counted.opened id (ap is_some at)) (is.instances id i at).watches c).all (wds_given id es) rest

    run-more : (o : Option Instance) → instance_of t.instances id ≡ o → RunOn (next_wd_of o) (wds_of id e.call (reply_of t e.call) ++ wds_given id es)
    run-more None at =
        (gives-none 1 (next_wd_of (instance_of (after t e.call).instances id)) (wds_of id e.call (reply_of t e.call))
        (closed-gives t id e.call at) (unmade-step t e.call (refusal_of t e.call) at)).all
        (wds_given id es) rest
    run-more (Some i) at = opened i (closes id e.call) at refl

  run-on : (t : Tree) (es : List Entry) → IsSoundTree t → IsLawfulFrom t es → RunOn (next_wd_of (instance_of t.instances id)) (wds_given id es)
  run-on t [] is h = tt
  run-on t (e ∷ es) is h =
      subst (λ (r : Reply). RunOn (next_wd_of (instance_of t.instances id)) (wds_of id e.call r ++ wds_given id es)) (sym h.0)
      (run-more t e es is h.1 (run-on (after t e.call) es (trees.stay t (e ∷ []) is) h.1) (instance_of t.instances id) refl)

pub descriptors-run-on : ((w : Watching) (ns : List Notice) → IsPartOf (watches_after w ns) w) → TreesAreSound → DescriptorsRunOn
descriptors-run-on part trees t es id is lawful = run-on part trees id t es is lawful
