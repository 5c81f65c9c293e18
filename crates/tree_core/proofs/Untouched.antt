-- Instances that are not open receive no events, and nothing is read of them.
use Rattle.std.proofs.Common.{◌≡◌, ◌⊎◌, ℕ, ◌<◌, ◌≤◌, Bool, true, false, cond, eqb, List, [], ◌∷◌, ◌++◌, Option, Some, None, refl, ap, ◌∙◌, inl, inr, arith}
use Rattle.std.specs.FinMap.{get-empty}
use Rattle.std.specs.Ordering.{nat_cmp}
use Rattle.tree_paths.specs.declared.limits.Limits.{Limits}
use Rattle.tree_paths.specs.declared.refusal.Refusal.{Refusal}
use Rattle.instance_table.specs.declared.instance.Instance.{Instance}
use Rattle.instance_table.specs.Instances.{instance_of, new_instance}
use Rattle.tree_core.specs.declared.call.Call.{Call}
use Rattle.tree_core.specs.declared.call.Call.TheVariants as call
use Rattle.tree_core.specs.declared.reply.Entry.{Entry}
use Rattle.tree_core.specs.Tree.{Tree, opening, refusal_of, accepted, after, after_file}
use Rattle.tree_core.specs.Journal.{tree_after}
use Rattle.tree_core.specs.Histories.{where_open, events_for, records_for, raised_to, raised_by, raised_in, read_by, read_in}
use Rattle.tree_core.specs.QueueLaws.{IsUntouched, UnmadeInstancesHearNothing, ClosedInstancesHearNothing}
use Rattle.tree_core.proofs.Parts.{tree_by, after_init}
use Rattle.tree_core.proofs.Opened.{eqb-other, left_of, instance_of-accepted}
use Rattle.tree_core.proofs.SoundTrees.{sound-ahead}

-- ---- one call

nowhere : {A : Type 0} (o : Option Refusal) (i : Option Instance) (f : Instance → List A) → i ≡ None → where_open o i f ≡ []
nowhere (Some r) i f e = refl
nowhere None None f e = refl
nowhere None (Some i) f e = absurd (cc)

module _ (t : Tree) (c : Call) (id : ℕ) (none : instance_of t.instances id ≡ None) where
  pub raised_by-none : raised_by t c id ≡ []
  unfolding raised_by
  raised_by-none = nowhere (refusal_of t c) (instance_of t.instances id) (λ i. raised_to i.queue (events_for t c id i)) none

  pub read_by-none : read_by t c id ≡ []
  unfolding read_by
  read_by-none = nowhere (refusal_of t c) (instance_of t.instances id) (records_for c id) none

-- the number of the next instance never goes back
next-accepted : (t : Tree) (c : Call) → t.next_id ≤ (accepted t c).next_id
unfolding after_file
next-accepted t (call.File f) = omega arith
next-accepted t (call.Init limit is_piped) = omega arith
next-accepted t (call.AddWatch id p mask) = omega arith
next-accepted t (call.RmWatch id wd) = omega arith
next-accepted t (call.Read id bytes) = omega arith
next-accepted t (call.Pump id bytes) = omega arith
next-accepted t (call.Close id) = omega arith

next-by : (t : Tree) (c : Call) (o : Option Refusal) → t.next_id ≤ (tree_by o t (accepted t c)).next_id
next-by t c (Some r) = omega arith
next-by t c None = next-accepted t c

pub next-after : (t : Tree) (c : Call) → t.next_id ≤ (after t c).next_id
next-after t c = next-by t c (refusal_of t c)

pub next-tree_after : (t : Tree) (es : List Entry) → t.next_id ≤ (tree_after t es).next_id
next-tree_after t [] = omega arith
next-tree_after t (e ∷ es) = omega (arith, next-after t e.call, next-tree_after (after t e.call) es)

-- the number of an instance that was made before the one tree, or not before the other
abbrev IsPast : Tree → Tree → ℕ → Type 0
IsPast t u id = (id < t.next_id) ⊎ (u.next_id ≤ id)

none-if : (b : Bool) (o : Option Instance) → o ≡ None → cond b None o ≡ None
none-if true o e = refl
none-if false o e = e

not-next : (t : Tree) (limit : ℕ) (is_piped : Bool) (id : ℕ) → IsPast t (after_init t limit is_piped) id → eqb id t.next_id ≡ false
not-next t limit is_piped id (inl h) = eqb-other id t.next_id (λ e. absurd (omega arith))
not-next t limit is_piped id (inr h) = eqb-other id t.next_id (λ e. absurd (omega arith))

left-none : (t : Tree) (c : Call) (id : ℕ) → IsPast t (accepted t c) id → left_of t c id None ≡ None
left-none t (call.File f) id h = refl
left-none t (call.Init limit is_piped) id h = ap (λ b. cond b (Some (new_instance t.limits limit is_piped)) None) (not-next t limit is_piped id h)
left-none t (call.AddWatch from p mask) id h = none-if (eqb id from) None refl
left-none t (call.RmWatch from wd) id h = none-if (eqb id from) None refl
left-none t (call.Read from bytes) id h = none-if (eqb id from) None refl
left-none t (call.Pump from bytes) id h = none-if (eqb id from) None refl
left-none t (call.Close from) id h = none-if (eqb id from) None refl

none-by : (t : Tree) (c : Call) (id : ℕ) (o : Option Refusal) → instance_of t.instances id ≡ None
    → IsPast t (tree_by o t (accepted t c)) id → instance_of (tree_by o t (accepted t c)).instances id ≡ None
none-by t c id (Some r) none h = none
none-by t c id None none h = instance_of-accepted t c id ∙ ap (left_of t c id) none ∙ left-none t c id h

pub none-after : (t : Tree) (c : Call) (id : ℕ) → instance_of t.instances id ≡ None → IsPast t (after t c) id → instance_of (after t c).instances id ≡ None
none-after t c id none h = none-by t c id (refusal_of t c) none h

-- ---- a journal

here : (t : Tree) (e : Entry) (es : List Entry) (id : ℕ) → IsPast t (tree_after t (e ∷ es)) id → IsPast t (after t e.call) id
here t e es id (inl h) = inl h
here t e es id (inr h) = let more = next-tree_after (after t e.call) es in inr (omega arith)

there : (t : Tree) (e : Entry) (es : List Entry) (id : ℕ) → IsPast t (tree_after t (e ∷ es)) id → IsPast (after t e.call) (tree_after (after t e.call) es) id
there t e es id (inl h) = let more = next-after t e.call in inl (omega arith)
there t e es id (inr h) = inr h

pub none-tree_after : (t : Tree) (es : List Entry) (id : ℕ) → instance_of t.instances id ≡ None → IsPast t (tree_after t es) id
    → instance_of (tree_after t es).instances id ≡ None
none-tree_after t [] id none h = none
none-tree_after t (e ∷ es) id none h = none-tree_after (after t e.call) es id (none-after t e.call id none (here t e es id h)) (there t e es id h)

pub untouched : (t : Tree) (es : List Entry) (id : ℕ) → instance_of t.instances id ≡ None → IsPast t (tree_after t es) id → IsUntouched t es id
untouched t [] id none h = record { raised = refl; read = refl }
untouched t (e ∷ es) id none h =
    let rest : IsUntouched (after t e.call) es id = untouched (after t e.call) es id (none-after t e.call id none (here t e es id h)) (there t e es id h) in
    record {
      raised = ap (λ rs. rs ++ raised_in (after t e.call) es id) (raised_by-none t e.call id none) ∙ rest.raised;
      read = ap (λ rs. rs ++ read_in (after t e.call) es id) (read_by-none t e.call id none) ∙ rest.read;
    }

pub none-opening : (limits : Limits) (id : ℕ) → instance_of (opening limits).instances id ≡ None
unfolding opening
none-opening limits id = get-empty {X = Instance} nat_cmp id

pub unmade_hear_nothing : UnmadeInstancesHearNothing
unmade_hear_nothing t es id sound h = let more = next-tree_after t es in untouched t es id (sound-ahead t sound id (omega arith)) (inr h)

pub closed_hear_nothing : ClosedInstancesHearNothing
closed_hear_nothing t es id none h = untouched t es id none (inl (omega arith))
