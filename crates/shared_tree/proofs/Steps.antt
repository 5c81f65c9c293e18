-- What one call hands to an instance, and what it leaves of those that are open.
use Rattle.std.proofs.Common.{◌≡◌, ◌⊎◌, ℕ, ◌+◌, Bool, true, false, cond, eqb, List, [], ◌∷◌, Option, Some, None, option_map, refl, sym, ap, ◌∙◌, inl, inr}
use Rattle.std.proofs.lemmas.Bool.{eqb-true}
use Rattle.record_codec.specs.declared.event.Event.{Event}
use Rattle.tree_paths.specs.declared.refusal.Refusal.{Refusal}
use Rattle.instance_table.specs.declared.instance.Instance.{Instance}
use Rattle.inode_table.specs.World.{look}
use Rattle.watch_table.specs.Masks.{known}
use Rattle.event_rules.specs.Table.{notices_of}
use Rattle.instance_table.specs.Instances.{instance_of, new_instance, told, watching, unwatching}
use Rattle.tree_core.specs.declared.call.Call.{Call}
use Rattle.tree_core.specs.declared.call.Call.TheVariants as call
use Rattle.tree_core.specs.declared.reply.Reply.{Reply}
use Rattle.tree_core.specs.declared.reply.Reply.TheVariants as reply
use Rattle.tree_core.specs.Tree.{Tree, cookie_now, refusal_of, reply_of, accepted, after}
use Rattle.tree_core.specs.Histories.{read_by, if_same}
use Rattle.tree_core.specs.TurnLaws.{RepliesTell}
use Rattle.tree_core.proofs.Opened.{left_of, instance_of-accepted}
use Rattle.shared_tree.specs.declared.pipe.Batch.{Batch}
use Rattle.shared_tree.specs.Handed.{batch, handed_by, hands, piped_by}
use Rattle.shared_tree.specs.Held.{closed_of, end_of, where_done}
use Rattle.shared_tree.proofs.Answered.{handed-close, handed-pump}
use Rattle.tree_core.specs.Calls.{is_plain}
use Rattle.tree_core.proofs.Parts.{reply_by, tree_by, after_reading, where_records, number_seen}
use Rattle.std.specs.Prelude.{IsTrue}

-- what every reply says about its tree
abbrev pub Told : Type 0
Told = (t : Tree) (c : Call) → RepliesTell t c

-- ---- what a call hands over

same-or-not : (from id : ℕ) (b : Batch) → (from ≡ id → ⊥) → if_same from id (b ∷ []) ≡ []
same-or-not from id b apart = by (eqb from id) refl
  where
    by : (x : Bool) → eqb from id ≡ x → cond x (b ∷ []) [] ≡ []
    by true e = absurd (apart (eqb-true from id e))
    by false e = refl

open-not : (o : Option Instance) → o ≡ None → (i : Instance) × (o ≡ Some i) → ⊥
open-not o none (i, some) = let e : ◌≡◌ {A = Option Instance} None (Some i) = sym none ∙ some in absurd (cc)

-- an instance that is not open is handed nothing
module _ (tells : Told) (t : Tree) (place id : ℕ) (none : instance_of t.instances id ≡ None) where
  pumps-none : (from bytes : ℕ) (rs : List Event) (r : Reply) → reply_of t (call.Pump from bytes) ≡ r
      → hands (option_map (batch from place) (where_records r rs)) id ≡ []
  pumps-none from bytes rs (reply.Records bs) e =
      same-or-not from id (batch from place rs) (λ same.
      let there = (tells t (call.Pump from bytes)).pumped from bytes bs refl e in
      open-not (instance_of t.instances id) none (there.0, ap (instance_of t.instances) (sym same) ∙ there.1))
  pumps-none from bytes rs (reply.File a) e = refl
  pumps-none from bytes rs (reply.Instance n) e = refl
  pumps-none from bytes rs (reply.Wd wd) e = refl
  pumps-none from bytes rs reply.Done e = refl
  pumps-none from bytes rs (reply.Refused why) e = refl

  closes-none : (from : ℕ) (r : Reply) → reply_of t (call.Close from) ≡ r → hands (where_done r (batch from place [])) id ≡ []
  closes-none from reply.Done e =
      same-or-not from id (batch from place []) (λ same.
      let there = (tells t (call.Close from)).closed from refl e in
      open-not (instance_of t.instances id) none (there.0, ap (instance_of t.instances) (sym same) ∙ there.1))
  closes-none from (reply.Records bs) e = refl
  closes-none from (reply.File a) e = refl
  closes-none from (reply.Instance n) e = refl
  closes-none from (reply.Wd wd) e = refl
  closes-none from (reply.Refused why) e = refl

  pub hands-none : (c : Call) → hands (handed_by t place c) id ≡ []
  hands-none (call.File f) = refl
  hands-none (call.Init limit is_piped) = refl
  hands-none (call.AddWatch from p mask) = refl
  hands-none (call.RmWatch from wd) = refl
  hands-none (call.Read from bytes) = refl
  hands-none (call.Pump from bytes) =
      ap (λ (o : Option Batch). hands o id) (handed-pump t place from bytes)
      ∙ pumps-none from bytes (read_by t (call.Pump from bytes) from) (reply_of t (call.Pump from bytes)) refl
  hands-none (call.Close from) =
      ap (λ (o : Option Batch). hands o id) (handed-close t place from) ∙ closes-none from (reply_of t (call.Close from)) refl

-- the end batch of a plain call is what it hands over
pub end_of-handed : (t : Tree) (c : Call) (place : ℕ) → IsTrue (is_plain c) → end_of (closed_of c) place (reply_of t c) ≡ handed_by t place c
end_of-handed t (call.File f) place plain = refl
end_of-handed t (call.Init limit is_piped) place plain = refl
end_of-handed t (call.AddWatch from p mask) place plain = refl
end_of-handed t (call.RmWatch from wd) place plain = refl
end_of-handed t (call.Read from bytes) place plain = refl
end_of-handed t (call.Pump from bytes) place plain = absurd (cc)
end_of-handed t (call.Close from) place plain = sym (handed-close t place from)

-- ---- instances with a pipe that a call makes

-- a call makes one, or none
pub piped_by-cases : (c : Call) (r : Reply) → (piped_by c r ≡ []) ⊎ ((limit : ℕ) × (id : ℕ) × (c ≡ call.Init limit true) × (r ≡ reply.Instance id))
piped_by-cases (call.File f) r = inl refl
piped_by-cases (call.Init limit true) (reply.Instance id) = inr (limit, id, refl, refl)
piped_by-cases (call.Init limit true) (reply.Records bs) = inl refl
piped_by-cases (call.Init limit true) (reply.File a) = inl refl
piped_by-cases (call.Init limit true) (reply.Wd wd) = inl refl
piped_by-cases (call.Init limit true) reply.Done = inl refl
piped_by-cases (call.Init limit true) (reply.Refused why) = inl refl
piped_by-cases (call.Init limit false) r = inl refl
piped_by-cases (call.AddWatch from p mask) r = inl refl
piped_by-cases (call.RmWatch from wd) r = inl refl
piped_by-cases (call.Read from bytes) r = inl refl
piped_by-cases (call.Pump from bytes) r = inl refl
piped_by-cases (call.Close from) r = inl refl

pub plain-makes-none : (c : Call) (r : Reply) → IsTrue (is_plain c) → piped_by c r ≡ []
plain-makes-none (call.File f) r plain = refl
plain-makes-none (call.Init limit true) r plain = absurd (cc)
plain-makes-none (call.Init limit false) r plain = refl
plain-makes-none (call.AddWatch from p mask) r plain = refl
plain-makes-none (call.RmWatch from wd) r plain = refl
plain-makes-none (call.Read from bytes) r plain = refl
plain-makes-none (call.Pump from bytes) r plain = absurd (cc)
plain-makes-none (call.Close from) r plain = refl

-- ---- the open instances after a call

-- it was open before, and goes the same way
abbrev pub WasOpen : Tree → ℕ → Instance → Type 0
WasOpen t id i = (j : Instance) × (instance_of t.instances id ≡ Some j) × (i.is_piped ≡ j.is_piped)

-- it was made
pub record IsMade (t : Tree) (c : Call) (id : ℕ) (i : Instance) : Type 0 where
  pub limit : ℕ
  pub is_next : id ≡ t.next_id
  pub init : c ≡ call.Init limit i.is_piped
  pub says : reply_of t c ≡ reply.Instance t.next_id
  pub grows : (after t c).next_id ≡ t.next_id + 1

abbrev WasOpenOr : Option Instance → Type 0 → Instance → Type 0
WasOpenOr o A i = ((j : Instance) × (o ≡ Some j) × (i.is_piped ≡ j.is_piped)) ⊎ A

kept-there : (f : Instance → Instance) (same : (j : Instance) → (f j).is_piped ≡ j.is_piped) (o : Option Instance)
    (A : Type 0) (i : Instance)
    → option_map f o ≡ Some i → WasOpenOr o A i
kept-there f same None A i e = absurd (cc)
kept-there f same (Some j) A i e = inl (j, refl, ap (λ (x : Instance). x.is_piped) (is e) ∙ same j)
  where
    is : ◌≡◌ {A = Option Instance} (Some (f j)) (Some i) → i ≡ f j
    is h = cc

changed-there : (f : Instance → Instance) (same : (j : Instance) → (f j).is_piped ≡ j.is_piped) (b : Bool)
    (o : Option Instance) (A : Type 0) (i : Instance)
    → cond b (option_map f o) o ≡ Some i → WasOpenOr o A i
changed-there f same true o A i e = kept-there f same o A i e
changed-there f same false o A i e = inl (i, e, refl)

closed-there : (b : Bool) (o : Option Instance) (A : Type 0) (i : Instance) → cond b None o ≡ Some i → WasOpenOr o A i
closed-there true o A i e = absurd (cc)
closed-there false o A i e = inl (i, e, refl)

made-there : (t : Tree) (limit : ℕ) (p : Bool) (id : ℕ) (i : Instance) → refusal_of t (call.Init limit p) ≡ None
    → id ≡ t.next_id → i ≡ new_instance t.limits limit p → IsMade t (call.Init limit p) id i
made-there t limit p id i e next is = record {
  limit = limit;
  is_next = next;
  init = ap (λ (b : Bool). call.Init limit b) (sym (ap (λ (x : Instance). x.is_piped) is));
  says = ap (λ o. reply_by o (reply.Instance t.next_id)) e;
  grows = ap (λ o. (tree_by o t (accepted t (call.Init limit p))).next_id) e;
}

init-there : (t : Tree) (limit : ℕ) (p : Bool) (id : ℕ) (i : Instance) → refusal_of t (call.Init limit p) ≡ None → (b : Bool) → eqb id t.next_id ≡ b
    → cond b (Some (new_instance t.limits limit p)) (instance_of t.instances id) ≡ Some i
    → WasOpenOr (instance_of t.instances id) (IsMade t (call.Init limit p) id i) i
init-there t limit p id i e true same h = inr (made-there t limit p id i e (eqb-true id t.next_id same) (is h))
  where
    is : ◌≡◌ {A = Option Instance} (Some (new_instance t.limits limit p)) (Some i) → i ≡ new_instance t.limits limit p
    is g = cc
init-there t limit p id i e false other h = inl (i, h, refl)

accepted-there : (t : Tree) (c : Call) (id : ℕ) (i : Instance) → refusal_of t c ≡ None
    → left_of t c id (instance_of t.instances id) ≡ Some i → WasOpenOr (instance_of t.instances id) (IsMade t c id i) i
accepted-there t (call.File f) id i e h = kept-there (told (notices_of t.world f (cookie_now t.next_cookie))) (λ j. refl) (instance_of t.instances id) _ i h
accepted-there t (call.Init limit p) id i e h = init-there t limit p id i e (eqb id t.next_id) refl h
accepted-there t (call.AddWatch from p mask) id i e h =
    changed-there (watching (number_seen (look t.world p)) (known mask)) (λ j. refl) (eqb id from)
    (instance_of t.instances id) _ i h
accepted-there t (call.RmWatch from wd) id i e h = changed-there (unwatching wd) (λ j. refl) (eqb id from) (instance_of t.instances id) _ i h
accepted-there t (call.Read from bytes) id i e h = changed-there (after_reading bytes) (λ j. refl) (eqb id from) (instance_of t.instances id) _ i h
accepted-there t (call.Pump from bytes) id i e h = changed-there (after_reading bytes) (λ j. refl) (eqb id from) (instance_of t.instances id) _ i h
accepted-there t (call.Close from) id i e h = closed-there (eqb id from) (instance_of t.instances id) _ i h

by-refusal : (t : Tree) (c : Call) (id : ℕ) (i : Instance) (o : Option Refusal) → refusal_of t c ≡ o
    → instance_of (tree_by o t (accepted t c)).instances id ≡ Some i
    → WasOpenOr (instance_of t.instances id) (IsMade t c id i) i
by-refusal t c id i (Some r) e h = inl (i, h, refl)
by-refusal t c id i None e h = accepted-there t c id i e (sym (instance_of-accepted t c id) ∙ h)

-- an instance that is open after a call was open before it, or was made by it
pub opened-by : (t : Tree) (c : Call) (id : ℕ) (i : Instance) → instance_of (after t c).instances id ≡ Some i → WasOpen t id i ⊎ IsMade t c id i
opened-by t c id i h = by-refusal t c id i (refusal_of t c) refl h

next-by : (t : Tree) (limit : ℕ) (p : Bool) (id : ℕ) (o : Option Refusal)
    → reply_by o (reply.Instance t.next_id) ≡ reply.Instance id
    → (tree_by o t (accepted t (call.Init limit p))).next_id ≡ t.next_id + 1
next-by t limit p id (Some r) e = absurd (cc)
next-by t limit p id None e = refl

-- where an instance is made, the next number is one more
pub next-init : (t : Tree) (limit : ℕ) (p : Bool) (id : ℕ) → reply_of t (call.Init limit p) ≡ reply.Instance id
    → (after t (call.Init limit p)).next_id ≡ t.next_id + 1
next-init t limit p id e = next-by t limit p id (refusal_of t (call.Init limit p)) e
