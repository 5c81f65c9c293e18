-- What a call leaves of the open instance of a number.
use Rattle.std.proofs.Common.{◌≡◌, ℕ, Bool, true, false, cond, eqb, Option, Some, None, refl, sym, ap, ◌∙◌}
use Rattle.std.proofs.lemmas.Bool.{eqb-true, eqb-false}
use Rattle.std.specs.Prelude.{option_map}
use Rattle.inode_table.specs.World.{look}
use Rattle.watch_table.specs.Masks.{known}
use Rattle.event_rules.specs.Table.{notices_of}
use Rattle.instance_table.specs.declared.instance.Instance.{Instance}
use Rattle.instance_table.specs.Instances.{Instances, instance_of, new_instance, told, watching, unwatching, changed}
use Rattle.tree_core.specs.declared.call.Call.{Call}
use Rattle.tree_core.specs.declared.call.Call.TheVariants as call
use Rattle.tree_core.specs.Tree.{Tree, cookie_now, after_file}
use Rattle.tree_core.specs.Tree.{accepted}
use Rattle.tree_core.proofs.Parts.{after_reading, number_seen}
use Rattle.tree_core.proofs.Counted.{instance_of-all_changed}
use Rattle.tree_core.proofs.Instances.{changed_by, get-put, get-cut}

-- ---- numbers

pub eqb-swap : (m n : ℕ) → eqb m n ≡ eqb n m
eqb-swap m n =
    elim (eqb m n) as (λ b. eqb m n ≡ b → b ≡ eqb n m) [
      | true ↦ λ e. let same : m ≡ n = eqb-true m n e in sym (ap (λ (x : ℕ). eqb n x) same ∙ (ap (λ (x : ℕ). eqb x n) (sym same) ∙ e))
      | false ↦ λ e. apart e (eqb n m) refl
    ] refl
  where
    apart : eqb m n ≡ false → (b : Bool) → eqb n m ≡ b → false ≡ b
    apart e true f = absurd (eqb-false m n e (sym (eqb-true n m f)))
    apart e false f = refl

pub eqb-other : (m n : ℕ) → (m ≡ n → ⊥) → eqb m n ≡ false
eqb-other m n apart = by (eqb m n) refl
  where
    by : (b : Bool) → eqb m n ≡ b → b ≡ false
    by true e = absurd (apart (eqb-true m n e))
    by false e = refl

-- ---- one change

by_change : (m : Instances) (from : ℕ) (change : Instance → Instance) (id : ℕ) (o : Option Instance) (b : Bool) → instance_of m from ≡ o → eqb id from ≡ b
    → instance_of (changed_by m from change o) id ≡ cond b (option_map change (instance_of m id)) (instance_of m id)
by_change m from change id None true e s =
    let none : instance_of m id ≡ None = ap (instance_of m) (eqb-true id from s) ∙ e in
    none ∙ ap (option_map change) (sym none)
by_change m from change id None false e s = refl
by_change m from change id (Some i) true e s =
    let there : instance_of m id ≡ Some i = ap (instance_of m) (eqb-true id from s) ∙ e in
    get-put m from (change i) id ∙ ap (λ b. cond b (Some (change i)) (instance_of m id)) s ∙ ap (option_map change) (sym there)
by_change m from change id (Some i) false e s = get-put m from (change i) id ∙ ap (λ b. cond b (Some (change i)) (instance_of m id)) s

pub instance_of-changed : (m : Instances) (from : ℕ) (change : Instance → Instance) (id : ℕ)
    → instance_of (changed m from change) id ≡ cond (eqb id from) (option_map change (instance_of m id)) (instance_of m id)
unfolding changed
instance_of-changed m from change id = by_change m from change id (instance_of m from) (eqb id from) refl refl

-- ---- one call

-- what an accepted call leaves of the open instance of a number, by what was open before it
abbrev pub left_of : Tree → Call → ℕ → Option Instance → Option Instance
left_of t (call.File f) id o = option_map (told (notices_of t.world f (cookie_now t.next_cookie))) o
left_of t (call.Init limit is_piped) id o = cond (eqb id t.next_id) (Some (new_instance t.limits limit is_piped)) o
left_of t (call.AddWatch from p mask) id o = cond (eqb id from) (option_map (watching (number_seen (look t.world p)) (known mask)) o) o
left_of t (call.RmWatch from wd) id o = cond (eqb id from) (option_map (unwatching wd) o) o
left_of t (call.Read from bytes) id o = cond (eqb id from) (option_map (after_reading bytes) o) o
left_of t (call.Pump from bytes) id o = cond (eqb id from) (option_map (after_reading bytes) o) o
left_of t (call.Close from) id o = cond (eqb id from) None o

pub instance_of-accepted : (t : Tree) (c : Call) (id : ℕ) → instance_of (accepted t c).instances id ≡ left_of t c id (instance_of t.instances id)
unfolding after_file
instance_of-accepted t (call.File f) id = instance_of-all_changed t.instances (told (notices_of t.world f (cookie_now t.next_cookie))) id
instance_of-accepted t (call.Init limit is_piped) id = get-put t.instances t.next_id (new_instance t.limits limit is_piped) id
instance_of-accepted t (call.AddWatch from p mask) id = instance_of-changed t.instances from (watching (number_seen (look t.world p)) (known mask)) id
instance_of-accepted t (call.RmWatch from wd) id = instance_of-changed t.instances from (unwatching wd) id
instance_of-accepted t (call.Read from bytes) id = instance_of-changed t.instances from (after_reading bytes) id
instance_of-accepted t (call.Pump from bytes) id = instance_of-changed t.instances from (after_reading bytes) id
instance_of-accepted t (call.Close from) id = get-cut t.instances from id
