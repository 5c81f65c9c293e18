-- Nothing follows the end batch of an instance.
use Rattle.std.proofs.Common.{◌≡◌, ◌⊎◌, ℕ, zero, suc, ◌+◌, ◌<◌, ◌==◌, Bool, true, false, cond, eqb, List, [], ◌∷◌, ◌++◌}
use Rattle.std.proofs.Common.{length, take, Option, Some, None, option_map, refl, sym, ap, ◌∙◌, subst, inl, inr, arith}
use Rattle.std.proofs.Common.{append_assoc}
use Rattle.std.proofs.lemmas.Bool.{eqb-true}
use Rattle.std.proofs.lemmas.Bool.Decides.{nat_tests}
use Rattle.record_codec.specs.declared.event.Event.{Event}
use Rattle.event_queue.specs.Reads.{fitting}
use Rattle.tree_paths.specs.Rows.{first_row}
use Rattle.tree_paths.specs.declared.limits.Limits.{Limits}
use Rattle.tree_paths.specs.declared.refusal.Refusal.{Refusal}
use Rattle.tree_paths.specs.declared.refusal.Refusal.TheVariants.{Eagain, Einval}
use Rattle.instance_table.specs.declared.instance.Instance.{Instance}
use Rattle.instance_table.specs.Instances.{instance_of}
use Rattle.tree_core.specs.declared.call.Call.{Call}
use Rattle.tree_core.specs.declared.call.Call.TheVariants as call
use Rattle.tree_core.specs.declared.reply.Entry.{Entry}
use Rattle.tree_core.specs.declared.reply.Reply.{Reply}
use Rattle.tree_core.specs.declared.reply.Reply.TheVariants as reply
use Rattle.tree_core.specs.Tree.{Tree, opening, accepted, after, read_rows, refusal_of, reply_of, oldest}
use Rattle.tree_core.specs.Histories.{pumped}
use Rattle.tree_core.specs.Journal.{tree_after}
use Rattle.tree_core.proofs.Parts.{reply_by, tree_by}
use Rattle.tree_core.proofs.Counted.{each-passes, row-passes}
use Rattle.tree_core.proofs.Opened.{instance_of-accepted}
use Rattle.tree_core.proofs.Pumping.{pumped-accepted, pumped-refused}
use Rattle.tree_core.proofs.Untouched.{none-after, none-opening}
use Rattle.shared_tree.specs.declared.pipe.Batch.{Batch}
use Rattle.shared_tree.specs.Handed.{batch, handed, handed_by, handed_from, hands, EndBatchesComeLast, NothingFollowsTheEnd}
use Rattle.shared_tree.specs.Held.{where_done}
use Rattle.shared_tree.proofs.Answered.{handed-close}
use Rattle.shared_tree.proofs.Steps.{hands-none, opened-by, IsMade, Told, WasOpen}

-- ---- a pump that hands over has records

some-taken : (k : ℕ) (rs : List Event) → (k == 0) ≡ false → (length rs == 0) ≡ false → take k rs ≡ [] → ⊥
some-taken zero rs some waits none = cc
some-taken (suc k) [] some waits none = cc
some-taken (suc k) (r ∷ rs) some waits none = cc

some-oldest : (bytes : ℕ) (i : Instance) → first_row (read_rows true bytes (Some i)) ≡ None → oldest bytes i ≡ [] → ⊥
unfolding read_rows
some-oldest bytes i passes none =
    let each = each-passes (read_rows true bytes (Some i)) passes in
    some-taken (fitting bytes i.queue.waiting) i.queue.waiting
    (row-passes (fitting bytes i.queue.waiting == 0) Einval each.1.1.1.0)
    (row-passes (length i.queue.waiting == 0) Eagain each.1.1.0) none

some-is : (xs ys : List Event) → ◌≡◌ {A = Option (List Event)} (Some xs) (Some ys) → xs ≡ ys
some-is xs ys e = cc

none-passes : (bytes : ℕ) → first_row (read_rows true bytes None) ≡ None → ⊥
unfolding read_rows
none-passes bytes passes = cc

pumps-some : (t : Tree) (from bytes : ℕ) (rs : List Event) → pumped t from bytes ≡ Some rs → rs ≡ [] → ⊥
pumps-some t from bytes rs e none = by (refusal_of t (call.Pump from bytes)) refl (instance_of t.instances from) refl
  where
    by : (r : Option Refusal) → refusal_of t (call.Pump from bytes) ≡ r → (o : Option Instance) → instance_of t.instances from ≡ o → ⊥
    by (Some why) is o at = let nothing : pumped t from bytes ≡ None = pumped-refused t from bytes why is in cc
    by None is None at = none-passes bytes (ap (λ o. first_row (read_rows true bytes o)) (sym at) ∙ is)
    by None is (Some i) at =
        let given : oldest bytes i ≡ rs = some-is (oldest bytes i) rs (sym (pumped-accepted t from bytes (Some i) at is refl) ∙ e) in
        some-oldest bytes i (ap (λ o. first_row (read_rows true bytes o)) (sym at) ∙ is) (given ∙ none)

-- ---- instances that were closed

-- the numbers of open instances are behind the next one
abbrev pub AreBelow : Tree → Type 0
AreBelow t = (id : ℕ) (i : Instance) → instance_of t.instances id ≡ Some i → id < t.next_id

-- an instance was made, and is not open
pub record IsGone (t : Tree) (id : ℕ) : Type 0 where
  pub none : instance_of t.instances id ≡ None
  pub made : id < t.next_id

pub below-after : (tells : Told) (t : Tree) (c : Call) → AreBelow t → AreBelow (after t c)
below-after tells t c below id i there = by (opened-by t c id i there)
  where
    by : WasOpen t id i ⊎ IsMade t c id i → id < (after t c).next_id
    by (inl (j, was, same)) = let old = below id j was in let more = (tells t c).rising in omega (arith, old, more)
    by (inr is) = let next = is.is_next in let more = is.grows in omega (arith, next, more)

pub below-opening : (limits : Limits) → AreBelow (opening limits)
below-opening limits id i there = let both : ◌≡◌ {A = Option Instance} None (Some i) = sym (none-opening limits id) ∙ there in absurd (cc)

gone-after : (tells : Told) (t : Tree) (c : Call) (id : ℕ) → IsGone t id → IsGone (after t c) id
gone-after tells t c id gone =
    let made = gone.made in
    let more = (tells t c).rising in
    record { none = none-after t c id gone.none (inl made); made = omega (arith, made, more) }

-- an instance that is gone is handed nothing
gone-hands : (tells : Told) (t : Tree) (place : ℕ) (es : List Entry) (id : ℕ) → IsGone t id → handed_from t place es id ≡ []
gone-hands tells t place [] id gone = refl
gone-hands tells t place (e ∷ es) id gone =
    ap (λ (bs : List Batch). bs ++ handed_from (after t e.call) (place + 1) es id) (hands-none tells t place id gone.none e.call)
    ∙ gone-hands tells (after t e.call) (place + 1) es id (gone-after tells t e.call id gone)

closed-none : (t : Tree) (id : ℕ) (r : Option Refusal) → refusal_of t (call.Close id) ≡ r
    → reply_by r reply.Done ≡ reply.Done → instance_of (tree_by r t (accepted t (call.Close id))).instances id ≡ None
closed-none t id (Some why) is e = absurd (cc)
closed-none t id None is e =
    let same : eqb id id ≡ true = grind (arith, nat_tests) in
    instance_of-accepted t (call.Close id) id ∙ ap (λ b. cond b None (instance_of t.instances id)) same

-- a close that is done leaves the instance gone
closed-gone : (tells : Told) (t : Tree) (id : ℕ) → AreBelow t → reply_of t (call.Close id) ≡ reply.Done → IsGone (after t (call.Close id)) id
closed-gone tells t id below e =
    let there = (tells t (call.Close id)).closed id refl e in
    let made = below id there.0 there.1 in
    let more = (tells t (call.Close id)).rising in
    record { none = closed-none t id (refusal_of t (call.Close id)) refl e; made = omega (arith, made, more) }

-- ---- what one call hands over

-- nothing, or one batch, and where that is without records this is true
abbrev HandsOne : List Batch → Type 0 → Type 0
HandsOne bs A = (bs ≡ []) ⊎ ((b : Batch) × (bs ≡ b ∷ []) × (b.records ≡ [] → A))

one-where : (x : Bool) (b : Batch) (A : Type 0) → (x ≡ true → b.records ≡ [] → A) → HandsOne (cond x (b ∷ []) []) A
one-where true b A holds = inr (b, refl, holds refl)
one-where false b A holds = inl refl

module _ (tells : Told) (t : Tree) (place id : ℕ) (below : AreBelow t) where
  pump-one : (from bytes : ℕ) (A : Type 0) (o : Option (List Event)) → pumped t from bytes ≡ o → HandsOne (hands (option_map (batch from place) o) id) A
  pump-one from bytes A None e = inl refl
  pump-one from bytes A (Some rs) e = one-where (eqb from id) (batch from place rs) A (λ same none. absurd (pumps-some t from bytes rs e none))

  close-one : (from : ℕ) (r : Reply) → reply_of t (call.Close from) ≡ r
      → HandsOne (hands (where_done r (batch from place [])) id) (IsGone (after t (call.Close from)) id)
  close-one from reply.Done e =
      one-where (eqb from id) (batch from place []) (IsGone (after t (call.Close from)) id) (λ same none.
      subst (λ (n : ℕ). IsGone (after t (call.Close from)) n) (eqb-true from id same) (closed-gone tells t from below e))
  close-one from (reply.Records bs) e = inl refl
  close-one from (reply.File a) e = inl refl
  close-one from (reply.Instance n) e = inl refl
  close-one from (reply.Wd wd) e = inl refl
  close-one from (reply.Refused why) e = inl refl

  hands-one : (c : Call) → HandsOne (hands (handed_by t place c) id) (IsGone (after t c) id)
  hands-one (call.File f) = inl refl
  hands-one (call.Init limit is_piped) = inl refl
  hands-one (call.AddWatch from p mask) = inl refl
  hands-one (call.RmWatch from wd) = inl refl
  hands-one (call.Read from bytes) = inl refl
  hands-one (call.Pump from bytes) = pump-one from bytes (IsGone (after t (call.Pump from bytes)) id) (pumped t from bytes) refl
  hands-one (call.Close from) =
      subst (λ (o : Option Batch). HandsOne (hands o id) (IsGone (after t (call.Close from)) id)) (sym (handed-close t place from))
      (close-one from (reply_of t (call.Close from)) refl)

-- ---- a journal

first-is : (x y : Batch) (xs ys : List Batch) → x ∷ xs ≡ y ∷ ys → x ≡ y
first-is x y xs ys e = cc

rest-is : (x y : Batch) (xs ys : List Batch) → x ∷ xs ≡ y ∷ ys → xs ≡ ys
rest-is x y xs ys e = cc

none-split : (before rest : List Batch) (b : Batch) → [] ≡ before ++ b ∷ rest → ⊥
none-split [] rest b e = cc
none-split (x ∷ before) rest b e = cc

-- one call more before the others
one-more : (bs later : List Batch) (A : Type 0) → HandsOne bs A → (A → later ≡ []) → NothingFollowsTheEnd later
    → (before rest : List Batch) (b : Batch) → bs ++ later ≡ before ++ b ∷ rest → b.records ≡ [] → rest ≡ []
one-more bs later A (inl nothing) over ends before rest b e none = ends before rest b (sym (ap (λ (xs : List Batch). xs ++ later) nothing) ∙ e) none
one-more bs later A (inr (x, one, last)) over ends [] rest b e none =
    let whole : x ∷ later ≡ b ∷ rest = sym (ap (λ (xs : List Batch). xs ++ later) one) ∙ e in
    sym (rest-is x b later rest whole) ∙ over (last (ap (λ (y : Batch). y.records) (first-is x b later rest whole) ∙ none))
one-more bs later A (inr (x, one, last)) over ends (y ∷ before) rest b e none =
    ends before rest b (rest-is x y later (before ++ b ∷ rest) (sym (ap (λ (xs : List Batch). xs ++ later) one) ∙ e)) none

ends-from : (tells : Told) (t : Tree) (place : ℕ) (es : List Entry) (id : ℕ) → AreBelow t → NothingFollowsTheEnd (handed_from t place es id)
ends-from tells t place [] id below = λ before rest b e none. absurd (none-split before rest b e)
ends-from tells t place (e ∷ es) id below =
    one-more (hands (handed_by t place e.call) id) (handed_from (after t e.call) (place + 1) es id)
    (IsGone (after t e.call) id) (hands-one tells t place id below e.call)
    (gone-hands tells (after t e.call) (place + 1) es id) (ends-from tells (after t e.call) (place + 1) es id (below-after tells t e.call below))

pub ends-last : (tells : Told) → EndBatchesComeLast
unfolding handed
ends-last tells = λ limits es id. ends-from tells (opening limits) 1 es id (below-opening limits)

-- ---- an end batch means that the instance is gone

gone-stays : (tells : Told) (t : Tree) (es : List Entry) (id : ℕ) → IsGone t id → IsGone (tree_after t es) id
gone-stays tells t [] id gone = gone
gone-stays tells t (e ∷ es) id gone = gone-stays tells (after t e.call) es id (gone-after tells t e.call id gone)

-- one call more before the others: where either has an end batch, this is so
one-ends : (bs later : List Batch) (A B : Type 0) → HandsOne bs A → (A → B)
    → ((before rest : List Batch) (b : Batch) → later ≡ before ++ b ∷ rest → b.records ≡ [] → B)
    → (before rest : List Batch) (b : Batch) → bs ++ later ≡ before ++ b ∷ rest → b.records ≡ [] → B
one-ends bs later A B (inl nothing) stays ends before rest b e none = ends before rest b (sym (ap (λ (xs : List Batch). xs ++ later) nothing) ∙ e) none
one-ends bs later A B (inr (x, one, last)) stays ends [] rest b e none =
    let whole : x ∷ later ≡ b ∷ rest = sym (ap (λ (xs : List Batch). xs ++ later) one) ∙ e in
    stays (last (ap (λ (y : Batch). y.records) (first-is x b later rest whole) ∙ none))
one-ends bs later A B (inr (x, one, last)) stays ends (y ∷ before) rest b e none =
    ends before rest b (rest-is x y later (before ++ b ∷ rest) (sym (ap (λ (xs : List Batch). xs ++ later) one) ∙ e)) none

pub gone-from : (tells : Told) (t : Tree) (place : ℕ) (es : List Entry) (id : ℕ) → AreBelow t
    → (before rest : List Batch) (b : Batch) → handed_from t place es id ≡ before ++ b ∷ rest → b.records ≡ []
    → IsGone (tree_after t es) id
gone-from tells t place [] id below = λ before rest b e none. absurd (none-split before rest b e)
gone-from tells t place (e ∷ es) id below =
    one-ends (hands (handed_by t place e.call) id) (handed_from (after t e.call) (place + 1) es id)
    (IsGone (after t e.call) id) (IsGone (tree_after (after t e.call) es) id)
    (hands-one tells t place id below e.call)
    (gone-stays tells (after t e.call) es id) (gone-from tells (after t e.call) (place + 1) es id (below-after tells t e.call below))

-- a front of what an instance is handed that ends with the end batch is all of it
pub front-is-all : EndBatchesComeLast
    → (limits : Limits) (es : List Entry) (id : ℕ) (front rest : List Batch) (b : Batch)
    → handed limits es id ≡ (front ++ b ∷ []) ++ rest → b.records ≡ [] → rest ≡ []
front-is-all last limits es id front rest b e none = last limits es id front rest b (e ∙ append_assoc front (b ∷ []) rest) none
