-- Reads and pumps, and what a pump hands over.
use Rattle.std.proofs.Common.{◌≡◌, ℕ, Bool, true, false, eqb, if◌then◌else◌, List, [], Option, Some, None, IsSome}
use Rattle.std.proofs.Common.{is_some, option_map, Result, Ok, Err, IsErrAnd, inl, inr, take, refl, sym, ap, subst, ◌∙◌}
use Rattle.std.proofs.Common.{arith}
use Rattle.std.proofs.lemmas.Bool.Decides.{nat_tests}
use Rattle.std.specs.Option.{unwrap_or}
use Rattle.std.specs.Prelude.{◌⊎◌, IfOk, IfErr, IfSome}
use Rattle.record_codec.specs.Records.{AreEvents, spelling}
use Rattle.record_codec.specs.declared.event.Event.{Event}
use Rattle.tree_paths.specs.Rows.{first_row}
use Rattle.tree_paths.specs.declared.refusal.Refusal.{Refusal}
use Rattle.tree_paths.specs.declared.refusal.Refusal.TheVariants.{Enomem}
use Rattle.event_queue.specs.Reads.{fitting}
use Rattle.instance_table.specs.declared.instance.Instance.{Instance}
use Rattle.instance_table.specs.Instances.{Instances, WaitingAreEvents, after_read, changed, instance_of, waiting_of}
use Rattle.tree_core.specs.declared.call.Call.TheVariants as call
use Rattle.tree_core.specs.declared.file_system.Begun.{Begun}
use Rattle.tree_core.specs.declared.file_system.FileSystem.{FileSystem}
use Rattle.tree_core.specs.declared.file_system.Rest.TheVariants.{Take}
use Rattle.tree_core.specs.declared.reply.Reply.{Reply}
use Rattle.tree_core.specs.declared.reply.Reply.TheVariants as reply
use Rattle.tree_core.specs.Tree.{Tree, refusal_of, reply_of, accepted, accepted_reply, read_rows, oldest}
use Rattle.tree_core.specs.Histories.{pumped, read_by, records_for, where_open}
use Rattle.tree_core.specs.FileSystems.{tree_in, Attempts, IsNumbered, reading, taken}
use Rattle.tree_core.proofs.Parts.{after_reading, read_answer, reply_by, where_accepted, where_records}
use Rattle.tree_core.proofs.Instances.{IsNumbered-changed, changed-same, read-open}
use Rattle.tree_core.proofs.Serving.{IsAnswered, failed-attempts, reply_of-accepted}
use Rattle.tree_core.proofs.Spelled.{read-events}

read_by-accepted : (t : Tree) (id bytes : ℕ) (i : Instance) → instance_of t.instances id ≡ Some i
    → refusal_of t (call.Pump id bytes) ≡ None → read_by t (call.Pump id bytes) id ≡ oldest bytes i
unfolding read_by
read_by-accepted t id bytes i at none =
    let same : eqb id id ≡ true = grind (arith, nat_tests) in
    (λ k. where_open (none k) (at k) (records_for (call.Pump id bytes) id)) ∙ ap (λ (b : Bool). if b then oldest bytes i else []) same

-- a pump that is not refused hands over the oldest records
pub pumped-accepted : (t : Tree) (id bytes : ℕ) (o : Option Instance) → instance_of t.instances id ≡ o
    → refusal_of t (call.Pump id bytes) ≡ None → IsSome o → pumped t id bytes ≡ option_map (oldest bytes) o
pumped-accepted t id bytes None at none there = absurd (cc)
pumped-accepted t id bytes (Some i) at none there =
    ap (λ r. where_accepted r (read_by t (call.Pump id bytes) id)) none ∙ ap (λ es. Some es) (read_by-accepted t id bytes i at none)

pub pumped-refused : (t : Tree) (id bytes : ℕ) (r : Refusal) → refusal_of t (call.Pump id bytes) ≡ Some r → pumped t id bytes ≡ None
pumped-refused t id bytes r is = ap (λ r. where_accepted r (read_by t (call.Pump id bytes) id)) is

-- what a pump hands over is what it reads, where its reply has records
pub pumped-replied : (t : Tree) (id bytes : ℕ)
    → pumped t id bytes ≡ where_records (reply_of t (call.Pump id bytes)) (read_by t (call.Pump id bytes) id)
pumped-replied t id bytes = by (refusal_of t (call.Pump id bytes)) refl (instance_of t.instances id) refl
  where
    by : (r : Option Refusal) → refusal_of t (call.Pump id bytes) ≡ r → (o : Option Instance) → instance_of t.instances id ≡ o
        → where_accepted r (read_by t (call.Pump id bytes) id) ≡ where_records (reply_by r (read_answer bytes o)) (read_by t (call.Pump id bytes) id)
    by (Some why) is o at = refl
    by None is (Some i) at = refl
    by None is None at =
        absurd (
        let there : IsSome (instance_of t.instances id) = read-open true bytes (instance_of t.instances id) (sym is) in
        let missing : ◌≡◌ {A = Bool} false true = ap is_some (sym at) ∙ there in cc)

where-events : (o : Option Refusal) (es fs : List Event) → AreEvents es → where_accepted o es ≡ Some fs → AreEvents fs
where-events None es fs are is = subst (λ (o : Option (List Event)). IfSome o AreEvents) is are
where-events (Some r) es fs are is = absurd (cc)

-- the reply of a pump has the bytes of the records that it hands over
pumped-by : (t : Tree) (id bytes : ℕ) (o : Option Refusal) → refusal_of t (call.Pump id bytes) ≡ o → (x : Option Instance) → instance_of t.instances id ≡ x
    → (es : List Event) → pumped t id bytes ≡ Some es → reply_of t (call.Pump id bytes) ≡ reply.Records (spelling es)
pumped-by t id bytes (Some r) is x at es e = let none : pumped t id bytes ≡ None = pumped-refused t id bytes r is in absurd (cc)
pumped-by t id bytes None is None at es e =
    absurd (
    let there : IsSome (instance_of t.instances id) = read-open true bytes (instance_of t.instances id) (sym is) in
    let missing : ◌≡◌ {A = Bool} false true = ap is_some (sym at) ∙ there in cc)
pumped-by t id bytes None is (Some i) at es e =
    let same : oldest bytes i ≡ es = ap (λ (o : Option (List Event)). unwrap_or o []) (sym (pumped-accepted t id bytes (Some i) at is refl) ∙ e) in
    reply_of-accepted t (call.Pump id bytes) is ∙ ap (read_answer bytes) at ∙ ap (λ xs. reply.Records (spelling xs)) same

-- a pump hands over events, whose bytes its reply has
pub records-spelled : (t : Tree) → WaitingAreEvents t.instances → (id bytes : ℕ) (o : Option (List Event)) (r : Reply)
    → o ≡ pumped t id bytes → r ≡ reply_of t (call.Pump id bytes)
    → IfSome o (λ es. AreEvents es × (r ≡ reply.Records (spelling es)))
records-spelled t waits id bytes None r is e = tt
records-spelled t waits id bytes (Some es) r is e = (
  where-events (refusal_of t (call.Pump id bytes)) (read_by t (call.Pump id bytes) id) es (read-events t waits (call.Pump id bytes) id) (sym is),
  e ∙ pumped-by t id bytes (refusal_of t (call.Pump id bytes)) refl (instance_of t.instances id) refl es (sym is),
)

-- ---- reads and pumps

read-refusal : (pumps : Bool) (t : Tree) (id bytes : ℕ) → refusal_of t (reading pumps id bytes) ≡ first_row (read_rows pumps bytes (instance_of t.instances id))
read-refusal true t id bytes = refl
read-refusal false t id bytes = refl

read-reply : (pumps : Bool) (t : Tree) (id bytes : ℕ) → accepted_reply t (reading pumps id bytes) ≡ read_answer bytes (instance_of t.instances id)
read-reply true t id bytes = refl
read-reply false t id bytes = refl

read-after : (pumps : Bool) (t : Tree) (id bytes : ℕ)
    → accepted t (reading pumps id bytes) ≡ record t { instances = changed t.instances id (after_reading bytes) }
read-after true t id bytes = refl
read-after false t id bytes = refl

module _ (m : FileSystem) (pumps : Bool) (id bytes : ℕ) where
  pub read-refused : (new : FileSystem) (result : Result Begun Refusal) (r : Refusal) → IsErrAnd result (λ e. e ≡ r)
      → first_row (read_rows pumps bytes (instance_of m.instances id)) ≡ Some r → tree_in new ≡ tree_in m → Attempts m (reading pumps id bytes) result new
  read-refused new result r is refused same =
      failed-attempts m new (reading pumps id bytes) result r is (inl (read-refusal pumps (tree_in m) id bytes ∙ refused)) same

  -- the records that fit are left to be taken
  pub read-attempts : (i : Instance) (index count : ℕ) (records : List ℕ) → IsNumbered (tree_in m) → instance_of m.instances id ≡ Some i
      → first_row (read_rows pumps bytes (instance_of m.instances id)) ≡ None → count ≡ fitting bytes i.queue.waiting
      → records ≡ spelling (take count i.queue.waiting)
      → Attempts m (reading pumps id bytes) (Ok (record { reply = reply.Records records; rest = Take id index count })) m
  read-attempts i index count records numbered at passes fits said = record {
    passes = read-refusal pumps (tree_in m) id bytes ∙ passes;
    reply =
        ap reply.Records (said ∙ ap (λ n. spelling (take n i.queue.waiting)) fits)
        ∙ ap (read_answer bytes) (sym at) ∙ sym (read-reply pumps (tree_in m) id bytes);
    rest = tt;
    tree =
        ap (λ (x : Instances). record (tree_in m) { instances = x })
        (changed-same m.instances id (after_read count) (after_reading bytes) i at (ap (λ n. after_read n i) fits))
        ∙ sym (read-after pumps (tree_in m) id bytes);
    begun = λ _. refl;
    numbered = subst IsNumbered (sym (read-after pumps (tree_in m) id bytes)) (IsNumbered-changed (tree_in m) numbered id (after_reading bytes));
    refused = tt;
    err = tt;
  }

-- what a read takes
pub read-taken : (m : FileSystem) (id bytes : ℕ) (i : Instance) (index count : ℕ) → instance_of m.instances id ≡ Some i → count ≡ fitting bytes i.queue.waiting
    → taken m (Take id index count) ≡ option_map (oldest bytes) (instance_of m.instances id)
read-taken m id bytes i index count at fits =
    ap (λ o. Some (take count (waiting_of o))) at ∙ ap (λ n. Some (take n i.queue.waiting)) fits ∙ ap (option_map (oldest bytes)) (sym at)

-- what a pump takes, also where it is refused
pump-answered : (m : FileSystem) (id bytes : ℕ) (r : Refusal) (result : Result Begun Refusal)
    → (refusal_of (tree_in m) (call.Pump id bytes) ≡ Some r) ⊎ (r ≡ Enomem) → IsAnswered result r
    → IfOk result (λ b. taken m b.rest ≡ pumped (tree_in m) id bytes)
pump-answered m id bytes r result why (inl is) = subst (λ (x : Result Begun Refusal). IfOk x (λ b. taken m b.rest ≡ pumped (tree_in m) id bytes)) (sym is.1) tt
pump-answered m id bytes r result (inl refused) (inr is) =
    subst (λ (x : Result Begun Refusal). IfOk x (λ b. taken m b.rest ≡ pumped (tree_in m) id bytes)) (sym is.1)
    (sym (pumped-refused (tree_in m) id bytes r refused))
pump-answered m id bytes r result (inr memory) (inr is) = absurd (is.0 memory)

pub pump-taken : (m : FileSystem) (id bytes : ℕ) (tried result : Result Begun Refusal) → Attempts m (call.Pump id bytes) tried m
    → IfOk tried (λ b. taken m b.rest ≡ option_map (oldest bytes) (instance_of m.instances id)) → IfOk tried (λ b. result ≡ Ok b)
    → IfErr tried (IsAnswered result)
    → IfOk result (λ b. taken m b.rest ≡ pumped (tree_in m) id bytes)
pump-taken m id bytes (Ok b) result h records is none =
    let o = instance_of m.instances id in
    subst (λ (x : Result Begun Refusal). IfOk x (λ b. taken m b.rest ≡ pumped (tree_in m) id bytes)) (sym is)
    (records ∙ sym (pumped-accepted (tree_in m) id bytes o refl h.passes (read-open true bytes o (sym h.passes))))
pump-taken m id bytes (Err r) result h records none is = pump-answered m id bytes r result h.refused is
