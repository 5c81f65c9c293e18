-- What a call answers that hands a batch over.
use Rattle.std.proofs.Common.{◌≡◌, ℕ, Bool, true, false, cond, eqb, List, [], Option, Some, None, option_map, refl, sym, ap, ◌∙◌}
use Rattle.std.proofs.lemmas.Bool.{eqb-false}
use Rattle.record_codec.specs.declared.event.Event.{Event}
use Rattle.record_codec.specs.Records.{spelling}
use Rattle.tree_paths.specs.declared.refusal.Refusal.{Refusal}
use Rattle.instance_table.specs.declared.instance.Instance.{Instance}
use Rattle.instance_table.specs.Instances.{instance_of}
use Rattle.tree_core.specs.declared.call.Call.{Call}
use Rattle.tree_core.specs.declared.call.Call.TheVariants as call
use Rattle.tree_core.specs.declared.reply.Reply.{Reply}
use Rattle.tree_core.specs.declared.reply.Reply.TheVariants as reply
use Rattle.tree_core.specs.Tree.{Tree, refusal_of, reply_of, oldest}
use Rattle.tree_core.specs.Histories.{read_by, records_for, where_open, if_same}
use Rattle.tree_core.proofs.Parts.{read_answer, reply_by, where_accepted, where_records}
use Rattle.tree_core.proofs.Pumping.{pumped-replied}
use Rattle.shared_tree.specs.declared.pipe.Batch.{Batch}
use Rattle.shared_tree.specs.Handed.{batch, handed_by, IsAnswered}
use Rattle.shared_tree.specs.Held.{where_done}

-- what a pump hands over is what it reads, where its reply has records
pub handed-pump : (t : Tree) (place id bytes : ℕ)
    → handed_by t place (call.Pump id bytes)
    ≡ option_map (batch id place) (where_records (reply_of t (call.Pump id bytes)) (read_by t (call.Pump id bytes) id))
handed-pump t place id bytes = ap (λ (o : Option (List Event)). option_map (batch id place) o) (pumped-replied t id bytes)

done-accepted : (r : Option Refusal) (b : Batch) → where_accepted r b ≡ where_done (reply_by r reply.Done) b
done-accepted None b = refl
done-accepted (Some why) b = refl

-- a close hands the end batch over, where it is done
pub handed-close : (t : Tree) (place id : ℕ) → handed_by t place (call.Close id) ≡ where_done (reply_of t (call.Close id)) (batch id place [])
handed-close t place id = done-accepted (refusal_of t (call.Close id)) (batch id place [])

same-id : (id : ℕ) (xs : List Event) → if_same id id xs ≡ xs
same-id id xs = by (eqb id id) refl
  where
    by : (x : Bool) → eqb id id ≡ x → cond x xs [] ≡ xs
    by true e = refl
    by false e = absurd (eqb-false id id e refl)

some-is : (a b : Batch) → ◌≡◌ {A = Option Batch} (Some a) (Some b) → a ≡ b
some-is a b e = cc

pump-answered : (place id bytes : ℕ) (b : Batch) (r : Option Refusal) (o : Option Instance)
    → option_map (batch id place) (where_records (reply_by r (read_answer bytes o)) (where_open r o (records_for (call.Pump id bytes) id))) ≡ Some b
    → (b.place ≡ place) × (b.instance ≡ id) × (reply_by r (read_answer bytes o) ≡ reply.Records (spelling b.records))
pump-answered place id bytes b (Some why) o e = absurd (cc)
pump-answered place id bytes b None None e = absurd (cc)
pump-answered place id bytes b None (Some i) e =
    let is : batch id place (if_same id id (oldest bytes i)) ≡ b = some-is (batch id place (if_same id id (oldest bytes i))) b e in (
      ap (λ (x : Batch). x.place) (sym is),
      ap (λ (x : Batch). x.instance) (sym is),
      ap (λ (rs : List Event). reply.Records (spelling rs)) (sym (same-id id (oldest bytes i)) ∙ ap (λ (x : Batch). x.records) is),
    )

close-answered : (place id : ℕ) (b : Batch) (r : Reply) → where_done r (batch id place []) ≡ Some b
    → (b.place ≡ place) × (b.instance ≡ id) × (b.records ≡ []) × (r ≡ reply.Done)
close-answered place id b reply.Done e =
    let is : batch id place [] ≡ b = some-is (batch id place []) b e in
    (ap (λ (x : Batch). x.place) (sym is), ap (λ (x : Batch). x.instance) (sym is), ap (λ (x : Batch). x.records) (sym is), refl)
close-answered place id b (reply.Records bs) e = absurd (cc)
close-answered place id b (reply.File a) e = absurd (cc)
close-answered place id b (reply.Instance n) e = absurd (cc)
close-answered place id b (reply.Wd wd) e = absurd (cc)
close-answered place id b (reply.Refused why) e = absurd (cc)

pub answered : (t : Tree) (place : ℕ) (c : Call) (b : Batch) → handed_by t place c ≡ Some b → (b.place ≡ place) × IsAnswered c (reply_of t c) b
unfolding read_by
answered t place (call.File f) b e = absurd (cc)
answered t place (call.Init limit is_piped) b e = absurd (cc)
answered t place (call.AddWatch from p mask) b e = absurd (cc)
answered t place (call.RmWatch from wd) b e = absurd (cc)
answered t place (call.Read from bytes) b e = absurd (cc)
answered t place (call.Pump from bytes) b e =
    let h = pump-answered place from bytes b (refusal_of t (call.Pump from bytes)) (instance_of t.instances from) (sym (handed-pump t place from bytes) ∙ e) in
    (h.0, (h.1, h.2))
answered t place (call.Close from) b e =
    let h = close-answered place from b (reply_of t (call.Close from)) (sym (handed-close t place from) ∙ e) in
    (h.0, (h.1, h.2, h.3))
