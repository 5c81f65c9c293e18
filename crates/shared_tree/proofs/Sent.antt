-- What is handed to an instance with a pipe is what is read of it.
use Rattle.std.proofs.Common.{◌≡◌, ◌⊎◌, ℕ, ◌+◌, ◌≤◌, Bool, true, false, not, cond, eqb, List, [], ◌∷◌, ◌++◌, Option}
use Rattle.std.proofs.Common.{Some, None, option_map, refl, sym, ap, ◌∙◌, subst, inl, inr, arith, append-nil}
use Rattle.std.proofs.lemmas.Bool.{eqb-true}
use Rattle.std.proofs.lemmas.Grind.{flat_map-append}
use Rattle.std.specs.List.{AllByRecursion}
use Rattle.std.specs.Prelude.{IsTrue, unwrap_or}
use Rattle.record_codec.specs.declared.event.Event.{Event}
use Rattle.record_codec.specs.Records.{spelling}
use Rattle.tree_paths.specs.declared.limits.Limits.{Limits}
use Rattle.tree_paths.specs.declared.refusal.Refusal.{Refusal}
use Rattle.instance_table.specs.declared.instance.Instance.{Instance}
use Rattle.instance_table.specs.Instances.{instance_of}
use Rattle.tree_core.specs.declared.call.Call.{Call}
use Rattle.tree_core.specs.declared.call.Call.TheVariants as call
use Rattle.tree_core.specs.declared.reply.Entry.{Entry}
use Rattle.tree_core.specs.declared.reply.Reply.{Reply}
use Rattle.tree_core.specs.declared.reply.Reply.TheVariants as reply
use Rattle.tree_core.specs.Tree.{Tree, opening, refusal_of, reply_of, after, oldest}
use Rattle.tree_core.specs.Histories.{pumped, read_by, read_in, records_for, where_open, if_same}
use Rattle.tree_core.specs.Journal.{IsLawful, IsLawfulFrom}
use Rattle.tree_core.proofs.Parts.{read_answer, reply_by, where_accepted}
use Rattle.shared_tree.specs.declared.pipe.Batch.{Batch}
use Rattle.shared_tree.specs.Handed.{batch, handed, handed_by, handed_from, hands, piped_by, piped_of, records_of, SentIsRead}
use Rattle.shared_tree.specs.Pipes.{IsIn}
use Rattle.tree_core.proofs.Untouched.{none-opening}
use Rattle.shared_tree.proofs.Steps.{next-init, opened-by, piped_by-cases, IsMade, Told, WasOpen}

-- ---- one call

none-open : {A : Type 0} (r : Option Refusal) (o : Option Instance) (f : Instance → List A) → ((i : Instance) → f i ≡ []) → where_open r o f ≡ []
none-open (Some why) o f none = refl
none-open None None f none = refl
none-open None (Some i) f none = none i

not-both : (b : Bool) → IsTrue b → IsTrue (not b) → ⊥
not-both true is isnt = cc
not-both false is isnt = cc

-- the records of one batch, where it is the instance's
records-where : (x : Bool) (b : Batch) → records_of (cond x (b ∷ []) []) ≡ cond x b.records []
records-where true b = append-nil b.records
records-where false b = refl

no-records : (x : Bool) → ◌≡◌ {A = List Event} [] (cond x [] [])
no-records true = refl
no-records false = refl

given-records : (from place id : ℕ) (o : Option (List Event)) → records_of (hands (option_map (batch from place) o) id) ≡ if_same from id (unwrap_or o [])
given-records from place id None = no-records (eqb from id)
given-records from place id (Some rs) = records-where (eqb from id) (batch from place rs)

done-records : (from place id : ℕ) (r : Option Refusal) → records_of (hands (where_accepted r (batch from place [])) id) ≡ []
done-records from place id None = records-where (eqb from id) (batch from place []) ∙ sym (no-records (eqb from id))
done-records from place id (Some why) = refl

-- what a pump hands over is what it reads
pump-reads : (r : Option Refusal) (o : Option Instance) (f : Instance → List Event)
    → unwrap_or (where_accepted r (where_open r o f)) [] ≡ where_open r o f
pump-reads (Some why) o f = refl
pump-reads None o f = refl

-- a pump reads of one instance
pump-here : (t : Tree) (from bytes id : ℕ) → if_same from id (read_by t (call.Pump from bytes) from) ≡ read_by t (call.Pump from bytes) id
unfolding read_by
pump-here t from bytes id = by (eqb from id) refl
  where
    by : (x : Bool) → eqb from id ≡ x → cond x (read_by t (call.Pump from bytes) from) [] ≡ read_by t (call.Pump from bytes) id
    by true same = ap (read_by t (call.Pump from bytes)) (eqb-true from id same)
    by false other =
        sym
        (none-open (refusal_of t (call.Pump from bytes)) (instance_of t.instances id)
        (records_for (call.Pump from bytes) id) (λ i. ap (λ x. cond x (oldest bytes i) []) other))

-- of an instance with a pipe a call hands over what it reads
module _ (tells : Told) (t : Tree) (place id : ℕ) (pipes : (i : Instance) → instance_of t.instances id ≡ Some i → IsTrue i.is_piped) where
  reads-none : (from bytes : ℕ) (x : Bool) → eqb from id ≡ x → (r : Option Refusal)
      → refusal_of t (call.Read from bytes) ≡ r → (o : Option Instance) → instance_of t.instances id ≡ o
      → where_open r o (λ i. cond x (oldest bytes i) []) ≡ []
  reads-none from bytes x same (Some why) is o at = refl
  reads-none from bytes x same None is None at = refl
  reads-none from bytes false same None is (Some i) at = refl
  reads-none from bytes true same None is (Some i) at =
      let here : instance_of t.instances from ≡ Some i = ap (instance_of t.instances) (eqb-true from id same) ∙ at in
      let given : reply_of t (call.Read from bytes) ≡ reply.Records (spelling (oldest bytes i)) = (λ k. reply_by (is k) (read_answer bytes (here k))) in
      let unpiped = (tells t (call.Read from bytes)).read from bytes (spelling (oldest bytes i)) refl given in
      absurd (not-both unpiped.0.is_piped (pipes unpiped.0 (ap (instance_of t.instances) (sym (eqb-true from id same)) ∙ unpiped.1)) unpiped.2)

  sent-by : (c : Call) → records_of (hands (handed_by t place c) id) ≡ read_by t c id
  unfolding read_by
  sent-by (call.File f) = sym (none-open (refusal_of t (call.File f)) (instance_of t.instances id) (records_for (call.File f) id) (λ i. refl))
  sent-by (call.Init limit is_piped) =
      sym
      (none-open (refusal_of t (call.Init limit is_piped)) (instance_of t.instances id)
      (records_for (call.Init limit is_piped) id) (λ i. refl))
  sent-by (call.AddWatch from p mask) =
      sym
      (none-open (refusal_of t (call.AddWatch from p mask)) (instance_of t.instances id)
      (records_for (call.AddWatch from p mask) id) (λ i. refl))
  sent-by (call.RmWatch from wd) =
      sym
      (none-open (refusal_of t (call.RmWatch from wd)) (instance_of t.instances id)
      (records_for (call.RmWatch from wd) id) (λ i. refl))
  sent-by (call.Read from bytes) = sym (reads-none from bytes (eqb from id) refl (refusal_of t (call.Read from bytes)) refl (instance_of t.instances id) refl)
  sent-by (call.Pump from bytes) =
      given-records from place id (pumped t from bytes)
      ∙ ap (if_same from id) (pump-reads (refusal_of t (call.Pump from bytes)) (instance_of t.instances from) (records_for (call.Pump from bytes) from))
      ∙ pump-here t from bytes id
  sent-by (call.Close from) =
      done-records from place id (refusal_of t (call.Close from))
      ∙ sym (none-open (refusal_of t (call.Close from)) (instance_of t.instances id) (records_for (call.Close from) id) (λ i. refl))

-- ---- the instances with a pipe that a journal makes

in-cases : (c : Call) (r : Reply) (ns : List ℕ) (id : ℕ) → IsIn (piped_by c r ++ ns) id
    → IsIn ns id ⊎ ((limit : ℕ) × (c ≡ call.Init limit true) × (r ≡ reply.Instance id))
in-cases c r ns id there = by (piped_by-cases c r)
  where
    first : (limit n : ℕ) → c ≡ call.Init limit true → r ≡ reply.Instance n → IsIn (n ∷ ns) id
        → IsIn ns id ⊎ ((limit : ℕ) × (c ≡ call.Init limit true) × (r ≡ reply.Instance id))
    first limit n is says (inl same) = inr (limit, is, says ∙ ap (λ (m : ℕ). reply.Instance m) same)
    first limit n is says (inr more) = inl more

    by : (piped_by c r ≡ []) ⊎ ((limit : ℕ) × (n : ℕ) × (c ≡ call.Init limit true) × (r ≡ reply.Instance n))
        → IsIn ns id ⊎ ((limit : ℕ) × (c ≡ call.Init limit true) × (r ≡ reply.Instance id))
    by (inl none) = inl (subst (λ (ms : List ℕ). IsIn (ms ++ ns) id) none there)
    by (inr (limit, n, is, says)) =
        first limit n is says
        (subst (λ (ms : List ℕ). IsIn (ms ++ ns) id)
        (ap (λ d. piped_by d r) is ∙ ap (piped_by (call.Init limit true)) says) there)

-- their numbers are not behind the next one
piped-later : (tells : Told) (t : Tree) (es : List Entry) (id : ℕ) → IsLawfulFrom t es → IsIn (piped_of es) id → t.next_id ≤ id
piped-later tells t [] id lawful there = absurd there
piped-later tells t (e ∷ es) id lawful there =
    elim (in-cases e.call e.reply (piped_of es) id there) as (λ _. t.next_id ≤ id) [
      | inl more ↦ let past = piped-later tells (after t e.call) es id lawful.1 more in let rising = (tells t e.call).rising in omega (arith, past, rising)
      | inr made ↦ let next = (tells t e.call).opened id (sym lawful.0 ∙ made.2) in omega (arith, next)
    ]

-- an instance with a pipe: where it is open it has one, and where it is still to be made the journal makes it with one
record HasItsPipe (t : Tree) (es : List Entry) (id : ℕ) : Type 0 where
  opened : (i : Instance) → instance_of t.instances id ≡ Some i → IsTrue i.is_piped
  later : t.next_id ≤ id → IsIn (piped_of es) id

is-init : (limit other : ℕ) (b : Bool) → call.Init limit true ≡ call.Init other b → IsTrue b
is-init limit other b e = cc

module _ (tells : Told) (t : Tree) (e : Entry) (es : List Entry) (id : ℕ) (is : e.reply ≡ reply_of t e.call)
    (lawful : IsLawfulFrom (after t e.call) es) (has : HasItsPipe t (e ∷ es) id) where
  open-after : (i : Instance) → instance_of (after t e.call).instances id ≡ Some i → IsTrue i.is_piped
  open-after i there = by (opened-by t e.call id i there)
    where
      made : IsMade t e.call id i → IsIn (piped_of es) id ⊎ ((limit : ℕ) × (e.call ≡ call.Init limit true) × (e.reply ≡ reply.Instance id)) → IsTrue i.is_piped
      made m (inl more) =
          let past = piped-later tells (after t e.call) es id lawful more in
          let next = m.is_next in let grows = m.grows in absurd (omega (arith, past, next, grows))
      made m (inr (limit, init, says)) = is-init limit m.limit i.is_piped (sym init ∙ m.init)

      by : WasOpen t id i ⊎ IsMade t e.call id i → IsTrue i.is_piped
      by (inl (j, was, same)) = subst IsTrue (sym same) (has.opened j was)
      by (inr m) = let next = m.is_next in made m (in-cases e.call e.reply (piped_of es) id (has.later (omega (arith, next))))

  later-after : (after t e.call).next_id ≤ id → IsIn (piped_of es) id
  later-after past = by (in-cases e.call e.reply (piped_of es) id (has.later (let rising = (tells t e.call).rising in omega (arith, past, rising))))
    where
      by : IsIn (piped_of es) id ⊎ ((limit : ℕ) × (e.call ≡ call.Init limit true) × (e.reply ≡ reply.Instance id)) → IsIn (piped_of es) id
      by (inl more) = more
      by (inr (limit, init, says)) =
          let next = (tells t e.call).opened id (sym is ∙ says) in
          let grows : (after t e.call).next_id ≡ t.next_id + 1 =
          ap (λ c. (after t c).next_id) init
          ∙ next-init t limit true id (sym (ap (reply_of t) init) ∙ sym is ∙ says) in
          absurd (omega (arith, past, next, grows))

-- ---- a journal

sent-from : (tells : Told) (t : Tree) (place : ℕ) (es : List Entry) (id : ℕ) → IsLawfulFrom t es → HasItsPipe t es id
    → records_of (handed_from t place es id) ≡ read_in t es id
sent-from tells t place [] id lawful has = refl
sent-from tells t place (e ∷ es) id lawful has =
    flat_map-append (λ (b : Batch). b.records) (hands (handed_by t place e.call) id) (handed_from (after t e.call) (place + 1) es id)
    ∙ ap (λ (rs : List Event). rs ++ records_of (handed_from (after t e.call) (place + 1) es id)) (sent-by tells t place id has.opened e.call)
    ∙ ap (λ (rs : List Event). read_by t e.call id ++ rs)
    (sent-from tells (after t e.call) (place + 1) es id lawful.1
    (record {
      opened = open-after tells t e es id lawful.0 lawful.1 has;
      later = later-after tells t e es id lawful.0 lawful.1 has;
    }))

all-in : (P : ℕ → Type 0) (ns : List ℕ) → ((id : ℕ) → IsIn ns id → P id) → AllByRecursion P ns
all-in P [] holds = tt
all-in P (n ∷ ns) holds = (holds n (inl refl), all-in P ns (λ id there. holds id (inr there)))

open-none : (limits : Limits) (id : ℕ) (i : Instance) → instance_of (opening limits).instances id ≡ Some i → {A : Type 0} → A
open-none limits id i there = absurd (let none : ◌≡◌ {A = Option Instance} None (Some i) = sym (none-opening limits id) ∙ there in cc)

pub sent-is-read : (tells : Told) → SentIsRead
unfolding handed IsLawful
sent-is-read tells = λ limits es lawful.
    all-in (λ id. records_of (handed limits es id) ≡ read_in (opening limits) es id) (piped_of es)
    (λ id there. sent-from tells (opening limits) 1 es id lawful (record { opened = λ i h. open-none limits id i h; later = λ past. there }))
