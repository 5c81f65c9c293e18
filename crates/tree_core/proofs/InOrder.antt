-- What was read of an instance, followed by what waits, is all that joined its queue.
use Rattle.std.proofs.Common.{◌≡◌, ◌⊎◌, ℕ, ◌<◌, ◌≤◌, Bool, true, false, cond, if◌then◌else◌, eqb, ltb, List, [], ◌∷◌}
use Rattle.std.proofs.Common.{◌++◌, Option, Some, None, refl, sym, ap, subst, ◌∙◌, inl, inr, arith, append_assoc}
use Rattle.std.proofs.Common.{append-nil}
use Rattle.std.proofs.lemmas.Bool.{eqb-true, ltb-true, ltb-false}
use Rattle.std.proofs.lemmas.Grind.{flat_map-append}
use Rattle.std.proofs.lemmas.List.{take-append-drop}
use Rattle.std.specs.Prelude.{ℤ, fold, option_map}
use Rattle.record_codec.specs.declared.event.Event.{Event}
use Rattle.tree_paths.specs.declared.refusal.Refusal.{Refusal}
use Rattle.inode_table.specs.World.{look}
use Rattle.watch_table.specs.Masks.{known}
use Rattle.event_queue.specs.Backlogs.{Backlog, offered, joining, after_offer}
use Rattle.event_queue.specs.Reads.{fitting}
use Rattle.event_rules.specs.Raised.{events_of, ignored}
use Rattle.event_rules.specs.Table.{notices_of}
use Rattle.instance_table.specs.declared.instance.Instance.{Instance}
use Rattle.event_rules.specs.declared.notice.Notice.{Notice}
use Rattle.instance_table.specs.Instances.{instance_of, new_instance, told, unwatching, waiting_of, watching}
use Rattle.tree_core.specs.declared.call.Call.{Call}
use Rattle.tree_core.specs.declared.call.Call.TheVariants as call
use Rattle.tree_core.specs.declared.reply.Entry.{Entry}
use Rattle.tree_core.specs.Tree.{Tree, cookie_now, refusal_of, accepted, after, oldest}
use Rattle.tree_core.specs.Journal.{tree_after}
use Rattle.tree_core.specs.Histories.{Raised, where_open, events_for, records_for, raised_to, raised_by, raised_in, read_by, read_in, fate, joined}
use Rattle.tree_core.specs.QueueLaws.{IsInOrder, ReadsAreInOrder}
use Rattle.tree_core.proofs.Parts.{tree_by, after_reading, number_seen}
use Rattle.tree_core.proofs.Opened.{eqb-swap, left_of, instance_of-accepted}
use Rattle.tree_core.proofs.SoundTrees.{sound-ahead}
use Rattle.tree_core.proofs.Untouched.{none-after, none-tree_after, next-after, untouched}

-- ---- queues

-- what waits after several events is what waited, and what joined
pub waiting-joined : (b : Backlog) (es : List Event) → (fold after_offer b es).waiting ≡ b.waiting ++ joined (raised_to b es)
waiting-joined b [] = sym (append-nil b.waiting)
waiting-joined b (e ∷ es) =
    waiting-joined (after_offer b e) es ∙ append_assoc b.waiting (joining (offered b.limit b.waiting e) e) (joined (raised_to (after_offer b e) es))

pub joined-append : (rs ss : List Raised) → joined (rs ++ ss) ≡ joined rs ++ joined ss
joined-append rs ss = flat_map-append (λ (r : Raised). joining (fate r) r.event) rs ss

-- ---- one call

-- an instance goes on: what waited, and what joined, is what was read, and what waits
abbrev pub GoesOn : Option Instance → List Raised → List Event → Option Instance → Type 0
GoesOn old raised read new = waiting_of old ++ joined raised ≡ read ++ waiting_of new

-- an open instance is closed: this raises nothing for it, and reads nothing of it
pub record IsClosing (old : Option Instance) (raised : List Raised) (read : List Event) (new : Option Instance) : Type 0 where
  pub instance : Instance
  pub was_open : old ≡ Some instance
  pub hears_nothing : raised ≡ []
  pub reads_nothing : read ≡ []
  pub is_gone : new ≡ None

-- no instance is open under a number that was not given yet
abbrev pub NoneAhead : Tree → Type 0
NoneAhead t = (id : ℕ) → t.next_id ≤ id → instance_of t.instances id ≡ None

pub NoneAhead-after : (t : Tree) (c : Call) → NoneAhead t → NoneAhead (after t c)
NoneAhead-after t c ahead = λ id h. let more = next-after t c in none-after t c id (ahead id (omega arith)) (inr h)

-- the number of an open instance was given
given : (t : Tree) (id : ℕ) (i : Instance) → NoneAhead t → instance_of t.instances id ≡ Some i → id < t.next_id
given t id i ahead is = by (ltb id t.next_id) refl
  where
    by : (b : Bool) → ltb id t.next_id ≡ b → id < t.next_id
    by true e = ltb-true id t.next_id e
    by false e = absurd (let none : instance_of t.instances id ≡ None = ahead id (ltb-false id t.next_id e) in cc)

-- a queue that is left as it was
same-queue : (old new : Option Instance) → waiting_of old ≡ waiting_of new → GoesOn old [] [] new
same-queue old new e = append-nil (waiting_of old) ∙ e

-- one instance is opened, and the others stay
opens : (b : Bool) (new : Instance) (o : Option Instance) → new.queue.waiting ≡ [] → (b ≡ true → o ≡ None) → waiting_of o ≡ waiting_of (cond b (Some new) o)
opens true new o none free = ap waiting_of (free refl) ∙ sym none
opens false new o none free = refl

-- one instance is changed but for its queue
same-waiting : (b : Bool) (change : Instance → Instance) (o : Option Instance) → ((i : Instance) → i.queue ≡ (change i).queue)
    → waiting_of o ≡ waiting_of (cond b (option_map change o) o)
same-waiting true change None keeps = refl
same-waiting true change (Some i) keeps = ap (λ (q : Backlog). q.waiting) (keeps i)
same-waiting false change o keeps = refl

-- a watch ends in one instance, which receives an IN_IGNORED
abbrev IsUnwatched : Bool → ℤ → Option Instance → Option Instance → Type 0
IsUnwatched b wd o new = GoesOn o (where_open None o (λ i. raised_to i.queue (if b then ignored wd ∷ [] else []))) (where_open None o (λ i. [])) new

unwatched : (b : Bool) (wd : ℤ) (o : Option Instance) → IsUnwatched b wd o (cond b (option_map (unwatching wd) o) o)
unwatched true wd None = refl
unwatched true wd (Some i) = sym (waiting-joined i.queue (ignored wd ∷ []))
unwatched false wd None = refl
unwatched false wd (Some i) = append-nil i.queue.waiting

-- one instance is read
abbrev IsRead : Bool → ℕ → Option Instance → Option Instance → Type 0
IsRead b bytes o new = GoesOn o (where_open None o (λ i. raised_to i.queue [])) (where_open None o (λ i. if b then oldest bytes i else [])) new

is_read : (b : Bool) (bytes : ℕ) (o : Option Instance) → IsRead b bytes o (cond b (option_map (after_reading bytes) o) o)
is_read true bytes None = refl
is_read true bytes (Some i) = append-nil i.queue.waiting ∙ sym (take-append-drop (fitting bytes i.queue.waiting) i.queue.waiting)
is_read false bytes None = refl
is_read false bytes (Some i) = append-nil i.queue.waiting

-- nothing is raised and nothing is read
quiet : (o new : Option Instance) → waiting_of o ≡ waiting_of new → GoesOn o (where_open None o (λ i. raised_to i.queue [])) (where_open None o (λ i. [])) new
quiet None new e = e
quiet (Some i) new e = append-nil i.queue.waiting ∙ e

abbrev pub Leads : Option Instance → List Raised → List Event → Option Instance → Type 0
Leads old raised read new = GoesOn old raised read new ⊎ IsClosing old raised read new

is_closed : (b : Bool) (o : Option Instance) → Leads o (where_open None o (λ i. raised_to i.queue [])) (where_open None o (λ i. [])) (cond b None o)
is_closed true None = inl refl
is_closed true (Some i) = inr (record { instance = i; was_open = refl; hears_nothing = refl; reads_nothing = refl; is_gone = refl })
is_closed false o = inl (quiet o o refl)

heard : (ns : List Notice) (o : Option Instance)
    → GoesOn o (where_open None o (λ i. raised_to i.queue (events_of i.watches ns))) (where_open None o (λ i. [])) (option_map (told ns) o)
heard ns None = refl
heard ns (Some i) = sym (waiting-joined i.queue (events_of i.watches ns))

module _ (t : Tree) (ahead : NoneAhead t) (id : ℕ) where
  abbrev RaisedOf : Call → Option Instance → List Raised
  RaisedOf c o = where_open None o (λ i. raised_to i.queue (events_for t c id i))

  accepted-leads : (c : Call) (o : Option Instance) → instance_of t.instances id ≡ o
      → Leads o (RaisedOf c o) (where_open None o (records_for c id)) (left_of t c id o)
  accepted-leads (call.File f) o is = inl (heard (notices_of t.world f (cookie_now t.next_cookie)) o)
  accepted-leads (call.Init limit is_piped) o is =
      inl (quiet o (left_of t (call.Init limit is_piped) id o)
      (opens (eqb id t.next_id) (new_instance t.limits limit is_piped) o refl
      (λ e. let same : id ≡ t.next_id = eqb-true id t.next_id e in sym is ∙ ahead id (omega arith))))
  accepted-leads (call.AddWatch from p mask) o is =
      inl (quiet o (left_of t (call.AddWatch from p mask) id o)
      (same-waiting (eqb id from) (watching (number_seen (look t.world p)) (known mask)) o (λ i. refl)))
  accepted-leads (call.RmWatch from wd) o is =
      inl (subst (λ b. IsUnwatched b wd o (left_of t (call.RmWatch from wd) id o)) (eqb-swap id from) (unwatched (eqb id from) wd o))
  accepted-leads (call.Read from bytes) o is =
      inl (subst (λ b. IsRead b bytes o (left_of t (call.Read from bytes) id o)) (eqb-swap id from) (is_read (eqb id from) bytes o))
  accepted-leads (call.Pump from bytes) o is =
      inl (subst (λ b. IsRead b bytes o (left_of t (call.Pump from bytes) id o)) (eqb-swap id from) (is_read (eqb id from) bytes o))
  accepted-leads (call.Close from) o is = is_closed (eqb id from) o

  leads-by : (c : Call) (o : Option Refusal)
      → Leads (instance_of t.instances id) (where_open o (instance_of t.instances id) (λ i. raised_to i.queue (events_for t c id i)))
      (where_open o (instance_of t.instances id) (records_for c id))
      (instance_of (tree_by o t (accepted t c)).instances id)
  leads-by c (Some r) = inl (append-nil (waiting_of (instance_of t.instances id)))
  leads-by c None =
      subst (Leads (instance_of t.instances id) (RaisedOf c (instance_of t.instances id)) (where_open None (instance_of t.instances id) (records_for c id)))
      (sym (instance_of-accepted t c id)) (accepted-leads c (instance_of t.instances id) refl)

  pub leads : (c : Call) → Leads (instance_of t.instances id) (raised_by t c id) (read_by t c id) (instance_of (after t c).instances id)
  unfolding raised_by read_by
  leads c = leads-by c (refusal_of t c)

-- ---- a journal

-- what was read before the rest
in-order-more : (front read joined all : List Event) (o : Option Instance) → front ++ joined ≡ all → IsInOrder read joined o → IsInOrder (front ++ read) all o
in-order-more front read joined all None e h = (h.0, append_assoc front read h.0 ∙ ap (λ (xs : List Event). front ++ xs) h.1 ∙ e)
in-order-more front read joined all (Some i) e h = append_assoc front read i.queue.waiting ∙ ap (λ (xs : List Event). front ++ xs) h ∙ e

in-order-none : (waiting read : List Event) (raised : List Raised) (o : Option Instance) → read ≡ [] → raised ≡ [] → o ≡ None
    → IsInOrder read (waiting ++ joined raised) o
in-order-none waiting read raised None e f none =
    (waiting, ap (λ (xs : List Event). xs ++ waiting) e ∙ sym (append-nil waiting) ∙ ap (λ (rs : List Raised). waiting ++ joined rs) (sym f))
in-order-none waiting read raised (Some i) e f none = absurd (cc)

in-order-now : (o : Option Instance) → IsInOrder [] (waiting_of o ++ []) o
in-order-now None = ([], refl)
in-order-now (Some i) = sym (append-nil i.queue.waiting)

module _ (id : ℕ) where
  -- the joins of two parts, in order
  parts : (old new : List Event) (read : List Event) (rs ss : List Raised) → old ++ joined rs ≡ read ++ new
      → read ++ (new ++ joined ss) ≡ old ++ joined (rs ++ ss)
  parts old new read rs ss e =
      sym (append_assoc read new (joined ss)) ∙ ap (λ (xs : List Event). xs ++ joined ss) (sym e)
      ∙ append_assoc old (joined rs) (joined ss) ∙ ap (λ (xs : List Event). old ++ xs) (sym (joined-append rs ss))

  closes : (t : Tree) (ahead : NoneAhead t) (e : Entry) (es : List Entry)
      → IsClosing (instance_of t.instances id) (raised_by t e.call id) (read_by t e.call id) (instance_of (after t e.call).instances id)
      → IsInOrder (read_in t (e ∷ es) id) (waiting_of (instance_of t.instances id) ++ joined (raised_in t (e ∷ es) id))
      (instance_of (tree_after t (e ∷ es)).instances id)
  closes t ahead e es h =
      let next = next-after t e.call in
      let now : id < t.next_id = given t id h.instance ahead h.was_open in
      let past : id < (after t e.call).next_id = omega arith in
      let rest = untouched (after t e.call) es id h.is_gone (inl past) in
      in-order-none (waiting_of (instance_of t.instances id)) (read_in t (e ∷ es) id) (raised_in t (e ∷ es) id)
      (instance_of (tree_after t (e ∷ es)).instances id)
      ((λ i. h.reads_nothing i ++ read_in (after t e.call) es id) ∙ rest.read)
      ((λ i. h.hears_nothing i ++ raised_in (after t e.call) es id) ∙ rest.raised)
      (none-tree_after (after t e.call) es id h.is_gone (inl past))

  in-order : (t : Tree) (es : List Entry) → NoneAhead t
      → IsInOrder (read_in t es id) (waiting_of (instance_of t.instances id) ++ joined (raised_in t es id)) (instance_of (tree_after t es).instances id)
  in-order t [] ahead = in-order-now (instance_of t.instances id)
  in-order t (e ∷ es) ahead =
      let u : Tree = after t e.call in
      elim (leads t ahead id e.call) as (λ _. IsInOrder (read_in t (e ∷ es) id)
      (waiting_of (instance_of t.instances id) ++ joined (raised_in t (e ∷ es) id)) (instance_of (tree_after t (e ∷ es)).instances id)) [
        | inl goes ↦
            in-order-more (read_by t e.call id) (read_in u es id)
            (waiting_of (instance_of u.instances id) ++ joined (raised_in u es id)) _ (instance_of (tree_after u es).instances id)
            (parts (waiting_of (instance_of t.instances id)) (waiting_of (instance_of u.instances id)) (read_by t e.call id)
            (raised_by t e.call id) (raised_in u es id) goes)
            (in-order u es (NoneAhead-after t e.call ahead))
        | inr closing ↦ closes t ahead e es closing
      ]

pub reads_are_in_order : ReadsAreInOrder
reads_are_in_order t es id sound = in-order id t es (sound-ahead t sound)
