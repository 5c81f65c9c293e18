-- What the locked value keeps of a whole journal, over one entry more.
use Rattle.std.proofs.Common.{◌≡◌, ◌⊎◌, ℕ, zero, suc, ◌+◌, ◌<◌, ◌≤◌, Bool, true, false, cond, eqb, List, [], ◌∷◌, ◌++◌}
use Rattle.std.proofs.Common.{length, map, Option, Some, None, option_map, is_some, refl, sym, ap, ◌∙◌, subst, inl, inr}
use Rattle.std.proofs.Common.{arith, append-nil, append_assoc, length-append}
use Rattle.std.specs.FinMap as finmap
use Rattle.std.specs.FinMap.{get-empty}
use Rattle.std.specs.Ordering.{nat_cmp}
use Rattle.std.specs.Prelude.{IfSome, IsSome, IsTrue, ◌↔◌, slice_get, unwrap_or}
use Rattle.record_codec.specs.declared.event.Event.{Event}
use Rattle.record_codec.specs.Records.{AreEvents}
use Rattle.tree_paths.specs.declared.limits.Limits.{Limits}
use Rattle.tree_paths.specs.declared.refusal.Refusal.{Refusal}
use Rattle.instance_table.specs.declared.instance.Instance.{Instance}
use Rattle.instance_table.specs.Instances.{instance_of}
use Rattle.tree_core.specs.declared.call.Call.{Call}
use Rattle.tree_core.specs.declared.call.Call.TheVariants as call
use Rattle.tree_core.specs.declared.reply.Entry.{Entry}
use Rattle.tree_core.specs.declared.reply.Receipt.{Receipt}
use Rattle.tree_core.specs.declared.reply.Reply.{Reply}
use Rattle.tree_core.specs.declared.reply.Reply.TheVariants as reply
use Rattle.tree_core.specs.Tree.{Tree, opening, refusal_of, reply_of, after}
use Rattle.tree_core.specs.Journal.{Journaled, last_place, now, opened, tree_after, waiting_in, with_entry}
use Rattle.tree_core.proofs.Lawful.{now-entry}
use Rattle.tree_core.proofs.Parts.{where_accepted, where_records}
use Rattle.shared_tree.specs.declared.pipe.Batch.{Batch}
use Rattle.tree_core.specs.Calls.{is_plain}
use Rattle.tree_core.specs.Histories.{pumped, read_by}
use Rattle.shared_tree.specs.Pipes.{IsIn}
use Rattle.shared_tree.specs.PipeEnds.{Piped}
use Rattle.shared_tree.specs.Seats.{Seated}
use Rattle.shared_tree.specs.Handed.{AreOfEvents, batch, handed_by, handed_from, handed_since, hands, piped_by, piped_of, deliver}
use Rattle.shared_tree.specs.Calls.{JoinsJournal, HasPipe, IsForPipe}
use Rattle.shared_tree.specs.Held.{closed_of, end_of, IsFilled, IsHeldWhole, IsPipeFound, IsReady, Rises, where_done}
use Rattle.shared_tree.proofs.Answered.{handed-pump}
use Rattle.shared_tree.proofs.Steps.{Told, end_of-handed, hands-none, next-init, plain-makes-none, opened-by, piped_by-cases, IsMade, WasOpen}

-- ---- lists of numbers

Rises-weaken : (ns : List ℕ) (least next later : ℕ) → next ≤ later → Rises least ns next → Rises least ns later
Rises-weaken [] least next later more rises = omega (arith, more, rises)
Rises-weaken (n ∷ ns) least next later more rises = (rises.0, Rises-weaken ns (n + 1) next later more rises.1)

pub Rises-snoc : (ns : List ℕ) (least next : ℕ) → Rises least ns next → Rises least (ns ++ next ∷ []) (next + 1)
Rises-snoc [] least next rises = (rises, omega arith)
Rises-snoc (n ∷ ns) least next rises = (rises.0, Rises-snoc ns (n + 1) next rises.1)

Rises-least : (ns : List ℕ) (least next : ℕ) → Rises least ns next → least ≤ next
Rises-least [] least next rises = rises
Rises-least (n ∷ ns) least next rises = let h = Rises-least ns (n + 1) next rises.1 in omega (arith, rises.0, h)

-- numbers that rise are below the next
Rises-in : (ns : List ℕ) (least next id : ℕ) → Rises least ns next → IsIn ns id → id < next
Rises-in [] least next id rises there = absurd there
Rises-in (n ∷ ns) least next id rises (inl same) = let h = Rises-least ns (n + 1) next rises.1 in omega (arith, same, h)
Rises-in (n ∷ ns) least next id rises (inr there) = Rises-in ns (n + 1) next id rises.1 there

IsIn-front : (ns ms : List ℕ) (id : ℕ) → IsIn ns id → IsIn (ns ++ ms) id
IsIn-front [] ms id there = absurd there
IsIn-front (n ∷ ns) ms id (inl same) = inl same
IsIn-front (n ∷ ns) ms id (inr there) = inr (IsIn-front ns ms id there)

IsIn-last : (ns : List ℕ) (id : ℕ) → IsIn (ns ++ id ∷ []) id
IsIn-last [] id = inl refl
IsIn-last (n ∷ ns) id = inr (IsIn-last ns id)

IsIn-snoc : (ns : List ℕ) (n id : ℕ) → IsIn (ns ++ n ∷ []) id → IsIn ns id ⊎ (n ≡ id)
IsIn-snoc [] n id (inl same) = inr same
IsIn-snoc [] n id (inr none) = absurd none
IsIn-snoc (m ∷ ns) n id (inl same) = inl (inl same)
IsIn-snoc (m ∷ ns) n id (inr there) =
    elim (IsIn-snoc ns n id there) as (λ _. IsIn (m ∷ ns) id ⊎ (n ≡ id)) [
      | inl h ↦ inl (inr h)
      | inr same ↦ inr same
    ]

-- ---- one entry more

handed_from-snoc : (t : Tree) (place at : ℕ) (es : List Entry) (e : Entry) (id : ℕ) → at ≡ place + length es
    → handed_from t place (es ++ e ∷ []) id ≡ handed_from t place es id ++ hands (handed_by (tree_after t es) at e.call) id
handed_from-snoc t place at [] e id is =
    let same : at ≡ place = omega (arith, is) in
    append-nil (hands (handed_by t place e.call) id) ∙ ap (λ p. hands (handed_by t p e.call) id) (sym same)
handed_from-snoc t place at (x ∷ es) e id is =
    ap (λ r. hands (handed_by t place x.call) id ++ r) (handed_from-snoc (after t x.call) (place + 1) at es e id (omega (arith, is)))
    ∙ sym
    (append_assoc (hands (handed_by t place x.call) id) (handed_from (after t x.call) (place + 1) es id)
    (hands (handed_by (tree_after (after t x.call) es) at e.call) id))

handed-snoc : (s : Journaled) (e : Entry) (id : ℕ)
    → handed_since (with_entry s e) id ≡ handed_since s id ++ hands (handed_by (now s) (last_place s + 1) e.call) id
unfolding handed_since now
handed-snoc s e id = handed_from-snoc s.start (s.place + 1) (last_place s + 1) s.entries e id (omega arith)

piped_of-snoc : (es : List Entry) (e : Entry) → piped_of (es ++ e ∷ []) ≡ piped_of es ++ piped_by e.call e.reply
piped_of-snoc [] e = append-nil (piped_by e.call e.reply)
piped_of-snoc (x ∷ es) e =
    ap (λ r. piped_by x.call x.reply ++ r) (piped_of-snoc es e)
    ∙ sym (append_assoc (piped_by x.call x.reply) (piped_of es) (piped_by e.call e.reply))

map_deliver : (f g : ℕ → List Batch) (o : Option Batch) (ns : List ℕ) → ((id : ℕ) → g id ≡ f id ++ hands o id) → map g ns ≡ deliver o ns (map f ns)
map_deliver f g o [] more = refl
map_deliver f g o (n ∷ ns) more = rw (more n, map_deliver f g o ns more) refl

map-none : (g : ℕ → List Batch) (ns : List ℕ) → ((id : ℕ) → IsIn ns id → g id ≡ []) → map g ns ≡ map (λ (id : ℕ). []) ns
map-none g [] none = refl
map-none g (n ∷ ns) none = rw (none n (inl refl), map-none g ns (λ id there. none id (inr there))) refl

map-append : (g : ℕ → List Batch) (ns ms : List ℕ) → map g (ns ++ ms) ≡ map g ns ++ map g ms
map-append g [] ms = refl
map-append g (n ∷ ns) ms = ap (λ r. g n ∷ r) (map-append g ns ms)

-- what is said of each batch

abbrev pub IsOfEvents : Batch → Type 0
IsOfEvents b = AreEvents b.records

all-more : (bs more : List Batch) → AreOfEvents bs → AreOfEvents more → AreOfEvents (bs ++ more)
all-more [] more x y = y
all-more (b ∷ bs) more x y = (x.0, all-more bs more x.1 y)

all-hands : (o : Option Batch) (id : ℕ) → IfSome o IsOfEvents → AreOfEvents (hands o id)
all-hands None id is = tt
all-hands (Some b) id is = by (eqb b.instance id)
  where
    by : (x : Bool) → AreOfEvents (cond x (b ∷ []) [])
    by true = (is, tt)
    by false = tt

module _ (tells : Told) (s : Journaled) (e : Entry) (numbers : List ℕ) (sent : List (List Batch)) (total : ℕ)
    (held : IsHeldWhole s numbers sent total) (lawful : e.reply ≡ reply_of (now s) e.call)
    (sound : IfSome (handed_by (now s) (last_place s + 1) e.call) IsOfEvents) where
  abbrev t : Tree
  t = now s

  abbrev new : Journaled
  new = with_entry s e

  abbrev o : Option Batch
  o = handed_by t (last_place s + 1) e.call

  abbrev made : List ℕ
  made = piped_by e.call e.reply

  later : now new ≡ after t e.call
  later = now-entry s e

  grows : t.next_id ≤ (now new).next_id
  grows = subst (λ (u : Tree). t.next_id ≤ u.next_id) (sym later) (tells t e.call).rising

  -- a number that an instance gets is the next one
  is-next : (id : ℕ) → e.reply ≡ reply.Instance id → id ≡ t.next_id
  is-next id says = (tells t e.call).opened id (sym lawful ∙ says)

  closed-at : (id : ℕ) → t.next_id ≤ id → instance_of t.instances id ≡ None
  closed-at id past = by (instance_of t.instances id) refl
    where
      by : (x : Option Instance) → instance_of t.instances id ≡ x → x ≡ None
      by None h = refl
      by (Some i) h = let below = held.below id i h in absurd (omega (arith, below, past))

  hands-nothing : (id : ℕ) → t.next_id ≤ id → handed_since new id ≡ []
  hands-nothing id past =
      handed-snoc s e id
      ∙ ap (λ (xs : List Batch). xs ++ hands o id) (held.unmade id past)
      ∙ hands-none tells t (last_place s + 1) id (closed-at id past) e.call

  -- the numbers that are made
  made-cases : (made ≡ []) ⊎ ((made ≡ t.next_id ∷ []) × ((now new).next_id ≡ t.next_id + 1) × (e.reply ≡ reply.Instance t.next_id))
  made-cases =
      elim (piped_by-cases e.call e.reply) as (λ _.
      (made ≡ [])
      ⊎ ((made ≡ t.next_id ∷ []) × ((now new).next_id ≡ t.next_id + 1) × (e.reply ≡ reply.Instance t.next_id))) [
        | inl none ↦ inl none
        | inr one ↦ inr (one-made one.0 one.1 one.2 one.3)
      ]
    where
      one-made : (limit id : ℕ) → e.call ≡ call.Init limit true → e.reply ≡ reply.Instance id
          → (made ≡ t.next_id ∷ []) × ((now new).next_id ≡ t.next_id + 1) × (e.reply ≡ reply.Instance t.next_id)
      one-made limit id is says =
          let same = is-next id says in (
            ap (λ c. piped_by c e.reply) is ∙ ap (λ r. piped_by (call.Init limit true) r) says ∙ ap (λ (n : ℕ). n ∷ []) same,
            ap (λ (u : Tree). u.next_id) later ∙ ap (λ c. (after t c).next_id) is
                ∙ next-init t limit true id (sym (ap (λ c. reply_of t c) is) ∙ sym lawful ∙ says),
            says ∙ ap (λ (n : ℕ). reply.Instance n) same,
          )

  counted : total + 1 ≡ last_place new
  counted = omega (arith, held.counted, length-append s.entries (e ∷ []))

  piped : numbers ++ made ≡ piped_of new.entries
  piped = ap (λ (ns : List ℕ). ns ++ made) held.piped ∙ sym (piped_of-snoc s.entries e)

  rises-by : (made ≡ [])
      ⊎ ((made ≡ t.next_id ∷ []) × ((now new).next_id ≡ t.next_id + 1) × (e.reply ≡ reply.Instance t.next_id))
      → Rises 1 (numbers ++ made) (now new).next_id
  rises-by (inl none) =
      subst (λ (ms : List ℕ). Rises 1 (numbers ++ ms) (now new).next_id) (sym none)
      (subst (λ (ns : List ℕ). Rises 1 ns (now new).next_id) (sym (append-nil numbers))
      (Rises-weaken numbers 1 t.next_id (now new).next_id grows held.rises))
  rises-by (inr (one, more, says)) =
      subst (λ (ms : List ℕ). Rises 1 (numbers ++ ms) (now new).next_id) (sym one)
      (subst (λ (n : ℕ). Rises 1 (numbers ++ t.next_id ∷ []) n) (sym more)
      (Rises-snoc numbers 1 t.next_id held.rises))

  made-are-next : (id : ℕ) → IsIn made id → t.next_id ≤ id
  made-are-next id there = by made-cases
    where
      by : (made ≡ []) ⊎ ((made ≡ t.next_id ∷ []) × ((now new).next_id ≡ t.next_id + 1) × (e.reply ≡ reply.Instance t.next_id)) → t.next_id ≤ id
      by (inl none) = absurd (subst (λ (ms : List ℕ). IsIn ms id) none there)
      by (inr (one, more, says)) = first (subst (λ (ms : List ℕ). IsIn ms id) one there)
        where
          first : IsIn (t.next_id ∷ []) id → t.next_id ≤ id
          first (inl same) = omega (arith, same)
          first (inr none) = absurd none

  pushed : deliver o numbers sent ++ map (λ (id : ℕ). []) made ≡ map (handed_since new) (piped_of new.entries)
  pushed =
      let old : deliver o numbers sent ≡ map (handed_since new) (piped_of s.entries) =
      ap (λ (ns : List ℕ). deliver o ns sent) held.piped ∙ ap (λ (xss : List (List Batch)). deliver o (piped_of s.entries) xss) held.pushed
      ∙ sym (map_deliver (handed_since s) (handed_since new) o (piped_of s.entries) (handed-snoc s e)) in
      let fresh : map (λ (id : ℕ). []) made ≡ map (handed_since new) made =
      sym (map-none (handed_since new) made (λ id there. hands-nothing id (made-are-next id there))) in
      ap (λ (xss : List (List Batch)). xss ++ map (λ (id : ℕ). []) made) old
      ∙ ap (λ (xss : List (List Batch)). map (handed_since new) (piped_of s.entries) ++ xss) fresh
      ∙ sym (map-append (handed_since new) (piped_of s.entries) made) ∙ ap (map (handed_since new)) (sym (piped_of-snoc s.entries e))

  events : (id : ℕ) → AreOfEvents (handed_since new id)
  events id = subst AreOfEvents (sym (handed-snoc s e id)) (all-more (handed_since s id) (hands o id) (held.events id) (all-hands o id sound))

  -- ---- the open instances

  open-later : (id : ℕ) (i : Instance) → instance_of (now new).instances id ≡ Some i → WasOpen t id i ⊎ IsMade t e.call id i
  open-later id i h = opened-by t e.call id i (subst (λ (u : Tree). instance_of u.instances id ≡ Some i) later h)

  below : (id : ℕ) (i : Instance) → instance_of (now new).instances id ≡ Some i → id < (now new).next_id
  below id i h = by (open-later id i h)
    where
      by : WasOpen t id i ⊎ IsMade t e.call id i → id < (now new).next_id
      by (inl (j, there, same)) = let old = held.below id j there in omega (arith, old, grows)
      by (inr is) =
          let more : (now new).next_id ≡ t.next_id + 1 = ap (λ (u : Tree). u.next_id) later ∙ is.grows in
          let next = is.is_next in omega (arith, next, more)

  unmade : (id : ℕ) → (now new).next_id ≤ id → handed_since new id ≡ []
  unmade id past = hands-nothing id (omega (arith, grows, past))

  -- what was open keeps its way
  keeps-way : (id : ℕ) (i j : Instance) → instance_of t.instances id ≡ Some j → i.is_piped ≡ j.is_piped → IsTrue i.is_piped ↔ IsIn (numbers ++ made) id
  keeps-way id i j there same =
      let way = held.with_pipe id j there in
      let under = held.below id j there in (
        λ yes. IsIn-front numbers made id (way.0 (sym same ∙ yes)),
        λ there. same ∙ way.1 (was made-cases there under),
      )
    where
      was : (made ≡ [])
          ⊎ ((made ≡ t.next_id ∷ []) × ((now new).next_id ≡ t.next_id + 1) × (e.reply ≡ reply.Instance t.next_id))
          → IsIn (numbers ++ made) id → id < t.next_id → IsIn numbers id
      was (inl none) there under = subst (λ (ns : List ℕ). IsIn ns id) (ap (λ (ms : List ℕ). numbers ++ ms) none ∙ append-nil numbers) there
      was (inr (one, more, says)) there under =
          elim (IsIn-snoc numbers t.next_id id (subst (λ (ms : List ℕ). IsIn (numbers ++ ms) id) one there)) as (λ _. IsIn numbers id) [
            | inl h ↦ h
            | inr next ↦ absurd (omega (arith, next, under))
          ]

  -- what was made has a pipe where the call says so
  made-way : (id : ℕ) (i : Instance) (p : Bool) → i.is_piped ≡ p → IsMade t e.call id i → IsTrue p ↔ IsIn (numbers ++ made) id
  made-way id i true way is =
      let one : made ≡ id ∷ [] =
      ap (λ c. piped_by c e.reply) (is.init ∙ ap (λ (b : Bool). call.Init is.limit b) way)
      ∙ ap (λ r. piped_by (call.Init is.limit true) r) (lawful ∙ is.says ∙ ap (λ (n : ℕ). reply.Instance n) (sym is.is_next)) in
      (λ yes. subst (λ (ms : List ℕ). IsIn (numbers ++ ms) id) (sym one) (IsIn-last numbers id), λ there. refl)
  made-way id i false way is =
      let none : made ≡ [] = ap (λ c. piped_by c e.reply) (is.init ∙ ap (λ (b : Bool). call.Init is.limit b) way) in (
        λ yes. absurd (cc),
        λ there.
            let old : IsIn numbers id = subst (λ (ns : List ℕ). IsIn ns id) (ap (λ (ms : List ℕ). numbers ++ ms) none ∙ append-nil numbers) there in
            let under = Rises-in numbers 1 t.next_id id held.rises old in
            let next = is.is_next in
            absurd (omega (arith, under, next)),
      )

  with_pipe : (id : ℕ) (i : Instance) → instance_of (now new).instances id ≡ Some i → IsTrue i.is_piped ↔ IsIn (numbers ++ made) id
  with_pipe id i h = by (open-later id i h)
    where
      by : WasOpen t id i ⊎ IsMade t e.call id i → IsTrue i.is_piped ↔ IsIn (numbers ++ made) id
      by (inl (j, there, same)) = keeps-way id i j there same
      by (inr is) = made-way id i i.is_piped refl is

  pub held-more : IsHeldWhole new (numbers ++ made) (deliver o numbers sent ++ map (λ (id : ℕ). []) made) (total + 1)
  held-more = record {
    counted = counted;
    piped = piped;
    pushed = pushed;
    rises = rises-by made-cases;
    below = below;
    unmade = unmade;
    events = events;
    with_pipe = with_pipe;
  }

-- ---- the locked value after a call

-- as many pipes as numbers
length-map : (f : ℕ → List Batch) (ns : List ℕ) → length (map f ns) ≡ length ns
length-map f [] = refl
length-map f (n ∷ ns) = ap suc (length-map f ns)

pub held-length : (s : Journaled) (ns : List ℕ) (xss : List (List Batch)) (total : ℕ) → IsHeldWhole s ns xss total → length ns ≡ length xss
held-length s ns xss total held =
    ap (λ (ms : List ℕ). length ms) held.piped ∙ sym (length-map (handed_since s) (piped_of s.entries))
    ∙ ap (λ (yss : List (List Batch)). length yss) (sym held.pushed)

pub deliver-none : (ns : List ℕ) (xss : List (List Batch)) → length ns ≡ length xss → deliver None ns xss ≡ xss
deliver-none [] [] len = refl
deliver-none [] (xs ∷ xss) len = absurd (omega arith)
deliver-none (n ∷ ns) [] len = absurd (omega arith)
deliver-none (n ∷ ns) (xs ∷ xss) len = rw (append-nil xs, deliver-none ns xss (omega arith)) refl

-- a call that makes no pipe
pub held-carries : (tells : Told) (s longer : Journaled) (e : Entry) (ns : List ℕ) (xss : List (List Batch))
    (total more : ℕ) (o : Option Batch)
    → IsHeldWhole s ns xss total → longer ≡ with_entry s e → e.reply ≡ reply_of (now s) e.call
    → piped_by e.call e.reply ≡ [] → more ≡ total + 1 → o ≡ handed_by (now s) (last_place s + 1) e.call
    → IfSome (handed_by (now s) (last_place s + 1) e.call) IsOfEvents → IsHeldWhole longer ns (deliver o ns xss) more
held-carries tells s longer e ns xss total more o held is lawful none one batch sound =
    let step = held-more tells s e ns xss total held lawful sound in
    let numbers : ns ++ piped_by e.call e.reply ≡ ns = ap (λ (ms : List ℕ). ns ++ ms) none ∙ append-nil ns in
    let pipes : deliver (handed_by (now s) (last_place s + 1) e.call) ns xss ++ map (λ (id : ℕ). []) (piped_by e.call e.reply) ≡ deliver o ns xss =
    ap (λ (ms : List ℕ). deliver (handed_by (now s) (last_place s + 1) e.call) ns xss ++ map (λ (id : ℕ). []) ms) none
    ∙ append-nil _ ∙ ap (λ b. deliver b ns xss) (sym batch) in
    subst (λ (j : Journaled). IsHeldWhole j ns (deliver o ns xss) more) (sym is)
    (subst (λ (n : ℕ). IsHeldWhole (with_entry s e) ns (deliver o ns xss) n) (sym one)
    (subst (λ (yss : List (List Batch)). IsHeldWhole (with_entry s e) ns yss (total + 1)) pipes
    (subst
    (λ (ms : List ℕ).
    IsHeldWhole (with_entry s e) ms
    (deliver (handed_by (now s) (last_place s + 1) e.call) ns xss
    ++ map (λ (id : ℕ). []) (piped_by e.call e.reply))
    (total + 1))
    numbers step)))

-- a call that makes an instance with a pipe
pub held-opens : (tells : Told) (s longer : Journaled) (caller limit : ℕ) (r : Reply) (ns : List ℕ)
    (xss : List (List Batch)) (total more : ℕ)
    → IsHeldWhole s ns xss total
    → longer ≡ with_entry s (record { caller = caller; call = call.Init limit true; reply = r })
    → r ≡ reply_of (now s) (call.Init limit true) → more ≡ total + 1
    → IsHeldWhole longer (ns ++ piped_by (call.Init limit true) r) (xss ++ map (λ (id : ℕ). []) (piped_by (call.Init limit true) r)) more
held-opens tells s longer caller limit r ns xss total more held is lawful one =
    let e : Entry = record { caller = caller; call = call.Init limit true; reply = r } in
    let step = held-more tells s e ns xss total held lawful tt in
    subst (λ (j : Journaled). IsHeldWhole j (ns ++ piped_by e.call e.reply) (xss ++ map (λ (id : ℕ). []) (piped_by e.call e.reply)) more) (sym is)
    (subst (λ (n : ℕ). IsHeldWhole (with_entry s e) (ns ++ piped_by e.call e.reply) (xss ++ map (λ (id : ℕ). []) (piped_by e.call e.reply)) n) (sym one)
    (subst
    (λ (yss : List (List Batch)).
    IsHeldWhole (with_entry s e) (ns ++ piped_by e.call e.reply)
    (yss ++ map (λ (id : ℕ). []) (piped_by e.call e.reply)) (total + 1))
    (deliver-none ns xss (held-length s ns xss total held)) step))

-- ---- the pipe of a call

some-open : (o : Option Instance) → (i : Instance) × (o ≡ Some i) → IsSome o
some-open o (i, e) = ap is_some e

module _ (tells : Told) (ns : List ℕ) (ps : List Piped) (t : Tree) (place : ℕ) (at : Option ℕ) where
  -- the pipe that was looked for is ready for what is pumped
  pumps-ready : (id bytes : ℕ) (rs : List Event) (r : Reply) → IsPipeFound ns ps t (Some id) at
      → reply_of t (call.Pump id bytes) ≡ r → IsReady ns ps at (option_map (batch id place) (where_records r rs))
  pumps-ready id bytes rs (reply.Records bs) looked e =
      let there = (tells t (call.Pump id bytes)).pumped id bytes bs refl e in
      looked (some-open (instance_of t.instances id) (there.0, there.1))
  pumps-ready id bytes rs (reply.File a) looked e = tt
  pumps-ready id bytes rs (reply.Instance n) looked e = tt
  pumps-ready id bytes rs (reply.Wd wd) looked e = tt
  pumps-ready id bytes rs reply.Done looked e = tt
  pumps-ready id bytes rs (reply.Refused why) looked e = tt

  pub pump-ready : (id bytes : ℕ) → IsPipeFound ns ps t (Some id) at → IsReady ns ps at (handed_by t place (call.Pump id bytes))
  pump-ready id bytes looked =
      subst (λ (o : Option Batch). IsReady ns ps at o) (sym (handed-pump t place id bytes))
      (pumps-ready id bytes (read_by t (call.Pump id bytes) id) (reply_of t (call.Pump id bytes)) looked refl)

  closes-ready : (id : ℕ) (r : Reply) → IsPipeFound ns ps t (Some id) at → reply_of t (call.Close id) ≡ r → IsReady ns ps at (where_done r (batch id place []))
  closes-ready id reply.Done looked e = let there = (tells t (call.Close id)).closed id refl e in looked (some-open (instance_of t.instances id) there)
  closes-ready id (reply.Records bs) looked e = tt
  closes-ready id (reply.File a) looked e = tt
  closes-ready id (reply.Instance n) looked e = tt
  closes-ready id (reply.Wd wd) looked e = tt
  closes-ready id (reply.Refused why) looked e = tt

  -- and for the end batch
  pub end-ready : (c : Call) → IsPipeFound ns ps t (closed_of c) at → IsReady ns ps at (end_of (closed_of c) place (reply_of t c))
  end-ready (call.File f) looked = tt
  end-ready (call.Init limit is_piped) looked = tt
  end-ready (call.AddWatch from p mask) looked = tt
  end-ready (call.RmWatch from wd) looked = tt
  end-ready (call.Read from bytes) looked = tt
  end-ready (call.Pump from bytes) looked = tt
  end-ready (call.Close from) looked = closes-ready from (reply_of t (call.Close from)) looked refl

-- where the pipe of an open instance is full, the instance has a pipe
has-pipe : (s : Journaled) (ns : List ℕ) (xss : List (List Batch)) (total id : ℕ) → IsHeldWhole s ns xss total
    → IsFilled ns (now s) (Some id) → HasPipe (instance_of (now s).instances id)
has-pipe s ns xss total id held (i, there, listed) = subst HasPipe (sym there) ((held.with_pipe id i there).1 listed)

pub pump-full : (s : Journaled) (ns : List ℕ) (xss : List (List Batch)) (total id bytes : ℕ)
    → IsHeldWhole s ns xss total → IsFilled ns (now s) (Some id) → IsForPipe (now s) (call.Pump id bytes)
pump-full s ns xss total id bytes held filled = has-pipe s ns xss total id held filled

pub close-full : (s : Journaled) (ns : List ℕ) (xss : List (List Batch)) (total : ℕ) (c : Call)
    → IsHeldWhole s ns xss total → IsFilled ns (now s) (closed_of c) → IsForPipe (now s) c
close-full s ns xss total (call.File f) held filled = absurd filled
close-full s ns xss total (call.Init limit is_piped) held filled = absurd filled
close-full s ns xss total (call.AddWatch from p mask) held filled = absurd filled
close-full s ns xss total (call.RmWatch from wd) held filled = absurd filled
close-full s ns xss total (call.Read from bytes) held filled = absurd filled
close-full s ns xss total (call.Pump from bytes) held filled = absurd filled
close-full s ns xss total (call.Close from) held filled = has-pipe s ns xss total from held filled

-- ---- a new tree

none-open : (id : ℕ) (i : Instance) → instance_of finmap.empty id ≡ Some i → {A : Type 0} → A
none-open id i h = absurd (open-none (sym (get-empty {X = Instance} nat_cmp id) ∙ h))
  where
    open-none : ◌≡◌ {A = Option Instance} None (Some i) → ⊥
    open-none e = cc

pub held-new : (limits : Limits) → IsHeldWhole (opened limits) [] [] 0
unfolding now opening handed_since
held-new limits = record {
  counted = refl;
  piped = refl;
  pushed = refl;
  rises = omega arith;
  below = λ id i h. none-open id i h;
  unmade = λ id past. refl;
  events = λ id. tt;
  with_pipe = λ id i h. none-open id i h;
}

-- ---- what the functions over its parts say

next-place : (s longer : Journaled) (e : Entry) (place : ℕ) → longer ≡ with_entry s e → place ≡ last_place longer → place ≡ last_place s + 1
next-place s longer e place is at =
    let more = length-append s.entries (e ∷ []) in
    let same : last_place longer ≡ last_place (with_entry s e) = ap (λ (j : Journaled). last_place j) is in
    omega (arith, at, same, more)

done-sound : (id place : ℕ) (r : Option Refusal) → IfSome (where_accepted r (batch id place [])) IsOfEvents
done-sound id place None = tt
done-sound id place (Some why) = tt

end-sound : (t : Tree) (place : ℕ) (c : Call) → IsTrue (is_plain c) → IfSome (handed_by t place c) IsOfEvents
end-sound t place (call.File f) plain = tt
end-sound t place (call.Init limit is_piped) plain = tt
end-sound t place (call.AddWatch from p mask) plain = tt
end-sound t place (call.RmWatch from wd) plain = tt
end-sound t place (call.Read from bytes) plain = tt
end-sound t place (call.Pump from bytes) plain = absurd (cc)
end-sound t place (call.Close from) plain = done-sound from place (refusal_of t (call.Close from))

pump-sound : (id place : ℕ) (x : Option (List Event)) → IfSome x AreEvents → IfSome (option_map (batch id place) x) IsOfEvents
pump-sound id place None is = tt
pump-sound id place (Some rs) is = is

pub held-call : (tells : Told) (s longer : Journaled) (seat left : Seated) (c : Call) (r : Receipt) (ns : List ℕ)
    (xss : List (List Batch)) (total more : ℕ) (closed : Option ℕ) (o : Option Batch)
    → IsHeldWhole s ns xss total → JoinsJournal s seat c longer left r
    → IsTrue (is_plain c) → more ≡ total + 1 → closed ≡ closed_of c → o ≡ end_of closed r.place r.reply → IsHeldWhole longer ns (deliver o ns xss) more
held-call tells s longer seat left c r ns xss total more closed o held enters plain one shut is =
    let e : Entry = record { caller = seat.number; call = c; reply = r.reply } in
    let batch : o ≡ handed_by (now s) (last_place s + 1) c =
    is ∙ ap (λ x. end_of x r.place r.reply) shut ∙ ap (λ x. end_of (closed_of c) r.place x) enters.reply ∙ end_of-handed (now s) c r.place plain
    ∙ ap (λ (p : ℕ). handed_by (now s) p c) (next-place s longer e r.place enters.entry enters.place) in
    held-carries tells s longer e ns xss total more o held enters.entry enters.reply (plain-makes-none c r.reply plain)
    one batch (end-sound (now s) (last_place s + 1) c plain)

pub held-pump : (tells : Told) (s longer : Journaled) (seat left : Seated) (id bytes : ℕ) (r : Receipt) (ns : List ℕ)
    (xss : List (List Batch)) (total more : ℕ) (rs : Option (List Event)) (o : Option Batch)
    → IsHeldWhole s ns xss total
    → JoinsJournal s seat (call.Pump id bytes) longer left r → more ≡ total + 1 → rs ≡ pumped (now s) id bytes
    → IfSome rs AreEvents → o ≡ option_map (batch id r.place) rs → IsHeldWhole longer ns (deliver o ns xss) more
held-pump tells s longer seat left id bytes r ns xss total more rs o held enters one given events is =
    let e : Entry = record { caller = seat.number; call = call.Pump id bytes; reply = r.reply } in
    let handed_over : o ≡ handed_by (now s) (last_place s + 1) (call.Pump id bytes) =
    is ∙ ap (λ x. option_map (batch id r.place) x) given
    ∙ ap (λ (p : ℕ). handed_by (now s) p (call.Pump id bytes)) (next-place s longer e r.place enters.entry enters.place)
    in
    held-carries tells s longer e ns xss total more o held enters.entry enters.reply refl one handed_over
    (pump-sound id (last_place s + 1) (pumped (now s) id bytes) (subst (λ x. IfSome x AreEvents) given events))

pub held-open : (tells : Told) (s longer : Journaled) (seat left : Seated) (limit : ℕ) (r : Receipt) (ns : List ℕ)
    (xss : List (List Batch)) (total more : ℕ)
    → IsHeldWhole s ns xss total → JoinsJournal s seat (call.Init limit true) longer left r
    → more ≡ total + 1
    → IsHeldWhole longer (ns ++ piped_by (call.Init limit true) r.reply)
    (xss ++ map (λ (id : ℕ). []) (piped_by (call.Init limit true) r.reply)) more
held-open tells s longer seat left limit r ns xss total more held enters one =
    held-opens tells s longer seat.number limit r.reply ns xss total more held enters.entry enters.reply one

-- ---- what waits determines what is open

not-waiting : (f : Instance → ℕ) (x : Option Instance) (o : Option ℕ) → o ≡ option_map f x → is_some o ≡ false → IsSome x → ⊥
not-waiting f None o e none some = cc
not-waiting f (Some i) o e none some = let both : ◌≡◌ {A = Bool} true false = sym (ap is_some e) ∙ none in absurd (cc)

is-waiting : (f : Instance → ℕ) (x : Option Instance) (o : Option ℕ) → o ≡ option_map f x → is_some o ≡ true → (i : Instance) × (x ≡ Some i)
is-waiting f None o e some = let both : ◌≡◌ {A = Bool} false true = sym (ap is_some e) ∙ some in absurd (cc)
is-waiting f (Some i) o e some = (i, refl)

pub waiting-none : (t : Tree) (id : ℕ) (o : Option ℕ) → o ≡ waiting_in t id → is_some o ≡ false → IsSome (instance_of t.instances id) → ⊥
unfolding waiting_in
waiting-none t id o e none some = not-waiting (λ i. length i.queue.waiting) (instance_of t.instances id) o e none some

pub waiting-some : (t : Tree) (id : ℕ) (o : Option ℕ) → o ≡ waiting_in t id → is_some o ≡ true → (i : Instance) × (instance_of t.instances id ≡ Some i)
unfolding waiting_in
waiting-some t id o e some = is-waiting (λ i. length i.queue.waiting) (instance_of t.instances id) o e some

pub in-at : (ns : List ℕ) (k id : ℕ) → slice_get ns k ≡ Some id → IsIn ns id
in-at [] k id e = absurd (cc)
in-at (n ∷ ns) zero id e = inl (ap (λ (o : Option ℕ). unwrap_or o 0) e)
in-at (n ∷ ns) (suc k) id e = inr (in-at ns k id e)
