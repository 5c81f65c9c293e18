-- The calls on instances.
use Rattle.std.proofs.Common.{◌≡◌, ℕ, ◌+◌, ◌<◌, ◌≤◌, Bool, true, false, cond, ◌||◌, Bor, eqb, ltb, leb, List, [], ◌∷◌}
use Rattle.std.proofs.Common.{◌++◌, take, Option, Some, None, is_some, refl, sym, ap, ◌∙◌, subst, inl, inr, arith}
use Rattle.std.proofs.lemmas.Bool.{eqb-true}
use Rattle.std.proofs.lemmas.Bool.Decides.{nat_tests}
use Rattle.std.proofs.lemmas.Grind.{flat_map-append}
use Rattle.std.proofs.lemmas.List.{append-nil, take_more}
use Rattle.std.proofs.lemmas.Option.{get_or_from_slice_get, slice_get_within}
use Rattle.std.specs.Option.{option_map_or}
use Rattle.std.specs.Prelude.{◌⊎◌, IsSome, IfSome, option_copied, slice_get}
use Rattle.std.specs.FinMap as finmap
use Rattle.std.specs.FinMap.{get-empty, get-insert, get-remove}
use Rattle.std.specs.Cmp.{nat_cmp_total, unsigned_tied}
use Rattle.std.specs.Ordering.{nat_cmp}
use Rattle.record_codec.specs.declared.event.Event.{Event}
use Rattle.record_codec.specs.Records.{AreEvents, IsEvent, record_bytes, spelling}
use Rattle.tree_paths.specs.Rows.{row, first_row}
use Rattle.tree_paths.specs.declared.limits.Limits.{Limits}
use Rattle.tree_paths.specs.declared.refusal.Refusal.{Refusal}
use Rattle.tree_paths.specs.declared.refusal.Refusal.TheVariants.{Ebadf, Einval, Emfile}
use Rattle.inode_table.specs.declared.seen.Kind.TheVariants.{Directory}
use Rattle.inode_table.specs.declared.seen.Seen.{Seen}
use Rattle.inode_table.specs.TableWorld.{HasNumbersBelow}
use Rattle.inode_table.specs.World.{World, File, look, opening_world, root_number}
use Rattle.inode_table.specs.Refusals.{find, is_directory_kind}
use Rattle.watch_table.specs.Masks.{known, mask_fault}
use Rattle.watch_table.specs.Watching.{add_refusal, wd_added}
use Rattle.instance_table.specs.declared.instance.Instance.{Instance}
use Rattle.instance_table.specs.Instances.{Instances, instance_of, changed, watching}
use Rattle.tree_core.specs.declared.reply.Reply.TheVariants as reply
use Rattle.tree_core.specs.FileSystems.{IsNumbered}
use Rattle.tree_core.specs.Tree.{Tree, init_rows, add_watch_rows, read_rows}
use Rattle.tree_core.proofs.Parts.{seen_fault, watch_answer, number_seen}

-- ---- which instances are open after a change

pub get-put : (m : Instances) (id : ℕ) (i : Instance) (q : ℕ) → instance_of (finmap.insert m id i) q ≡ cond (eqb q id) (Some i) (instance_of m q)
get-put m id i q = get-insert nat_cmp_total m id i q ∙ ap (λ b. cond b (Some i) (instance_of m q)) (unsigned_tied q id)

pub get-cut : (m : Instances) (id q : ℕ) → instance_of (finmap.remove m id) q ≡ cond (eqb q id) None (instance_of m q)
get-cut m id q = get-remove nat_cmp_total m id q ∙ ap (λ b. cond b None (instance_of m q)) (unsigned_tied q id)

some-put : (b : Bool) (i : Instance) (o : Option Instance) → IsSome (cond b (Some i) o) → (b ≡ true) ⊎ IsSome o
some-put true i o h = inl refl
some-put false i o h = inr h

-- an instance that is open after one was put there is that one, or was open
pub opened-put : (m : Instances) (id : ℕ) (i : Instance) (q : ℕ) → IsSome (instance_of (finmap.insert m id i) q) → (q ≡ id) ⊎ IsSome (instance_of m q)
opened-put m id i q h =
    elim (some-put (eqb q id) i (instance_of m q) (subst IsSome (get-put m id i q) h)) as (λ _. (q ≡ id) ⊎ IsSome (instance_of m q)) [
      | inl e ↦ inl (eqb-true q id e)
      | inr there ↦ inr there
    ]

some-cut : (b : Bool) (o : Option Instance) → IsSome (cond b None o) → IsSome o
some-cut true o h = absurd (cc)
some-cut false o h = h

pub opened-cut : (m : Instances) (id q : ℕ) → IsSome (instance_of (finmap.remove m id) q) → IsSome (instance_of m q)
opened-cut m id q h = some-cut (eqb q id) (instance_of m q) (subst IsSome (get-cut m id q) h)

-- the instances after a change of one that may be there
abbrev pub changed_by : Instances → ℕ → (Instance → Instance) → Option Instance → Instances
changed_by m id change o = option_map_or (λ i. finmap.insert m id (change i)) o m

opened-changed_by : (m : Instances) (id : ℕ) (change : Instance → Instance) (o : Option Instance) (q : ℕ) → instance_of m id ≡ o
    → IsSome (instance_of (changed_by m id change o) q) → IsSome (instance_of m q)
opened-changed_by m id change None q e h = h
opened-changed_by m id change (Some i) q e h =
    elim (opened-put m id (change i) q h) as (λ _. IsSome (instance_of m q)) [
      | inl same ↦ ap (λ n. is_some (instance_of m n)) same ∙ ap is_some e
      | inr there ↦ there
    ]

-- a change of one opens none
pub opened-changed : (m : Instances) (id : ℕ) (change : Instance → Instance) (q : ℕ) → IsSome (instance_of (changed m id change) q) → IsSome (instance_of m q)
unfolding changed
opened-changed m id change q h = opened-changed_by m id change (instance_of m id) q refl h

-- two changes that do the same to an instance
pub changed-same : (m : Instances) (id : ℕ) (f g : Instance → Instance) (i : Instance) → instance_of m id ≡ Some i → f i ≡ g i → changed m id f ≡ changed m id g
unfolding changed
changed-same m id f g i is e = ap (changed_by m id f) is ∙ ap (finmap.insert m id) e ∙ sym (ap (changed_by m id g) is)

-- ---- what was lent

pub copied-none : (o : Option (Bor Instance)) (x : Option Instance) → option_copied o ≡ x → is_some o ≡ false → x ≡ None
copied-none None x e h = sym e
copied-none (Some b) x e h = absurd (cc)

pub copied-some : (o : Option (Bor Instance)) (x : Option Instance) → option_copied o ≡ x → is_some o ≡ true → (i : Instance) × (x ≡ Some i)
copied-some None x e h = absurd (cc)
copied-some (Some b) x e h = (b.now, sym e)

-- what a clause says of an instance that is there
pub at-instance : (P : Instance → Type 0) (o : Option Instance) (i : Instance) → o ≡ Some i → IfSome o P → P i
at-instance P o i e h = subst (λ x. IfSome x P) e h

-- a refusal, or out of memory
pub either-of : {A B C : Type 0} → (A → B) → A ⊎ C → B ⊎ C
either-of f (inl a) = inl (f a)
either-of f (inr c) = inr c

alone : (o : Option Refusal) → first_row (o ∷ []) ≡ o
alone None = refl
alone (Some r) = refl

-- ---- a tree with other instances

module _ (t : Tree) (is : IsNumbered t) where
  with-instances : (y : Instances) → ((q : ℕ) → IsSome (instance_of y q) → IsSome (instance_of t.instances q)) → IsNumbered (record t { instances = y })
  with-instances y opened = record {
    counted = record {
      numbers = is.counted.numbers;
      cookies = is.counted.cookies;
      ids = is.counted.ids;
      opened = λ q h. is.counted.opened q (opened q h);
    };
    given = is.given;
  }

  -- one changed
  pub IsNumbered-changed : (id : ℕ) (change : Instance → Instance) → IsNumbered (record t { instances = changed t.instances id change })
  IsNumbered-changed id change = with-instances (changed t.instances id change) (λ q h. opened-changed t.instances id change q h)

  -- one was closed
  pub IsNumbered-closed : (id : ℕ) → IsNumbered (record t { instances = finmap.remove t.instances id })
  IsNumbered-closed id = with-instances (finmap.remove t.instances id) (λ q h. opened-cut t.instances id q h)

  -- one was opened, under the number that comes next
  pub IsNumbered-opened : (i : Instance) → t.next_id ≤ t.limits.ids
      → IsNumbered (record t { next_id = t.next_id + 1; instances = finmap.insert t.instances t.next_id i })
  IsNumbered-opened i few = record {
    counted = record {
      numbers = is.counted.numbers;
      cookies = is.counted.cookies;
      ids = omega arith;
      opened = λ q h.
          elim (opened-put t.instances t.next_id i q h) as (λ _. q < t.next_id + 1) [
            | inl same ↦ omega arith
            | inr there ↦ let below : q < t.next_id = is.counted.opened q there in omega arith
          ];
    };
    given = is.given;
  }

-- ---- the rows of a call to watch, where the instance is there

module _ (w : World) (m : Instances) (id : ℕ) (i : Instance) (p : List (List ℕ)) (mask n : ℕ) (is : instance_of m id ≡ Some i) (e : n ≡ known mask) where
  add-rows-there : first_row (add_watch_rows (look w) p (known mask) (instance_of m id))
      ≡ first_row (mask_fault n ∷ find (look w) p ∷ seen_fault i n (look w p) ∷ [])
  unfolding add_watch_rows
  add-rows-there =
      ap (λ o. first_row (add_watch_rows (look w) p (known mask) o)) is
      ∙ ap (λ k. first_row (mask_fault k ∷ find (look w) p ∷ seen_fault i k (look w p) ∷ [])) (sym e)

  pub add-mask-there : (r : Refusal) → Some r ≡ mask_fault n → first_row (add_watch_rows (look w) p (known mask) (instance_of m id)) ≡ Some r
  add-mask-there r h = add-rows-there ∙ ap (λ o. first_row (o ∷ find (look w) p ∷ seen_fault i n (look w p) ∷ [])) (sym h)

  pub add-path-there : (r : Refusal) → None ≡ mask_fault n → find (look w) p ≡ Some r
      → first_row (add_watch_rows (look w) p (known mask) (instance_of m id)) ≡ Some r
  add-path-there r h missing =
      add-rows-there ∙ ap (λ o. first_row (o ∷ find (look w) p ∷ seen_fault i n (look w p) ∷ [])) (sym h)
      ∙ ap (λ o. first_row (o ∷ seen_fault i n (look w p) ∷ [])) missing

  pub add-seen-there : (seen : Seen) (r : Option Refusal) → None ≡ mask_fault n → find (look w) p ≡ None → look w p ≡ Some seen
      → add_refusal i.watches seen.number n (is_directory_kind seen.kind) ≡ r → first_row (add_watch_rows (look w) p (known mask) (instance_of m id)) ≡ r
  add-seen-there seen r h found at refusal =
      add-rows-there ∙ ap (λ o. first_row (o ∷ find (look w) p ∷ seen_fault i n (look w p) ∷ [])) (sym h)
      ∙ ap (λ o. first_row (o ∷ seen_fault i n (look w p) ∷ [])) found
      ∙ alone (seen_fault i n (look w p)) ∙ ap (seen_fault i n) at ∙ refusal

  -- the watch that was made
  pub answer-there : (seen : Seen) → look w p ≡ Some seen → reply.Wd (wd_added i.watches seen.number) ≡ watch_answer (number_seen (look w p)) (instance_of m id)
  answer-there seen at =
      sym (ap (λ o. watch_answer (number_seen (look w p)) o) is
      ∙ ap (λ o. reply.Wd (wd_added i.watches (number_seen o))) at)

  pub watching-there : (seen : Seen) (x : Instances) → look w p ≡ Some seen → x ≡ changed m id (watching seen.number n)
      → x ≡ changed m id (watching (number_seen (look w p)) (known mask))
  watching-there seen x at now =
      now ∙ ap (λ o. changed m id (watching (number_seen o) n)) (sym at) ∙ ap (λ k. changed m id (watching (number_seen (look w p)) k)) e

pub add-bad-there : (w : World) (m : Instances) (id : ℕ) (p : List (List ℕ)) (mask : ℕ) → instance_of m id ≡ None
    → first_row (add_watch_rows (look w) p (known mask) (instance_of m id)) ≡ Some Ebadf
unfolding add_watch_rows
add-bad-there w m id p mask is = ap (λ o. first_row (add_watch_rows (look w) p (known mask) o)) is

-- ---- what acceptance gives

rows-pass : (a b c : Bool) (x y z : Refusal) → None ≡ first_row (row a x ∷ row b y ∷ row c z ∷ []) → (a ≡ false) × (b ≡ false) × (c ≡ false)
rows-pass true b c x y z h = absurd (cc)
rows-pass false true c x y z h = absurd (cc)
rows-pass false false true x y z h = absurd (cc)
rows-pass false false false x y z h = (refl, refl, refl)

either-false : (a b : Bool) → (a || b) ≡ false → (a ≡ false) × (b ≡ false)
either-false true b h = absurd (cc)
either-false false b h = (refl, h)

pub init-passes : (limits : Limits) (instances : Instances) (next_id limit : ℕ)
    → None ≡ first_row (init_rows limits instances next_id limit) → (1 ≤ limit) × (limit ≤ limits.queue) × (next_id ≤ limits.ids)
unfolding init_rows
init-passes limits instances next_id limit h =
    let passes = rows-pass ((eqb limit 0) || ltb limits.queue limit) (leb limits.instances (finmap.len instances))
    (ltb limits.ids next_id) Einval Emfile Emfile h in
    let first = either-false (eqb limit 0) (ltb limits.queue limit) passes.0 in
    (grind (arith, nat_tests, first.0), grind (arith, nat_tests, first.1), grind (arith, nat_tests, passes.2))

-- what is read is read of an open instance
pub read-open : (pumps : Bool) (bytes : ℕ) (o : Option Instance) → None ≡ first_row (read_rows pumps bytes o) → IsSome o
unfolding read_rows
read-open pumps bytes None h = absurd (cc)
read-open pumps bytes (Some i) h = refl

-- ---- the bytes of records

-- one record more
pub spelling_more : (es : List Event) (i : ℕ) (e : Event) → slice_get es i ≡ Some e → spelling (take (i + 1) es) ≡ spelling (take i es) ++ record_bytes e
spelling_more es i e h =
    ap spelling (take_more es i e (slice_get_within es i e h) ∙ ap (λ x. take i es ++ x ∷ []) (get_or_from_slice_get es i e e h))
    ∙ flat_map-append record_bytes (take i es) (e ∷ [])
    ∙ ap (λ x. spelling (take i es) ++ x) (append-nil (record_bytes e))

AreEvents-append : (es : List Event) (e : Event) → AreEvents es → IsEvent e → AreEvents (es ++ e ∷ [])
AreEvents-append [] e are is = (is, tt)
AreEvents-append (x ∷ es) e are is = (are.0, AreEvents-append es e are.1 is)

pub events_more : (es : List Event) (i : ℕ) (e : Event) → slice_get es i ≡ Some e → AreEvents (take i es) → IsEvent e → AreEvents (take (i + 1) es)
events_more es i e h are is =
    subst AreEvents (sym (take_more es i e (slice_get_within es i e h) ∙ ap (λ x. take i es ++ x ∷ []) (get_or_from_slice_get es i e e h)))
    (AreEvents-append (take i es) e are is)

-- ---- the root alone

is-root : (b : Bool) (n : ℕ) (f : File) (o : Option File) → eqb n root_number ≡ b → o ≡ None → IsSome (cond b (Some f) o) → n < root_number + 1
is-root true n f o same none h = let e : n ≡ root_number = eqb-true n root_number same in omega arith
is-root false n f o same none h = absurd (cc)

pub below-opening : HasNumbersBelow opening_world (root_number + 1)
unfolding opening_world
below-opening n there =
    let f : File = record { kind = Directory; mode = 493; bytes = [] } in
    let none : finmap.FinMap nat_cmp File = finmap.empty in
    is-root (eqb n root_number) n f (finmap.get none n) refl (get-empty nat_cmp n)
    (subst IsSome (get-insert nat_cmp_total none root_number f n ∙ ap (λ b. cond b (Some f) (finmap.get none n)) (unsigned_tied n root_number)) there)

pub none-opened : (id : ℕ) → IsSome (instance_of finmap.empty id) → ⊥
none-opened id h =
    let e : ◌≡◌ {A = Bool} false true = sym (ap is_some (get-empty {X = Instance} nat_cmp id)) ∙ h in
    absurd (cc)
