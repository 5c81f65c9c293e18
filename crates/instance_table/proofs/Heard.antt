-- How instances receive what was staged for them, one after the other.
use Rattle.std.proofs.Common.{◌≡◌, ℕ, is_some, get_or, true, false, cond, eqb, Option, Some, None, List, [], ◌∷◌, ◌++◌, map, append_assoc, refl, sym, ap, ◌∙◌}
use Rattle.std.specs.Prelude.{Bool, All, fold, option_map}
use Rattle.std.specs.FinMap as finmap
use Rattle.std.specs.FinMap.{find, get-from_entries, get-entries, same_map, nat_cmp-IsAntisymmetric}
use Rattle.std.specs.List.{filter}
use Rattle.std.specs.Ordering.{nat_cmp, eq_by_cmp}
use Rattle.std.specs.Cmp.{nat_cmp_total}
use Rattle.std.proofs.lemmas.List.{map-append}
use Rattle.record_codec.specs.declared.event.Event.{Event}
use Rattle.event_queue.specs.Backlogs.{after_offer}
use Rattle.event_rules.specs.Staging.{staged_event}
use Rattle.event_rules.specs.declared.notice.Notice.{Notice}
use Rattle.event_rules.specs.declared.staged.StagedEnd.{StagedEnd}
use Rattle.event_rules.specs.declared.staged.StagedEvent.{StagedEvent}
use Rattle.watch_table.specs.declared.watch.Watch.{Watch}
use Rattle.watch_table.specs.Watching.{Watching, removed, watch_of}
use Rattle.event_rules.specs.Raised.{events_of, heard, told_number, watches_after}
use Rattle.instance_table.specs.declared.instance.Instance.{Instance}
use Rattle.instance_table.specs.declared.staging.Staging.{Staging}
use Rattle.instance_table.specs.Instances.{Instances, NobodyWatches, instance_of, PassesWatched, changed, all_changed, told, watches_file}
use Rattle.instance_table.specs.Heard.{ended_all, ends, delivered_all, with_event}
use Rattle.instance_table.specs.Staging.{IsStaged, wds_to}
use Rattle.instance_table.proofs.Indexed.{changed-there, changed-none, changed-not, changed-twice, get-put, is-same}

-- ---- what an instance is after a change

pub get-changed : (m : Instances) (id : ℕ) (change : Instance → Instance) (q : ℕ)
    → instance_of (changed m id change) q ≡ cond (eqb q id) (option_map change (instance_of m q)) (instance_of m q)
get-changed m id change q =
    elim (instance_of m id) as (λ o. instance_of m id ≡ o
    → instance_of (changed m id change) q ≡ cond (eqb q id) (option_map change (instance_of m q)) (instance_of m q)) [
      | None ↦ λ e. ap (λ x. instance_of x q) (changed-none m id change e)
          ∙ elim (eqb q id) as (λ t. eqb q id ≡ t → instance_of m q ≡ cond t (option_map change (instance_of m q)) (instance_of m q)) [
            | true ↦ λ t. let none : instance_of m q ≡ None = ap (instance_of m) (is-same q id t) ∙ e in none ∙ ap (option_map change) (sym none)
            | false ↦ λ t. refl
          ] refl
      | Some i ↦ λ e. ap (λ x. instance_of x q) (changed-there m id change i e) ∙ get-put m id (change i) q
          ∙ elim (eqb q id) as (λ t. eqb q id ≡ t
          → cond t (Some (change i)) (instance_of m q) ≡ cond t (option_map change (instance_of m q)) (instance_of m q)) [
            | true ↦ λ t. ap (option_map change) (sym (ap (instance_of m) (is-same q id t) ∙ e))
            | false ↦ λ t. refl
          ] refl
    ] refl

find-mapped : (change : Instance → Instance) (es : List (ℕ × Instance)) (q : ℕ)
    → find nat_cmp q (map (λ (e : ℕ × Instance). (e.0, change e.1)) es) ≡ option_map change (find nat_cmp q es)
find-mapped change [] q = refl
find-mapped change (e ∷ es) q =
    elim (eq_by_cmp nat_cmp q e.0) as (λ t. cond t (Some (change e.1)) (find nat_cmp q (map (λ (e : ℕ × Instance). (e.0, change e.1)) es))
    ≡ option_map change (cond t (Some e.1) (find nat_cmp q es))) [
      | true ↦ refl
      | false ↦ find-mapped change es q
    ]

pub get-all_changed : (m : Instances) (change : Instance → Instance) (q : ℕ) → instance_of (all_changed m change) q ≡ option_map change (instance_of m q)
unfolding all_changed
get-all_changed m change q =
    get-from_entries nat_cmp_total (map (λ (e : ℕ × Instance). (e.0, change e.1)) (finmap.entries m)) q
    ∙ find-mapped change (finmap.entries m) q ∙ ap (option_map change) (sym (get-entries m q))

-- ---- changes of one instance after the other

module _ {X : Type 0} (id_of : X → ℕ) (act : X → Instance → Instance) where
  get-steps : (xs : List X) (m : Instances) (q : ℕ)
      → instance_of (fold (λ m x. changed m (id_of x) (act x)) m xs) q
      ≡ option_map (λ i. fold (λ i x. act x i) i (filter (λ x. eqb q (id_of x)) xs)) (instance_of m q)
  get-steps [] m q = same (instance_of m q)
    where
      same : (o : Option Instance) → o ≡ option_map (λ i. i) o
      same None = refl
      same (Some i) = refl
  get-steps (x ∷ xs) m q =
      let rest : List X = filter (λ x. eqb q (id_of x)) xs in
      get-steps xs (changed m (id_of x) (act x)) q
      ∙ ap (option_map (λ i. fold (λ i x. act x i) i rest)) (get-changed m (id_of x) (act x) q)
      ∙ elim (eqb q (id_of x)) as (λ t. option_map (λ i. fold (λ i x. act x i) i rest) (cond t (option_map (act x) (instance_of m q)) (instance_of m q))
      ≡ option_map (λ i. fold (λ i x. act x i) i (cond t (x ∷ rest) rest)) (instance_of m q)) [
        | true ↦ twice (instance_of m q)
        | false ↦ refl
      ]
    where
      twice : (o : Option Instance)
          → option_map (λ i. fold (λ i x. act x i) i (filter (λ x. eqb q (id_of x)) xs)) (option_map (act x) o)
          ≡ option_map (λ i. fold (λ i x. act x i) i (x ∷ filter (λ x. eqb q (id_of x)) xs)) o
      twice None = refl
      twice (Some i) = refl

fold-with_event : (hs : List StagedEvent) (i : Instance)
    → fold (λ i h. with_event h i) i hs ≡ record i { queue = fold after_offer i.queue (map (λ (h : StagedEvent). h.event) hs) }
fold-with_event [] i = refl
fold-with_event (h ∷ hs) i = fold-with_event hs (with_event h i)

fold-ends : (ds : List StagedEnd) (i : Instance)
    → fold (λ i d. ends d i) i ds ≡ record i { watches = fold removed i.watches (map (λ (d : StagedEnd). d.wd) ds) }
fold-ends [] i = refl
fold-ends (d ∷ ds) i = fold-ends ds (ends d i)

pub delivered-told : (s : Staging) (m : Instances) (ns : List Notice) → IsStaged m ns s
    → ended_all (delivered_all m s.staged.events.items) s.staged.drops.items ≡ all_changed m (told ns)
delivered-told s m ns staged =
    same_map nat_cmp_total nat_cmp-IsAntisymmetric (ended_all (delivered_all m hs) ds) (all_changed m (told ns)) (λ q.
    get-steps (λ (d : StagedEnd). d.id) ends ds (delivered_all m hs) q
    ∙ ap (option_map (λ i. fold (λ i d. ends d i) i (filter (λ (d : StagedEnd). eqb q d.id) ds))) (get-steps (λ (h : StagedEvent). h.id) with_event hs m q)
    ∙ both q (instance_of m q) refl ∙ sym (get-all_changed m (told ns) q))
  where
    hs : List StagedEvent
    hs = s.staged.events.items

    ds : List StagedEnd
    ds = s.staged.drops.items

    both : (q : ℕ) (o : Option Instance) → instance_of m q ≡ o
        → option_map (λ i. fold (λ i d. ends d i) i (filter (λ (d : StagedEnd). eqb q d.id) ds))
        (option_map (λ i. fold (λ i h. with_event h i) i (filter (λ (h : StagedEvent). eqb q h.id) hs)) o)
        ≡ option_map (told ns) o
    both q None e = refl
    both q (Some i) e =
        let mine : List StagedEvent = filter (λ (h : StagedEvent). eqb q h.id) hs in
        let gone : List StagedEnd = filter (λ (d : StagedEnd). eqb q d.id) ds in
        ap Some (fold-ends gone (fold (λ i h. with_event h i) i mine)
        ∙ ap (λ (j : Instance). record j { watches = fold removed j.watches (wds_to q ds) }) (fold-with_event mine i)
        ∙ (λ k. record i { watches = staged.drops q i e k; queue = fold after_offer i.queue (staged.events q i e k) }))

-- ---- where no file is watched

module _ (quiet : (w : Watching) (ns : List Notice) → All (λ n. watch_of w (told_number n) ≡ None) ns → events_of w ns ≡ [])
    (kept : (w : Watching) (ns : List Notice) → All (λ n. watch_of w (told_number n) ≡ None) ns → watches_after w ns ≡ w) where
  pub unwatched-stay : (m : Instances) (ns : List Notice) → NobodyWatches m → all_changed m (told ns) ≡ m
  unwatched-stay m ns nobody =
      same_map nat_cmp_total nat_cmp-IsAntisymmetric (all_changed m (told ns)) m (λ q. get-all_changed m (told ns) q ∙ by q (instance_of m q) refl)
    where
      none-of : (o : Option Watch) → is_some o ≡ false → o ≡ None
      none-of None h = refl
      none-of (Some x) h = absurd (Rattle.std.proofs.lemmas.Bool.false≢true (sym h))

      by : (q : ℕ) (o : Option Instance) → instance_of m q ≡ o → option_map (told ns) o ≡ o
      by q None e = refl
      by q (Some i) e =
          let all : All (λ n. watch_of i.watches (told_number n) ≡ None) ns =
          (λ k d p. none-of (watch_of i.watches (told_number (get_or ns k d)))
          (ap (watches_file (told_number (get_or ns k d))) (sym e) ∙ nobody (told_number (get_or ns k d)) q)) in
          ap Some (λ k. record i { watches = kept i.watches ns all k; queue = fold after_offer i.queue (quiet i.watches ns all k) })

-- ---- notices of the files that are watched alone

pub untold : (m : Instances) → all_changed m (told []) ≡ m
untold m = same_map nat_cmp_total nat_cmp-IsAntisymmetric (all_changed m (told [])) m (λ q. get-all_changed m (told []) q ∙ by (instance_of m q))
  where
    by : (o : Option Instance) → option_map (told []) o ≡ o
    by None = refl
    by (Some i) = refl

module _ (same : (w : Watching) (watches : ℕ → Bool) (ns : List Notice) → ((number : ℕ) → watches number ≡ false → watch_of w number ≡ None)
    → events_of w (heard watches ns) ≡ events_of w ns)
    (left : (w : Watching) (watches : ℕ → Bool) (ns : List Notice) → ((number : ℕ) → watches number ≡ false → watch_of w number ≡ None)
    → watches_after w (heard watches ns) ≡ watches_after w ns) where
  pub heard-enough : (m : Instances) (may_watch : ℕ → Bool) (ns : List Notice) → PassesWatched may_watch m
      → all_changed m (told (heard may_watch ns)) ≡ all_changed m (told ns)
  heard-enough m may_watch ns passes =
      same_map nat_cmp_total nat_cmp-IsAntisymmetric (all_changed m (told (heard may_watch ns))) (all_changed m (told ns)) (λ q.
      get-all_changed m (told (heard may_watch ns)) q ∙ by q (instance_of m q) refl ∙ sym (get-all_changed m (told ns) q))
    where
      none-of : (o : Option Watch) → is_some o ≡ false → o ≡ None
      none-of None h = refl
      none-of (Some x) h = absurd (Rattle.std.proofs.lemmas.Bool.false≢true (sym h))

      by : (q : ℕ) (o : Option Instance) → instance_of m q ≡ o → option_map (told (heard may_watch ns)) o ≡ option_map (told ns) o
      by q None e = refl
      by q (Some i) e =
          let unwatched : (number : ℕ) → may_watch number ≡ false → watch_of i.watches number ≡ None =
          (λ number none. none-of (watch_of i.watches number) (ap (watches_file number) (sym e) ∙ passes number q none)) in
          ap Some (λ k. record i {
            watches = left i.watches may_watch ns unwatched k;
            queue = fold after_offer i.queue (same i.watches may_watch ns unwatched k);
          })

-- ---- a run of events that one instance receives

fold-more : (b : Rattle.event_queue.specs.Backlogs.Backlog) (es : List Event) (e : Event)
    → after_offer (fold after_offer b es) e ≡ fold after_offer b (es ++ e ∷ [])
fold-more b [] e = refl
fold-more b (x ∷ es) e = fold-more (after_offer b x) es e

delivered-append : (xs ys : List StagedEvent) (m : Instances) → delivered_all m (xs ++ ys) ≡ delivered_all (delivered_all m xs) ys
delivered-append [] ys m = refl
delivered-append (x ∷ xs) ys m = delivered-append xs ys (changed m x.id (with_event x))

pub with_events : List Event → Instance → Instance
with_events es i = record i { queue = fold after_offer i.queue es }

delivered-run : (id : ℕ) (es : List Event) (m : Instances) → delivered_all m (map (staged_event id) es) ≡ changed m id (with_events es)
unfolding with_events
delivered-run id [] m = sym (changed-not m id)
delivered-run id (e ∷ es) m =
    delivered-run id es (changed m id (with_event (staged_event id e)))
    ∙ changed-twice m id (with_event (staged_event id e)) (with_events es) (with_events (e ∷ es)) (λ i. refl)

-- the instances after a run, and then the others
pub run-delivered : (m n : Instances) (id : ℕ) (es : List Event) (all rest : List StagedEvent) → all ≡ map (staged_event id) es ++ rest
    → n ≡ changed m id (λ i. record i { queue = fold after_offer i.queue es }) → delivered_all n rest ≡ delivered_all m all
unfolding with_events
run-delivered m n id es all rest is so =
    ap (λ x. delivered_all x rest) (so ∙ sym (delivered-run id es m)) ∙ sym (delivered-append (map (staged_event id) es) rest m) ∙ ap (delivered_all m) (sym is)

-- one event more of a run
pub run-more : (id : ℕ) (es : List Event) (h : StagedEvent) (all rest more : List StagedEvent) → eqb h.id id ≡ true
    → all ≡ map (staged_event id) es ++ rest → rest ≡ h ∷ more → all ≡ map (staged_event id) (es ++ h.event ∷ []) ++ more
run-more id es h all rest more same is next =
    is ∙ ap (λ hs. map (staged_event id) es ++ hs) (next ∙ ap (λ (n : ℕ). record h { id = n } ∷ more) (is-same h.id id same))
    ∙ sym (append_assoc (map (staged_event id) es) (staged_event id h.event ∷ []) more)
    ∙ ap (λ hs. hs ++ more) (sym (map-append (staged_event id) es (h.event ∷ [])))

pub queue-more : (b now new : Rattle.event_queue.specs.Backlogs.Backlog) (es : List Event) (e : Event)
    → now ≡ fold after_offer b es → new ≡ after_offer now e → new ≡ fold after_offer b (es ++ e ∷ [])
queue-more b now new es e so is = is ∙ ap (λ q. after_offer q e) so ∙ fold-more b es e
