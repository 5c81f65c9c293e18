-- What waits in the instances of a sound tree stays sound over a call.
use Rattle.std.proofs.Common.{◌≡◌, ◌⊎◌, inl, inr, ℕ, ◌+◌, ◌<◌, ◌≤◌, Bool, true, false, cond, eqb, if◌then◌else◌, List}
use Rattle.std.proofs.Common.{[], ◌∷◌, ◌++◌, Option, Some, None, refl, sym, ap, subst, ◌∙◌, arith}
use Rattle.std.specs.Prelude.{ℤ, All, IfSome, IsSome}
use Rattle.std.proofs.lemmas.Int.{ints}
use Rattle.std.proofs.lemmas.List.Elements.{All-nil, All-append, All-cons, All-head, All-tail, All-same, All-weaker}
use Rattle.record_codec.specs.declared.bits.TheConstants.{IN_MOVED_FROM, IN_MOVED_TO}
use Rattle.record_codec.specs.declared.event.Event.{Event}
use Rattle.tree_paths.specs.declared.refusal.Refusal.{Refusal}
use Rattle.inode_table.specs.World.{look}
use Rattle.watch_table.specs.Masks.{known}
use Rattle.watch_table.specs.declared.watch.Watch.{Watch}
use Rattle.watch_table.specs.Watching.{HasEnded, Watching, added, dropped, watched_by, removed, watch_of}
use Rattle.watch_table.proofs.Watched.{added_to, without}
use Rattle.event_queue.specs.declared.offered.Offered.{Offered}
use Rattle.event_queue.specs.declared.offered.Offered.TheVariants.{Kept, Merged, Marked, Lost}
use Rattle.event_queue.specs.Backlogs.{joining, overflow_mark}
use Rattle.event_rules.specs.declared.notice.Notice.{Notice}
use Rattle.event_rules.specs.Laws.{IsSubsequence, AreTied, HasWatch, IsPartOf, Mark, TellsNothing, is_move, marks_of, moves_in, moves_with}
use Rattle.event_rules.proofs.Moves.{IsTied}
use Rattle.event_rules.specs.declared.notice.TheConstants.{NO_COOKIE}
use Rattle.event_rules.specs.Raised.{event_bit, watches_after}
use Rattle.event_rules.specs.Table.{notices_of}
use Rattle.instance_table.specs.declared.instance.Instance.{Instance}
use Rattle.instance_table.specs.Instances.{instance_of, new_instance, unwatching, waiting_of, watching}
use Rattle.tree_core.specs.declared.call.Call.{Call}
use Rattle.tree_core.specs.declared.call.Call.TheVariants as call
use Rattle.tree_core.specs.Histories.{Raised, events, events_for, fate, joined, raised_by, raised_to, read_by, where_open}
use Rattle.tree_core.specs.Sound.{IsSoundTree}
use Rattle.tree_core.specs.Tree.{Tree, accepted, after, cookie_now, refusal_of}
use Rattle.tree_core.specs.TurnLaws.{AreInTurn, CookiesTieMoves, cookies_used}
use Rattle.tree_core.proofs.Parts.{after_reading, tree_by, IsGivenRecord, number_seen}
use Rattle.tree_core.proofs.Accounts.{RaisedLaws, events-watched}
use Rattle.tree_core.proofs.Cookies.{cookies-step, events-raised_to}
use Rattle.tree_core.proofs.Ends.{EndLaws, IsOver, IsOver-after, OverIn, over-given, quiet-one, said-one, silent-one}
use Rattle.tree_core.proofs.InOrder.{GoesOn, IsClosing, leads}
use Rattle.tree_core.proofs.Opened.{eqb-other, left_of, instance_of-accepted}
use Rattle.tree_core.proofs.Quiet.{Ends, IsGiven, Quiet, Quiet-append, Quiet-from, joined-Quiet, joined-silent, mark-goes-on}
use Rattle.tree_core.proofs.SoundTrees.{sound-ahead, sound-watches}

-- ---- lists

All-right : (P : Event → Type 0) (xs ys : List Event) → All P (xs ++ ys) → All P ys
All-right P [] ys h = h
All-right P (x ∷ xs) ys h = All-right P xs ys (All-tail P x (xs ++ ys) h)

Quiet-right : (xs ys : List Event) → Quiet (xs ++ ys) → Quiet ys
Quiet-right [] ys q = q
Quiet-right (x ∷ xs) ys q = Quiet-right xs ys q.1

joining-All : (P : Event → Type 0) → P overflow_mark → (o : Offered) (e : Event) → P e → All P (joining o e)
joining-All P mark Kept e h = All-cons P e [] h (All-nil P)
joining-All P mark Merged e h = All-nil P
joining-All P mark Marked e h = All-cons P overflow_mark [] mark (All-nil P)
joining-All P mark Lost e h = All-nil P

-- what holds of the mark and of all that was raised holds of all that joined
joined-All : (P : Event → Type 0) → P overflow_mark → (rs : List Raised) → All P (events rs) → All P (joined rs)
joined-All P mark [] h = All-nil P
joined-All P mark (r ∷ rs) h =
    All-append P (joining (fate r) r.event) (joined rs) (joining-All P mark (fate r) r.event (All-head P r.event (events rs) h))
    (joined-All P mark rs (All-tail P r.event (events rs) h))

-- ---- numbers that come next

last-in-turn : (n m : ℕ) (xs : List ℕ) → AreInTurn n (xs ++ m ∷ []) → n ≤ m
last-in-turn n m [] h = omega (arith, h.0)
last-in-turn n m (x ∷ xs) h = let rest = last-in-turn (n + 1) m xs h.1 in omega arith

-- each number is below the last one
all-below : (n m : ℕ) (xs : List ℕ) → AreInTurn n (xs ++ m ∷ []) → All (λ x. x < m) xs
all-below n m [] h = All-nil (λ x. x < m)
all-below n m (x ∷ xs) h = let rest = last-in-turn (n + 1) m xs h.1 in All-cons (λ y. y < m) x xs (omega (arith, h.0, rest)) (all-below (n + 1) m xs h.1)

-- ---- marks

-- what holds of each cookie holds of the marks of the moves
with-All : (P : ℕ → Type 0) (cookies : List ℕ) → All P cookies → All (λ (m : Mark). P m.1) (moves_with cookies)
with-All P [] h = All-nil (λ (m : Mark). P m.1)
with-All P (x ∷ xs) h =
    let here = All-head P x xs h in
    All-cons (λ (m : Mark). P m.1) (IN_MOVED_FROM, x) ((IN_MOVED_TO, x) ∷ moves_with xs) here
    (All-cons (λ (m : Mark). P m.1) (IN_MOVED_TO, x) (moves_with xs) here (with-All P xs (All-tail P x xs h)))

among-All : (P : Mark → Type 0) (xs ys : List Mark) → IsSubsequence xs ys → All P ys → All P xs
among-All P [] ys h all = All-nil P
among-All P (x ∷ xs) [] h all = absurd h
among-All P (x ∷ xs) (y ∷ ys) (inl here) all = All-cons P x xs (subst P (sym here.0) (All-head P y ys all)) (among-All P xs ys here.1 (All-tail P y ys all))
among-All P (x ∷ xs) (y ∷ ys) (inr later) all = among-All P (x ∷ xs) ys later (All-tail P y ys all)

-- what holds of no cookie, and of the cookie of each move, holds of the cookie of each event
marks-All : (P : ℕ → Type 0) → P NO_COOKIE → (ms : List Mark) → All (λ (m : Mark). P m.1) (moves_in ms) → All IsTied ms → All (λ (m : Mark). P m.1) ms
marks-All P none [] h ties = All-nil (λ (m : Mark). P m.1)
marks-All P none (m ∷ ms) h ties = by (is_move m) refl (λ k. marks-All P none ms k (All-tail IsTied m ms ties)) h
  where
    by : (b : Bool) → is_move m ≡ b → (All (λ (x : Mark). P x.1) (moves_in ms) → All (λ (x : Mark). P x.1) ms)
        → All (λ (x : Mark). P x.1) (if b then (event_bit m.0, m.1) ∷ moves_in ms else moves_in ms) → All (λ (x : Mark). P x.1) (m ∷ ms)
    by true e rest k =
        All-cons (λ (x : Mark). P x.1) m ms (All-head (λ (x : Mark). P x.1) (event_bit m.0, m.1) (moves_in ms) k)
        (rest (All-tail (λ (x : Mark). P x.1) (event_bit m.0, m.1) (moves_in ms) k))
    by false e rest k = All-cons (λ (x : Mark). P x.1) m ms (subst P (sym (All-head IsTied m ms ties e)) none) (rest k)

events-All : (P : ℕ → Type 0) (es : List Event) → All (λ (m : Mark). P m.1) (marks_of es) → All (λ (e : Event). P e.cookie) es
events-All P [] h = All-nil (λ (e : Event). P e.cookie)
events-All P (e ∷ es) h =
    All-cons (λ (x : Event). P x.cookie) e es (All-head (λ (m : Mark). P m.1) (e.mask, e.cookie) (marks_of es) h)
    (events-All P es (All-tail (λ (m : Mark). P m.1) (e.mask, e.cookie) (marks_of es) h))

module _ (t : Tree) (c : Call) where
  in-turn : AreInTurn t.next_cookie (cookies_used t c ++ (after t c).next_cookie ∷ [])
  in-turn = (cookies-step t c).all ((after t c).next_cookie ∷ []) (refl, tt)

  pub cookies-rise : t.next_cookie ≤ (after t c).next_cookie
  cookies-rise = last-in-turn t.next_cookie (after t c).next_cookie (cookies_used t c) in-turn

  -- a cookie that is 0, or below the next one after the call
  abbrev IsGivenCookie : ℕ → Type 0
  IsGivenCookie cookie = (cookie ≡ 0) ⊎ (cookie < (after t c).next_cookie)

  -- the cookies that a call uses are so, and those of all events that it raises
  used-given : All IsGivenCookie (cookies_used t c)
  used-given =
      All-weaker (λ x. x < (after t c).next_cookie) IsGivenCookie (λ x h. inr h) (cookies_used t c)
      (all-below t.next_cookie (after t c).next_cookie (cookies_used t c) in-turn)

  events-given : (es : List Event) → AreTied (moves_with (cookies_used t c)) (marks_of es) → All (λ e. IsGivenCookie e.cookie) es
  events-given es ties =
      events-All IsGivenCookie es
      (marks-All IsGivenCookie (inl refl) (marks_of es)
      (among-All (λ (m : Mark). IsGivenCookie m.1) (moves_in (marks_of es)) (moves_with (cookies_used t c)) ties.among
      (with-All IsGivenCookie (cookies_used t c) used-given))
      ties.others)

  -- a cookie that was given is so after the call
  still-given : (cookie : ℕ) → (cookie ≡ 0) ⊎ (cookie < t.next_cookie) → IsGivenCookie cookie
  still-given cookie (inl none) = inl none
  still-given cookie (inr below) = let more = cookies-rise in inr (omega arith)

-- the next descriptor does not fall
added-next : (w : Watching) (number mask : ℕ) → w.next_wd ≤ (added w number mask).next_wd
unfolding added
added-next w number mask = by (watch_of w number)
  where
    by : (o : Option Watch) → w.next_wd ≤ (added_to w number mask o).next_wd
    by None = omega arith
    by (Some watch) = omega arith

removed-next : (w : Watching) (wd : ℤ) → w.next_wd ≤ (removed w wd).next_wd
unfolding dropped
removed-next w wd = by (watched_by w wd)
  where
    by : (o : Option ℕ) → w.next_wd ≤ (without w o).next_wd
    by None = omega arith
    by (Some number) = omega arith

module _ (part : (w : Watching) (ns : List Notice) → IsPartOf (watches_after w ns) w) where
  abbrev IsLater : Instance → Instance → Type 0
  IsLater i j = i.watches.next_wd ≤ j.watches.next_wd

  later-if : (b : Bool) (i : Instance) (change : Instance → Instance) → IsLater i (change i) → IfSome (cond b (Some (change i)) (Some i)) (IsLater i)
  later-if true i change h = h
  later-if false i change h = omega arith

  later-left : (t : Tree) (c : Call) (id : ℕ) (i : Instance) → id < t.next_id → IfSome (left_of t c id (Some i)) (IsLater i)
  later-left t (call.File f) id i made = let same = (part i.watches (notices_of t.world f (cookie_now t.next_cookie))).next_wd in omega (arith, same)
  later-left t (call.Init limit is_piped) id i made =
      subst (λ b. IfSome (cond b (Some (new_instance t.limits limit is_piped)) (Some i)) (IsLater i))
      (sym (eqb-other id t.next_id (λ e. absurd (omega arith)))) (omega arith)
  later-left t (call.AddWatch from p mask) id i made =
      later-if (eqb id from) i (watching (number_seen (look t.world p)) (known mask)) (added-next i.watches (number_seen (look t.world p)) (known mask))
  later-left t (call.RmWatch from wd) id i made = later-if (eqb id from) i (unwatching wd) (removed-next i.watches wd)
  later-left t (call.Read from bytes) id i made = later-if (eqb id from) i (after_reading bytes) (omega arith)
  later-left t (call.Pump from bytes) id i made = later-if (eqb id from) i (after_reading bytes) (omega arith)
  later-left t (call.Close from) id i made = by (eqb id from)
    where
      by : (b : Bool) → IfSome (cond b None (Some i)) (IsLater i)
      by true = tt
      by false = omega arith

  later-by : (t : Tree) (c : Call) (id : ℕ) (i : Instance) (r : Option Refusal) → instance_of t.instances id ≡ Some i
      → id < t.next_id → IfSome (instance_of (tree_by r t (accepted t c)).instances id) (IsLater i)
  later-by t c id i (Some r) at made = subst (λ o. IfSome o (IsLater i)) (sym at) (omega arith)
  later-by t c id i None at made = subst (λ o. IfSome o (IsLater i)) (sym (instance_of-accepted t c id ∙ ap (left_of t c id) at)) (later-left t c id i made)

  later-after : (t : Tree) (c : Call) (id : ℕ) (i j : Instance) → instance_of t.instances id ≡ Some i → id < t.next_id
      → instance_of (after t c).instances id ≡ Some j → IsLater i j
  later-after t c id i j at made is_open = subst (λ o. IfSome o (IsLater i)) is_open (later-by t c id i (refusal_of t c) at made)

-- ---- what waits

-- what is asked of the records that wait in an instance
pub record Waits (t : Tree) (i : Instance) : Type 0 where
  pub given : All (IsGivenRecord t i) i.queue.waiting
  pub quiet : Quiet i.queue.waiting
  pub over : All (Ends (HasEnded i.watches)) i.queue.waiting

pub record WaitLaws : Type 0 where
  pub ends : EndLaws
  pub raised : RaisedLaws
  pub ties : CookiesTieMoves
  pub part : (w : Watching) (ns : List Notice) → IsPartOf (watches_after w ns) w

module _ (laws : WaitLaws) (t : Tree) (is : IsSoundTree t) (c : Call) (id : ℕ) where
  below : (o : Option Instance) → instance_of t.instances id ≡ o → IsSome o → id < t.next_id
  below o at there = is.counted.opened id (subst IsSome (sym at) there)

  -- what waited before the call
  old-over : (o : Option Instance) → instance_of t.instances id ≡ o → All (Ends (IsOver t id)) (waiting_of o)
  old-over None at = All-nil (Ends (IsOver t id))
  old-over (Some i) at =
      All-weaker (Ends (HasEnded i.watches)) (Ends (IsOver t id))
      (λ e h said. record { made = below (Some i) at refl; over = subst (OverIn e.wd) (sym at) (h said) }) i.queue.waiting (is.instances id i at).over

  old-quiet : (o : Option Instance) → instance_of t.instances id ≡ o → Quiet (waiting_of o)
  old-quiet None at = tt
  old-quiet (Some i) at = Quiet-from i.queue.waiting (is.instances id i at).quiet

  -- what was raised
  abbrev Raising : List Raised
  Raising = raised_by t c id

  raised-over : All (Ends (IsOver (after t c) id)) (joined Raising)
  raised-over =
      joined-All (Ends (IsOver (after t c) id)) (λ said. absurd (mark-goes-on said)) Raising
      (said-one laws.ends t c id (sound-watches t is) is.counted.opened)

  raised-quiet : Quiet (joined Raising)
  raised-quiet =
      joined-Quiet Raising (quiet-one laws.ends t c id (sound-watches t is))
      (All-weaker (Ends (IsOver (after t c) id)) (Ends IsGiven)
      (λ e h said. over-given e.wd (instance_of (after t c).instances id) (h said).over) (events Raising)
      (said-one laws.ends t c id (sound-watches t is) is.counted.opened))

  -- what waited, and what joined
  all-over : (o : Option Instance) → instance_of t.instances id ≡ o → All (Ends (IsOver (after t c) id)) (waiting_of o ++ joined Raising)
  all-over o at =
      All-append (Ends (IsOver (after t c) id)) (waiting_of o) (joined Raising)
      (All-weaker (Ends (IsOver t id)) (Ends (IsOver (after t c) id)) (λ e h said. IsOver-after laws.ends t c id e.wd (h said))
      (waiting_of o) (old-over o at))
      raised-over

  all-quiet : (o : Option Instance) → instance_of t.instances id ≡ o → Quiet (waiting_of o ++ joined Raising)
  all-quiet o at =
      Quiet-append (waiting_of o) (joined Raising) (old-quiet o at) raised-quiet
      (All-weaker (Ends (IsOver t id)) (Ends (λ wd. TellsNothing wd (joined Raising)))
      (λ e h said. joined-silent e.wd (over-given e.wd (instance_of t.instances id) (h said).over) Raising
      (silent-one laws.ends t c id e.wd (sound-watches t is) (h said)))
      (waiting_of o) (old-over o at))

  module _ (j : Instance) (is_open : instance_of (after t c).instances id ≡ Some j) where
    old-given : (o : Option Instance) → instance_of t.instances id ≡ o → All (IsGivenRecord (after t c) j) (waiting_of o)
    old-given None at = All-nil (IsGivenRecord (after t c) j)
    old-given (Some i) at =
        All-weaker (IsGivenRecord t i) (IsGivenRecord (after t c) j) (λ e h. goes e h) i.queue.waiting (is.instances id i at).given
      where
        goes : (e : Event) → IsGivenRecord t i e → IsGivenRecord (after t c) j e
        goes e (inl mark) = inl mark
        goes e (inr (low, high, cookie)) =
            let more = later-after laws.part t c id i j at (below (Some i) at refl) is_open in
            inr (low, (omega (arith, ints, more, high)), still-given t c e.cookie cookie)

    event-given : (i : Instance) → instance_of t.instances id ≡ Some i → (e : Event) → HasWatch i.watches e.wd
        → IsGivenCookie t c e.cookie → IsGivenRecord (after t c) j e
    event-given i at e has cookie =
        let given = (is.instances id i at).watches.given has.0 e.wd has.1 in
        let more = later-after laws.part t c id i j at (below (Some i) at refl) is_open in
        inr (given.0, (omega (arith, ints, more, given.1)), cookie)

    raised-given : (r : Option Refusal) (o : Option Instance) → refusal_of t c ≡ r → instance_of t.instances id ≡ o
        → All (λ e. IsGivenCookie t c e.cookie) (events (where_open r o (λ i. raised_to i.queue (events_for t c id i))))
        → All (IsGivenRecord (after t c) j) (events (where_open r o (λ i. raised_to i.queue (events_for t c id i))))
    raised-given (Some r) o e at ties = All-nil (IsGivenRecord (after t c) j)
    raised-given None None e at ties = All-nil (IsGivenRecord (after t c) j)
    raised-given None (Some i) e at ties =
        let es = events_for t c id i in
        let same = events-raised_to i.queue es in
        let P : Event → Type 0 = λ (x : Event). IsGivenCookie t c x.cookie in
        let tied : All P es = All-same P es (events (raised_to i.queue es)) (sym same) ties in
        let watched : All (λ x. HasWatch i.watches x.wd) es = events-watched laws.raised t id i at (is.instances id i at).watches c e in
        All-same (IsGivenRecord (after t c) j) (events (raised_to i.queue es)) es same (λ k d within. event-given i at _ (watched k d within) (tied k d within))

    all-given : (o : Option Instance) → instance_of t.instances id ≡ o → All (IsGivenRecord (after t c) j) (waiting_of o ++ joined Raising)
    unfolding raised_by
    all-given o at =
        All-append (IsGivenRecord (after t c) j) (waiting_of o) (joined Raising) (old-given o at)
        (joined-All (IsGivenRecord (after t c) j) (inl refl) Raising
        (raised-given (refusal_of t c) (instance_of t.instances id) refl refl (events-given t c (events (raised_by t c id)) (laws.ties t c id))))

    waits : GoesOn (instance_of t.instances id) Raising (read_by t c id) (instance_of (after t c).instances id) → Waits (after t c) j
    waits goes =
        let same : waiting_of (instance_of t.instances id) ++ joined Raising ≡ read_by t c id ++ j.queue.waiting =
        goes ∙ ap (λ o. read_by t c id ++ waiting_of o) is_open in
        let E : Event → Type 0 = Ends (IsOver (after t c) id) in
        let G : Event → Type 0 = IsGivenRecord (after t c) j in
        record {
          given = All-right G (read_by t c id) j.queue.waiting (subst (All G) same (all-given (instance_of t.instances id) refl));
          quiet = Quiet-right (read_by t c id) j.queue.waiting (subst Quiet same (all-quiet (instance_of t.instances id) refl));
          over =
              All-weaker E (Ends (HasEnded j.watches)) (λ e h said. subst (OverIn e.wd) is_open (h said).over) j.queue.waiting
              (All-right E (read_by t c id) j.queue.waiting (subst (All E) same (all-over (instance_of t.instances id) refl)));
        }

    pub waits-after : Waits (after t c) j
    waits-after = by (leads t (sound-ahead t is) id c)
      where
        by : GoesOn (instance_of t.instances id) Raising (read_by t c id) (instance_of (after t c).instances id)
            ⊎ IsClosing (instance_of t.instances id) Raising (read_by t c id) (instance_of (after t c).instances id)
            → Waits (after t c) j
        by (inl goes) = waits goes
        by (inr closing) = let gone : ◌≡◌ {A = Option Instance} None (Some j) = sym closing.is_gone ∙ is_open in absurd (cc)
