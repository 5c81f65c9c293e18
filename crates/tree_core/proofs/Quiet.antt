-- Events of which nothing of a watch follows its end, and what of them joins a queue.
use Rattle.std.proofs.Common.{◌≡◌, ◌≢◌, Bool, true, false, cond, IsTrue, List, [], ◌∷◌, ◌++◌, refl, sym, ap, subst, arith}
use Rattle.std.specs.Prelude.{ℤ, pos, negsuc, ◌≤ℤ◌, All, filter}
use Rattle.std.proofs.lemmas.Int.{ints}
use Rattle.std.proofs.lemmas.List.Elements.{All-nil, All-append, All-cons, All-head, All-tail}
use Rattle.record_codec.specs.declared.event.Event.{Event}
use Rattle.event_queue.specs.declared.offered.Offered.{Offered}
use Rattle.event_queue.specs.declared.offered.Offered.TheVariants.{Kept, Merged, Marked, Lost}
use Rattle.event_queue.specs.Backlogs.{joining, overflow_mark}
use Rattle.event_rules.specs.Laws.{TellsNothing, says_ended}
use Rattle.tree_core.specs.Histories.{Raised, events, fate, joined}
use Rattle.tree_core.specs.Sound.{NothingFollowsIgnored}
use Rattle.tree_core.specs.TurnLaws.{EndsOnce}

-- ---- one list

-- behind each event that says that a watch has ended there is nothing of the watch
abbrev pub Quiet : List Event → Type 0
Quiet [] = Unit {0}
Quiet (e ∷ es) = (IsTrue (says_ended e) → TellsNothing e.wd es) × Quiet es

behind-at : (before after : List Event) (e : Event) → Quiet (before ++ e ∷ after) → IsTrue (says_ended e) → TellsNothing e.wd after
behind-at [] after e q said = q.0 said
behind-at (x ∷ before) after e q said = behind-at before after e q.1 said

pub nothing-behind : (es : List Event) → Quiet es → NothingFollowsIgnored es
nothing-behind es q before after e is said = behind-at before after e (subst Quiet is q) said

pub Quiet-from : (es : List Event) → NothingFollowsIgnored es → Quiet es
Quiet-from [] h = tt
Quiet-from (e ∷ es) h = (h [] es e refl, Quiet-from es (λ before after x is. h (e ∷ before) after x (ap (λ (xs : List Event). e ∷ xs) is)))

-- an end that is said, and what holds of each end
abbrev pub Ends : (ℤ → Type 0) → Event → Type 0
Ends P e = IsTrue (says_ended e) → P e.wd

pub Quiet-append : (xs ys : List Event) → Quiet xs → Quiet ys → All (Ends (λ wd. TellsNothing wd ys)) xs → Quiet (xs ++ ys)
Quiet-append [] ys q r over = r
Quiet-append (x ∷ xs) ys q r over = (
  (λ said. All-append (λ (e : Event). e.wd ≢ x.wd) xs ys (q.0 said) (All-head (Ends (λ wd. TellsNothing wd ys)) x xs over said)),
  Quiet-append xs ys q.1 r (All-tail (Ends (λ wd. TellsNothing wd ys)) x xs over),
)

-- what holds of each that passes a test
pub All-unfiltered : (test : Event → Bool) (P : Event → Type 0) (es : List Event) → All P (filter test es) → All (λ e. IsTrue (test e) → P e) es
All-unfiltered test P [] h = All-nil (λ (e : Event). IsTrue (test e) → P e)
All-unfiltered test P (e ∷ es) h = by (test e) refl (All-unfiltered test P es) h
  where
    by : (b : Bool) → test e ≡ b → (All P (filter test es) → All (λ (x : Event). IsTrue (test x) → P x) es)
        → All P (cond b (e ∷ filter test es) (filter test es))
        → All (λ (x : Event). IsTrue (test x) → P x) (e ∷ es)
    by true is more k =
        All-cons (λ (x : Event). IsTrue (test x) → P x) e es (λ passes. All-head P e (filter test es) k) (more (All-tail P e (filter test es) k))
    by false is more k = All-cons (λ (x : Event). IsTrue (test x) → P x) e es (λ passes. absurd (cc)) (more k)

-- ---- what joins a queue

-- a descriptor that was given
abbrev pub IsGiven : ℤ → Type 0
IsGiven wd = pos 1 ≤ℤ wd

mark-apart : (wd : ℤ) → IsGiven wd → overflow_mark.wd ≢ wd
unfolding overflow_mark
mark-apart wd given same =
    let h : pos 1 ≤ℤ negsuc 0 = subst IsGiven (sym same) given in
    absurd (omega (arith, ints))

pub mark-goes-on : IsTrue (says_ended overflow_mark) → ⊥
unfolding overflow_mark
mark-goes-on said = cc

module _ (wd : ℤ) (given : IsGiven wd) where
  joining-silent : (o : Offered) (e : Event) → e.wd ≢ wd → TellsNothing wd (joining o e)
  joining-silent Kept e h = All-cons (λ (x : Event). x.wd ≢ wd) e [] h (All-nil (λ (x : Event). x.wd ≢ wd))
  joining-silent Merged e h = All-nil (λ (x : Event). x.wd ≢ wd)
  joining-silent Marked e h = All-cons (λ (x : Event). x.wd ≢ wd) overflow_mark [] (mark-apart wd given) (All-nil (λ (x : Event). x.wd ≢ wd))
  joining-silent Lost e h = All-nil (λ (x : Event). x.wd ≢ wd)

  pub joined-silent : (rs : List Raised) → TellsNothing wd (events rs) → TellsNothing wd (joined rs)
  joined-silent [] h = All-nil (λ (x : Event). x.wd ≢ wd)
  joined-silent (r ∷ rs) h =
      All-append (λ (x : Event). x.wd ≢ wd) (joining (fate r) r.event) (joined rs)
      (joining-silent (fate r) r.event (All-head (λ (x : Event). x.wd ≢ wd) r.event (events rs) h))
      (joined-silent rs (All-tail (λ (x : Event). x.wd ≢ wd) r.event (events rs) h))

joining-Quiet : (o : Offered) (e : Event) (rest : List Event) → Ends (λ wd. TellsNothing wd rest) e → Quiet rest → Quiet (joining o e ++ rest)
joining-Quiet Kept e rest over q = (over, q)
joining-Quiet Merged e rest over q = q
joining-Quiet Marked e rest over q = ((λ said. absurd (mark-goes-on said)), q)
joining-Quiet Lost e rest over q = q

pub joined-Quiet : (rs : List Raised) → Quiet (events rs) → All (Ends IsGiven) (events rs) → Quiet (joined rs)
joined-Quiet [] q given = tt
joined-Quiet (r ∷ rs) q given =
    joining-Quiet (fate r) r.event (joined rs) (λ said. joined-silent r.event.wd (All-head (Ends IsGiven) r.event (events rs) given said) rs (q.0 said))
    (joined-Quiet rs q.1 (All-tail (Ends IsGiven) r.event (events rs) given))

pub EndsOnce-Quiet : (waiting : List Event) (rs : List Raised) → Quiet waiting → All (Ends (λ wd. TellsNothing wd (joined rs))) waiting
    → Quiet (events rs) → All (Ends IsGiven) (events rs) → EndsOnce waiting rs
EndsOnce-Quiet waiting rs waits over q given =
    record {
      raised = nothing-behind (events rs) q;
      joined = nothing-behind (waiting ++ joined rs) (Quiet-append waiting (joined rs) waits (joined-Quiet rs q given) over);
    }
