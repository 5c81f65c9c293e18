-- What became of a listener and of its sink.
use Rattle.std.proofs.Common.{◌≡◌, ◌∙◌, ◌++◌, ℕ, Bool, List, Some, None, sym, ap, subst}
use Rattle.record_codec.specs.declared.event.Event.{Event}
use Rattle.shared_tree.specs.declared.pipe.Batch.{Batch}
use Rattle.shared_tree.specs.Handed.{records_of}
use Rattle.event_sinks.specs.declared.listener.Ended.{Ended}
use Rattle.event_sinks.specs.declared.listener.Listening.{Listening}
use Rattle.event_sinks.specs.Listeners.{ListenerState, state_of_ended, state_of_listener}
use Rattle.event_sinks.specs.Pages.{Page, Writes, WritesBatches}
use Rattle.watchtree_storm.specs.Storm.{Begins, HasRun, RunsAt, WritesHanded, beginning}

-- a listener at the pipe of an instance, under another name of the instance's number
pub begins-at : {S : Type 0} (record_list : S → List Event) (is_open : S → Bool) (number a b slots : ℕ) (sink : S)
    (l : Listening S)
    → a ≡ b → Begins record_list is_open number a slots sink l → Begins record_list is_open number b slots sink l
begins-at {S} record_list is_open number a b slots sink l same begins = subst (λ (n : ℕ). Begins record_list is_open number n slots sink l) same begins

-- what a listener runs from is what it begins with
pub runs-from : {S : Type 0} (record_list : S → List Event) (is_open : S → Bool) (passes : ℕ → ℕ → Bool → Type 0)
    (turns number instance slots : ℕ) (sink : S) (l : Listening S) (e : Ended S)
    → Begins record_list is_open number instance slots sink l
    → RunsAt passes turns (state_of_listener record_list is_open l) (state_of_ended record_list is_open e)
    → RunsAt passes turns (beginning number instance slots (record_list sink)) (state_of_ended record_list is_open e)
runs-from {S} record_list is_open passes turns number instance slots sink l e begins runs =
    subst (λ (h : ListenerState). RunsAt passes turns h (state_of_ended record_list is_open e)) begins.1 runs

-- a listener that had taken nothing writes all that it was handed
pub writes-handed : {S : Type 0} (record_list : S → List Event) (is_open : S → Bool) (page : S → Page)
    (number instance slots : ℕ) (sink : S) (l : Listening S) (e : Ended S)
    → Begins record_list is_open number instance slots sink l
    → (l.cause ≡ None → WritesBatches record_list page l.intake e.intake (Some e.cause)) → WritesHanded record_list page sink e
writes-handed {S} record_list is_open page number instance slots sink l e begins writes =
    let w = writes (ap (λ (h : ListenerState). h.cause) begins.1) in
    let all : e.intake.handed.items ≡ w.0 = w.1 ∙ ap (λ (h : ListenerState). h.handed ++ w.0) begins.1 in
    subst (λ (bs : List Batch). Writes record_list page sink (records_of bs) e.intake.sink (Some e.cause)) (sym all)
    (subst (λ (s : S). Writes record_list page s (records_of w.0) e.intake.sink (Some e.cause)) begins.0 w.2)

-- a listener that has run at a gate has run at one that is the same
pub ran-as : {S G : Type 0} (record_list : S → List Event) (is_open : S → Bool) (page : S → Page)
    (may_pass : G → ℕ → ℕ → Bool → Type 0) (most_turns : G → ℕ) (a b : G) (l m : Listening S) (e : Ended S)
    → a ≡ b → l ≡ m
    → HasRun record_list is_open page (may_pass a) (most_turns a) l e → HasRun record_list is_open page (may_pass b) (most_turns b) m e
ran-as {S} {G} record_list is_open page may_pass most_turns a b l m e same_gate same_listener ran =
    subst (λ (x : Listening S). HasRun record_list is_open page (may_pass b) (most_turns b) x e) same_listener
    (subst (λ (x : G). HasRun record_list is_open page (may_pass x) (most_turns x) l e) same_gate ran)
