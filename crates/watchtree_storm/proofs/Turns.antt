-- What the seats of a storm keep.
use Rattle.std.proofs.Common.{◌≡◌, ◌∙◌, ◌+◌, ◌++◌, ℕ, Bool, List, [], ◌∷◌, refl, ap, subst, inl, inr, add-one}
use Rattle.tree_ops.specs.declared.call.FileCall.TheVariants as file
use Rattle.tree_core.specs.declared.call.Call.{Call}
use Rattle.tree_core.specs.declared.call.Call.TheVariants as call
use Rattle.tree_core.specs.declared.reply.Kept.{Kept}
use Rattle.tree_core.specs.declared.reply.Receipt.{Receipt}
use Rattle.shared_tree.specs.declared.seat.SeatLog.{SeatLog}
use Rattle.shared_tree.specs.Seats.{Seated, seated}
use Rattle.watchtree_storm.specs.Storm.{AreTurns, HasBegun, IsClosing, IsDirectory, IsListening, IsTurn, IsWhole}
use Rattle.watchtree_storm.specs.Storm.{IsWriting, KeepsOrNot, Part, pump_all, seat_of}

-- no turn
pub first-turn : (w : Part) (s : Seated) → AreTurns w 0 s s
unfolding AreTurns
first-turn w s = refl

-- a turn more
pub more-turns : (w : Part) (n : ℕ) (old between new : Seated) → AreTurns w n old between → IsTurn w n between new → AreTurns w (n + 1) old new
unfolding AreTurns
more-turns w n old between new before turn = rw add-one (between, before, turn)

-- what is said of a seat holds of its log
pub whole-of-log : (l : SeatLog) (s : Seated) → (l.number ≡ s.number) × (l.kept ≡ s.kept) → IsWhole s → IsWhole (seat_of l)
whole-of-log l s h t = rw (h.0, h.1) t

pub writing-of-log : (passes : ℕ → ℕ → Bool → Type 0) (turns : ℕ) (w : Part) (n : ℕ) (old : Seated) (l : SeatLog)
    (s : Seated)
    → (l.number ≡ s.number) × (l.kept ≡ s.kept) → IsWriting passes turns w n old s
    → IsWriting passes turns w n old (seat_of l)
writing-of-log passes turns w n old l s h t = rw (h.0, h.1) t

-- a seat that made the directory and instances 1 and 2 has begun
pub begins : (a b : ℕ) (path : List (List ℕ)) (r : Receipt) (main called one other : Seated) → a ≡ 1 → b ≡ 2
    → IsDirectory path → main ≡ seated 1 []
    → called
    ≡ seated main.number
    (main.kept ++ record { place = r.place; call = call.File (file.Mkdir path 493); reply = r.reply } ∷ [])
    → IsListening a called one → IsListening b one other → HasBegun other
begins a b path r main called one other is_one is_two is_dir is_main is_called first second =
    let made : Kept = record { place = r.place; call = call.File (file.Mkdir path 493); reply = r.reply } in
    let known : called ≡ seated 1 (made ∷ []) = is_called ∙ ap (λ (s : Seated). seated s.number (s.kept ++ made ∷ [])) is_main in (
      path,
      made,
      one,
      is_dir,
      refl,
      subst (λ (s : Seated). IsListening 1 s one) known (subst (λ (n : ℕ). IsListening n called one) is_one first),
      subst (λ (n : ℕ). IsListening n one other) is_two second,
    )

-- a writer that wrote at a gate wrote at one that is the same
pub wrote-as : {G : Type 0} (may_pass : G → ℕ → ℕ → Bool → Type 0) (most_turns : G → ℕ) (a b : G) (w v : Part) (n m : ℕ)
    (s t new : Seated)
    → a ≡ b → w ≡ v → n ≡ m → s ≡ t
    → IsWriting (may_pass a) (most_turns a) w n s new → IsWriting (may_pass b) (most_turns b) v m t new
wrote-as {G} may_pass most_turns a b w v n m s t new same_gate same_part same_calls same_seat wrote =
    subst (λ (x : Seated). IsWriting (may_pass b) (most_turns b) v m x new) same_seat
    (subst (λ (x : ℕ). IsWriting (may_pass b) (most_turns b) v x s new) same_calls
    (subst (λ (x : Part). IsWriting (may_pass b) (most_turns b) x n s new) same_part
    (subst (λ (x : G). IsWriting (may_pass x) (most_turns x) w n s new) same_gate wrote)))

-- a seat keeps its number
number-kept : (c : Call) (old new : Seated) → KeepsOrNot c old new → new.number ≡ old.number
number-kept c old new (inl same) = ap (λ (s : Seated). s.number) same
number-kept c old new (inr kept) = ap (λ (s : Seated). s.number) kept.2

-- also while both instances are closed
pub number-closed : (old new : Seated) → IsClosing old new → new.number ≡ old.number
number-closed old new h =
    number-kept (call.Close 2) h.2 new h.6 ∙ number-kept (call.Close 1) h.1 h.2 h.5
    ∙ number-kept (pump_all 2) h.0 h.1 h.4 ∙ number-kept (pump_all 1) old h.0 h.3
