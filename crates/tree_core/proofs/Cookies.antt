-- Cookies are used in turn, and tie the two events of a move.
use Rattle.std.proofs.Common.{◌≡◌, inl, inr, ℕ, ◌+◌, ◌==◌, Bool, true, false, if◌then◌else◌, List, [], ◌∷◌, Option, Some, None, refl, sym, ap, subst, ◌∙◌}
use Rattle.std.specs.Prelude.{ℤ}
use Rattle.std.proofs.lemmas.List.Elements.{All-nil, All-cons}
use Rattle.record_codec.specs.declared.event.Event.{Event}
use Rattle.tree_paths.specs.declared.refusal.Refusal.{Refusal}
use Rattle.inode_table.specs.World.{World}
use Rattle.tree_ops.specs.declared.call.FileCall.{FileCall}
use Rattle.tree_ops.specs.Moves.{cookies_of}
use Rattle.tree_ops.specs.Refused.{refused}
use Rattle.watch_table.specs.Watching.{Watching}
use Rattle.event_queue.specs.Backlogs.{Backlog, after_offer}
use Rattle.event_rules.specs.declared.notice.TheConstants.{NO_COOKIE}
use Rattle.event_rules.specs.declared.notice.Notice.{Notice}
use Rattle.event_rules.specs.Raised.{events_of, ignored}
use Rattle.event_rules.specs.Laws.{AreTied, Mark, cookies_from, marks_of, marks_told, moves_with}
use Rattle.event_rules.proofs.Moves.{IsTied}
use Rattle.event_rules.specs.Table.{notices_of}
use Rattle.instance_table.specs.declared.instance.Instance.{Instance}
use Rattle.instance_table.specs.Instances.{instance_of}
use Rattle.tree_core.specs.declared.call.Call.{Call}
use Rattle.tree_core.specs.declared.call.Call.TheVariants as call
use Rattle.tree_core.specs.declared.reply.Entry.{Entry}
use Rattle.tree_core.specs.Histories.{raised_to, raised_by, events, events_for, where_open}
use Rattle.tree_core.specs.Tree.{Tree, cookie_now, counts_of, refusal_of, after_file}
use Rattle.tree_core.specs.Tree.{accepted, after}
use Rattle.tree_core.specs.TurnLaws.{AreInTurn, cookies_by, cookies_in, cookies_used, CookiesAreInTurn, CookiesTieMoves}
use Rattle.tree_core.proofs.Parts.{tree_by}
use Rattle.tree_core.proofs.Counted.{HasRoom, cookies-there}
use Rattle.tree_core.proofs.Turns.{Step, gives-many, gives-none, same-number}

-- ---- an accepted call uses the next cookies

file-cookies : (t : Tree) (f : FileCall) → refused t.world t.limits (counts_of t) f ≡ None
    → Step t.next_cookie (t.next_cookie + cookies_of t.world f) (cookies_from (cookie_now t.next_cookie) (cookies_of t.world f))
file-cookies t f none = by (cookies-there t.world t.limits (counts_of t) t.next_cookie refl f none)
  where
    by : HasRoom t.limits t.next_cookie (cookies_of t.world f)
        → Step t.next_cookie (t.next_cookie + cookies_of t.world f) (cookies_from (cookie_now t.next_cookie) (cookies_of t.world f))
    by (inl unused) =
        gives-none _ _ _ (ap (cookies_from (cookie_now t.next_cookie)) unused) (ap (λ (n : ℕ). t.next_cookie + n) unused ∙ same-number t.next_cookie)
    by (inr room) =
        subst (λ (n : ℕ). Step t.next_cookie (t.next_cookie + cookies_of t.world f) (cookies_from n (cookies_of t.world f)))
        (sym room.1) (gives-many t.next_cookie (cookies_of t.world f))

accepted-cookies : (t : Tree) (c : Call) → refusal_of t c ≡ None → Step t.next_cookie (accepted t c).next_cookie (cookies_by None t c)
unfolding after_file
accepted-cookies t (call.File f) none = file-cookies t f none
accepted-cookies t (call.Init limit is_piped) none = gives-none _ _ _ refl refl
accepted-cookies t (call.AddWatch id p mask) none = gives-none _ _ _ refl refl
accepted-cookies t (call.RmWatch id wd) none = gives-none _ _ _ refl refl
accepted-cookies t (call.Read id bytes) none = gives-none _ _ _ refl refl
accepted-cookies t (call.Pump id bytes) none = gives-none _ _ _ refl refl
accepted-cookies t (call.Close id) none = gives-none _ _ _ refl refl

step-cookies : (t : Tree) (c : Call) (o : Option Refusal) → refusal_of t c ≡ o → Step t.next_cookie (tree_by o t (accepted t c)).next_cookie (cookies_by o t c)
step-cookies t c None e = accepted-cookies t c e
step-cookies t c (Some r) e = gives-none _ _ _ refl refl

pub cookies-step : (t : Tree) (c : Call) → Step t.next_cookie (after t c).next_cookie (cookies_used t c)
cookies-step t c = step-cookies t c (refusal_of t c) refl

cookies-from : (t : Tree) (es : List Entry) → AreInTurn t.next_cookie (cookies_in t es)
cookies-from t [] = tt
cookies-from t (e ∷ es) = (step-cookies t e.call (refusal_of t e.call) refl).all (cookies_in (after t e.call) es) (cookies-from (after t e.call) es)

pub cookies-in-turn : CookiesAreInTurn
cookies-in-turn = cookies-from

-- ---- the events of an accepted call

-- the events of what was raised are those that were raised
pub events-raised_to : (b : Backlog) (es : List Event) → events (raised_to b es) ≡ es
events-raised_to b [] = refl
events-raised_to b (e ∷ es) = ap (λ (xs : List Event). e ∷ xs) (events-raised_to (after_offer b e) es)

-- the laws of the crate of events on cookies
pub record CookieLaws : Type 0 where
  pub told : (w : World) (f : FileCall) (cookie : ℕ) → AreTied (moves_with (cookies_from cookie (cookies_of w f))) (marks_told (notices_of w f cookie))
  pub raised : (w : Watching) (ns : List Notice) (moves : List Mark) → AreTied moves (marks_told ns) → AreTied moves (marks_of (events_of w ns))

nothing-tied : (moves : List Mark) → AreTied moves []
nothing-tied moves = record { among = tt; others = All-nil IsTied }

-- the event that a watch has ended has no cookie
end-tied : (b : Bool) (wd : ℤ) → AreTied [] (marks_of (if b then ignored wd ∷ [] else []))
end-tied true wd = record { among = tt; others = All-cons IsTied ((ignored wd).mask, NO_COOKIE) [] (λ _. refl) (All-nil IsTied) }
end-tied false wd = nothing-tied []

module _ (laws : CookieLaws) where
  events_for-tied : (t : Tree) (c : Call) (id : ℕ) (i : Instance) → AreTied (moves_with (cookies_by None t c)) (marks_of (events_for t c id i))
  events_for-tied t (call.File f) id i =
      laws.raised i.watches (notices_of t.world f (cookie_now t.next_cookie))
      (moves_with (cookies_from (cookie_now t.next_cookie) (cookies_of t.world f))) (laws.told t.world f (cookie_now t.next_cookie))
  events_for-tied t (call.Init limit is_piped) id i = nothing-tied []
  events_for-tied t (call.AddWatch from p mask) id i = nothing-tied []
  events_for-tied t (call.RmWatch from wd) id i = end-tied (from == id) wd
  events_for-tied t (call.Read from bytes) id i = nothing-tied []
  events_for-tied t (call.Pump from bytes) id i = nothing-tied []
  events_for-tied t (call.Close from) id i = nothing-tied []

  open-tied : (t : Tree) (c : Call) (id : ℕ) (o : Option Refusal) (there : Option Instance)
      → AreTied (moves_with (cookies_by o t c)) (marks_of (events (where_open o there (λ i. raised_to i.queue (events_for t c id i)))))
  open-tied t c id (Some r) there = nothing-tied []
  open-tied t c id None None = nothing-tied (moves_with (cookies_by None t c))
  open-tied t c id None (Some i) =
      subst (λ (es : List Event). AreTied (moves_with (cookies_by None t c)) (marks_of es))
      (sym (events-raised_to i.queue (events_for t c id i))) (events_for-tied t c id i)

  pub cookies-tie-moves : CookiesTieMoves
  unfolding raised_by
  cookies-tie-moves t c id = open-tied t c id (refusal_of t c) (instance_of t.instances id)
