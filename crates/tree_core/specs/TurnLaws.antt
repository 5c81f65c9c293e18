-- Laws of journals: numbers, descriptors and cookies are given once, and nothing follows the end of a watch.
use Rattle.std.specs.Prelude.{◌≡◌, ◌≢◌, ◌⊎◌, ⊤, ℕ, ℤ, pos, ◌≤ℤ◌, ◌<ℤ◌, ◌+◌, ◌≤◌, List, [], ◌∷◌, ◌++◌, Option, Some}
use Rattle.std.specs.Prelude.{None, All, IsTrue, not}
use Rattle.record_codec.specs.declared.event.Event.{Event}
use Rattle.tree_paths.specs.declared.limits.Limits.{Limits}
use Rattle.tree_paths.specs.declared.refusal.Refusal.{Refusal}
use Rattle.tree_paths.specs.declared.refusal.Refusal.TheVariants.{Enomem, JournalFull, PipeFull}
use Rattle.tree_ops.specs.declared.answer.Answer.TheVariants.{Number}
use Rattle.tree_ops.specs.Moves.{cookies_of}
use Rattle.watch_table.specs.Watching.{HasEnded}
use Rattle.event_rules.specs.Laws.{AreTied, TellsNothing, cookies_from, marks_of, moves_with}
use Rattle.instance_table.specs.declared.instance.Instance.{Instance}
use Rattle.instance_table.specs.Instances.{instance_of, waiting_of}
use Rattle.tree_core.specs.declared.call.Call.{Call}
use Rattle.tree_core.specs.declared.call.Call.TheVariants as call
use Rattle.tree_core.specs.declared.reply.Entry.{Entry}
use Rattle.tree_core.specs.declared.reply.Reply.{Reply}
use Rattle.tree_core.specs.declared.reply.Reply.TheVariants as reply
use Rattle.tree_core.specs.Sound.{IsSoundTree, NothingFollowsIgnored}
use Rattle.tree_core.specs.Tree.{Tree, opening, cookie_now, refusal_of, reply_of, after}
use Rattle.tree_core.specs.Journal.{IsLawfulFrom, tree_after}
use Rattle.tree_core.specs.Histories.{Raised, raised_by, raised_in, read_by, events, joined, if_same}

-- the opening tree is sound, and a sound tree stays so
pub record TreesAreSound : Type 0 where
  pub opened : (limits : Limits) → IsSoundTree (opening limits)
  pub stay : (t : Tree) (es : List Entry) → IsSoundTree t → IsSoundTree (tree_after t es)

-- ---- numbers that are given

-- these are numbers in turn, from the first on: none is there twice
abbrev pub AreInTurn : ℕ → List ℕ → Type 0
AreInTurn n [] = Unit {0}
AreInTurn n (x ∷ xs) = (x ≡ n) × AreInTurn (n + 1) xs

abbrev pub number_in : Reply → List ℕ
number_in (reply.File (Number n)) = n ∷ []
number_in _ = []

-- the numbers of files that were given, in order
abbrev pub numbers_given : List Entry → List ℕ
numbers_given [] = []
numbers_given (e ∷ es) = number_in e.reply ++ numbers_given es

abbrev pub NumbersAreInTurn : Type 0
NumbersAreInTurn = (t : Tree) (es : List Entry) → IsLawfulFrom t es → AreInTurn t.next_number (numbers_given es)

abbrev pub id_in : Reply → List ℕ
id_in (reply.Instance id) = id ∷ []
id_in _ = []

-- the numbers of instances that were given, in order
abbrev pub ids_given : List Entry → List ℕ
ids_given [] = []
ids_given (e ∷ es) = id_in e.reply ++ ids_given es

abbrev pub IdsAreInTurn : Type 0
IdsAreInTurn = (t : Tree) (es : List Entry) → IsLawfulFrom t es → AreInTurn t.next_id (ids_given es)

-- ---- cookies

-- as many cookies as an accepted call takes, from the next one on
abbrev pub cookies_by : Option Refusal → Tree → Call → List ℕ
cookies_by (Some refusal) t c = []
cookies_by None t (call.File f) = cookies_from (cookie_now t.next_cookie) (cookies_of t.world f)
cookies_by None t _ = []

-- the cookies that a call uses, in order: one for each move that it makes
abbrev pub cookies_used : Tree → Call → List ℕ
cookies_used t c = cookies_by (refusal_of t c) t c

-- the cookies that the moves of a journal use, in order
abbrev pub cookies_in : Tree → List Entry → List ℕ
cookies_in t [] = []
cookies_in t (e ∷ es) = cookies_used t e.call ++ cookies_in (after t e.call) es

-- cookies are used in turn, so no two moves share one, and none is 0
abbrev pub CookiesAreInTurn : Type 0
CookiesAreInTurn = (t : Tree) (es : List Entry) → AreInTurn t.next_cookie (cookies_in t es)

-- the i-th pair of IN_MOVED_FROM and IN_MOVED_TO that a call raises has the i-th of its cookies, and all other events
-- have none
abbrev pub CookiesTieMoves : Type 0
CookiesTieMoves =
    (t : Tree) (c : Call) (id : ℕ) → AreTied (moves_with (cookies_used t c)) (marks_of (events (raised_by t c id)))

-- ---- the end of a watch

-- neither of what is raised for an instance does anything of a watch follow its IN_IGNORED, so there is one at most,
-- nor of what waited at first and joins its queue
pub record EndsOnce (waiting : List Event) (rs : List Raised) : Type 0 where
  pub raised : NothingFollowsIgnored (events rs)
  pub joined : NothingFollowsIgnored (waiting ++ joined rs)

abbrev pub WatchesEndOnce : Type 0
WatchesEndOnce =
    (t : Tree) (es : List Entry) (id : ℕ) → IsSoundTree t
    → EndsOnce (waiting_of (instance_of t.instances id)) (raised_in t es id)

abbrev pub wd_in : Reply → List ℤ
wd_in (reply.Wd wd) = wd ∷ []
wd_in _ = []

-- the descriptors that an instance gave, in order
abbrev pub wds_of : ℕ → Call → Reply → List ℤ
wds_of id (call.AddWatch by path mask) r = if_same by id (wd_in r)
wds_of id _ r = []

abbrev pub wds_given : ℕ → List Entry → List ℤ
wds_given id [] = []
wds_given id (e ∷ es) = wds_of id e.call e.reply ++ wds_given id es

-- descriptors in the order in which they were answered: each is one that was given before, or the next
abbrev pub RunOn : ℕ → List ℤ → Type 0
RunOn next [] = ⊤
RunOn next (wd ∷ wds) = (((pos 1 ≤ℤ wd) × (wd <ℤ pos next)) × RunOn next wds) ⊎ ((wd ≡ pos next) × RunOn (next + 1) wds)

-- the descriptor that an instance gives next. A new instance gives 1 first
abbrev pub next_wd_of : Option Instance → ℕ
next_wd_of None = 1
next_wd_of (Some i) = i.watches.next_wd

-- the descriptors of an instance run 1, 2, 3 and so on; those of one that was open at first run on from its next one
abbrev pub DescriptorsRunOn : Type 0
DescriptorsRunOn =
    (t : Tree) (es : List Entry) (id : ℕ) → IsSoundTree t → IsLawfulFrom t es
    → RunOn (next_wd_of (instance_of t.instances id)) (wds_given id es)

-- a descriptor whose watch has ended is never given again, and nothing of it is raised
abbrev pub DescriptorsEndForGood : Type 0
DescriptorsEndForGood =
    (t : Tree) (es : List Entry) (id : ℕ) (i : Instance) (wd : ℤ)
    → IsSoundTree t → IsLawfulFrom t es → instance_of t.instances id ≡ Some i → HasEnded i.watches wd
    → All (λ given. given ≢ wd) (wds_given id es) × TellsNothing wd (events (raised_in t es id))

-- ---- what a reply says about its tree

-- it is none of those that no tree gives: out of memory, a full journal, a full pipe. A call with such a refusal makes
-- no entry
abbrev pub IsOfTree : Refusal → Type 0
IsOfTree refusal = (refusal ≢ Enomem) × (refusal ≢ JournalFull) × (refusal ≢ PipeFull)

-- what a refused call adds: the tree is as before, and so is for each instance what was raised, so what joined, and
-- what was read
pub record AddsNothing (t : Tree) (c : Call) : Type 0 where
  pub tree : after t c ≡ t
  pub raised : (id : ℕ) → raised_by t c id ≡ []
  pub read : (id : ℕ) → read_by t c id ≡ []

-- records are read of open instances without a pipe, and pumped of those with one; a new instance has the next number;
-- numbers of instances never fall; a closed instance was open; a refused call adds nothing, and its refusal is one of
-- the tree's
pub record RepliesTell (t : Tree) (c : Call) : Type 0 where
  pub read : (id count : ℕ) (bytes : List ℕ) → c ≡ call.Read id count → reply_of t c ≡ reply.Records bytes
      → (i : Instance) × (instance_of t.instances id ≡ Some i) × IsTrue (not i.is_piped)
  pub pumped : (id count : ℕ) (bytes : List ℕ) → c ≡ call.Pump id count → reply_of t c ≡ reply.Records bytes
      → (i : Instance) × (instance_of t.instances id ≡ Some i) × IsTrue i.is_piped
  pub opened : (id : ℕ) → reply_of t c ≡ reply.Instance id → id ≡ t.next_id
  pub closed : (id : ℕ) → c ≡ call.Close id → reply_of t c ≡ reply.Done
      → (i : Instance) × (instance_of t.instances id ≡ Some i)
  pub rising : t.next_id ≤ (after t c).next_id
  pub refused : (refusal : Refusal) → reply_of t c ≡ reply.Refused refusal → AddsNothing t c
  pub of_tree : (refusal : Refusal) → reply_of t c ≡ reply.Refused refusal → IsOfTree refusal
