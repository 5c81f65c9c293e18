-- Laws of journals that are cut.
use Rattle.std.specs.Prelude.{◌≡◌, ℕ, List, ◌++◌, length, map}
use Rattle.tree_paths.specs.declared.limits.Limits.{Limits}
use Rattle.tree_core.specs.declared.reply.Entry.{Entry}
use Rattle.tree_core.specs.declared.snapshot.Snapshot.{Snapshot}
use Rattle.tree_core.specs.Tree.{Tree}
use Rattle.tree_core.specs.Sound.{IsSoundTree}
use Rattle.tree_core.specs.Snapshots.{IsSnapshotOf}
use Rattle.tree_core.specs.Journal.{Journaled, IsLawful, IsLawfulFrom, IsPast, cut_off, last_place, now, stands_for}
use Rattle.tree_core.specs.Journal.{tree_after}

-- a journal that is cut behind its front: the tree at the cut is sound, and the rest is lawful from it and leads where
-- the whole journal leads. So each call of the rest is answered as in the whole journal
pub record GoesOn (limits : Limits) (front rest : List Entry) (t : Tree) : Type 0 where
  pub sound : IsSoundTree t
  pub lawful : IsLawful limits front
  pub goes_on : IsLawfulFrom t rest
  pub leads : tree_after t rest ≡ stands_for limits (front ++ rest)

abbrev pub CutsKeepAnswers : Type 0
CutsKeepAnswers =
    (limits : Limits) (front rest : List Entry) → IsLawful limits (front ++ rest)
    → GoesOn limits front rest (stands_for limits front)

-- a snapshot and the limits determine a sound tree and its sequence number
abbrev pub SnapshotsTellAll : Type 0
SnapshotsTellAll =
    (t u : Tree) (p q : ℕ) (s : Snapshot) → IsSoundTree t → IsSoundTree u → t.limits ≡ u.limits
    → IsSnapshotOf t p s → IsSnapshotOf u q s → (t ≡ u) × (p ≡ q)

-- a state and its past are one whole journal, which is lawful if the state's is: it leads to the state's tree, and its
-- last sequence number is the state's
pub record IsWhole (s : Journaled) (past : List Entry) : Type 0 where
  pub lawful : IsLawful s.start.limits (past ++ s.entries)
  pub leads : stands_for s.start.limits (past ++ s.entries) ≡ now s
  pub places : length (past ++ s.entries) ≡ last_place s
  pub sound : IsSoundTree s.start

abbrev pub PastsMakeWhole : Type 0
PastsMakeWhole =
    (s : Journaled) (past : List Entry) → IsPast s.start s.place past → IsLawfulFrom s.start s.entries → IsWhole s past

-- a state and its fork, each after entries of its own: the replies are the same, and so are the trees that they lead to
-- and the last sequence numbers
pub record AreAlike (s : Journaled) (es fs : List Entry) : Type 0 where
  pub replies : map (λ e. e.reply) es ≡ map (λ e. e.reply) fs
  pub trees : now (record s { entries = s.entries ++ es }) ≡ now (record (cut_off s) { entries = fs })
  pub places :
      last_place (record s { entries = s.entries ++ es }) ≡ last_place (record (cut_off s) { entries = fs })

-- both are alike after the same calls
abbrev pub ForksAnswerAlike : Type 0
ForksAnswerAlike =
    (s : Journaled) (es fs : List Entry) → map (λ e. e.call) es ≡ map (λ e. e.call) fs
    → IsLawfulFrom s.start (s.entries ++ es) → IsLawfulFrom (now s) fs → AreAlike s es fs
