-- What a book keeps. No public clause cites this module.
use Rattle.std.specs.Prelude.{◌≡◌, ℕ, List}
use Rattle.tree_core.specs.Journal.{IsLawfulFrom, Journaled, last_place}
use Rattle.shared_tree.specs.declared.pipe.Batch.{Batch}
use Rattle.shared_tree.specs.Calls.{IsSent}
use Rattle.shared_tree.specs.Handed.{AreOfEvents, handed_since}

pub record IsBook (state : Journaled) (entries : ℕ) (pipes : List ℕ) (sent : List (List Batch)) : Type 0 where
  pub lawful : IsLawfulFrom state.start state.entries
  pub counted : entries ≡ last_place state
  pub sends : IsSent state pipes sent
  pub events : (id : ℕ) → AreOfEvents (handed_since state id)
