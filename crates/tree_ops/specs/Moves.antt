-- What an accepted call moves.
use Rattle.std.specs.Prelude.{ℕ, List, ◌==◌, if◌then◌else◌}
use Rattle.inode_table.specs.World.{World, look}
use Rattle.inode_table.specs.Refusals.{Look}
use Rattle.tree_ops.specs.declared.call.TheConstants.{RENAME_EXCHANGE}
use Rattle.tree_ops.specs.declared.call.FileCall.{FileCall}
use Rattle.tree_ops.specs.declared.call.FileCall.TheVariants.{Rename, Rename2}
use Rattle.tree_ops.specs.declared.moves.Moves.{Moves}
use Rattle.tree_ops.specs.declared.moves.Moves.TheVariants.{Nothing, Move, Exchange}
use Rattle.tree_ops.specs.Refused.{are_same_seen}

-- what a rename by flags moves, where the paths are not of one file
abbrev pub moves_for : ℕ → Moves
moves_for flags = if flags == RENAME_EXCHANGE then Exchange else Move

-- what a rename moves, where two paths of one file move nothing
abbrev pub moves_between : Moves → Look → List (List ℕ) → List (List ℕ) → Moves
moves_between made seen_at old new = if are_same_seen (seen_at old) (seen_at new) then Nothing else made

-- no other call moves anything
abbrev pub moves_seen : Look → FileCall → Moves
moves_seen seen_at (Rename old new) = moves_between Move seen_at old new
moves_seen seen_at (Rename2 old new flags) = moves_between (moves_for flags) seen_at old new
moves_seen seen_at _ = Nothing

-- what an accepted call moves in a world
abbrev pub moves_of : World → FileCall → Moves
moves_of w call = moves_seen (look w) call

-- one cookie for each file that gets another path
abbrev pub cookies_for : Moves → ℕ
cookies_for Nothing = 0
cookies_for Move = 1
cookies_for Exchange = 2

-- how many cookies an accepted call uses
abbrev pub cookies_of : World → FileCall → ℕ
cookies_of w call = cookies_for (moves_of w call)
