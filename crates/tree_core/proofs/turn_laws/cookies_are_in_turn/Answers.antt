use Rattle.tree_core.proofs.Cookies.{cookies-in-turn, cookies-tie-moves}
use Rattle.tree_core.proofs.turn_laws.cookies_are_in_turn.Goals as goal

pub returns : goal.returns
returns c = record {
  turn = cookies-in-turn;
  tie = cookies-tie-moves (record { told = c.cookies_tie_moves.ensures.told; raised = c.cookies_tie_moves.ensures.raised });
}
