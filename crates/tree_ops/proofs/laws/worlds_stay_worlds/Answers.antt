use Rattle.tree_ops.proofs.WorldsStay.{IsWorld-opening, IsWhole-opening, IsWorld-after, IsWhole-after}
use Rattle.tree_ops.proofs.laws.worlds_stay_worlds.Goals as goal

pub returns : goal.returns
returns c = record {
  opened = IsWorld-opening;
  opened_whole = IsWhole-opening;
  world = λ w limits counts call is. IsWorld-after w limits counts is call;
  whole = λ w limits counts call is whole. IsWhole-after w limits counts is whole call;
}
