use Rattle.tree_ops.proofs.FilesAfter.{gone-goes}
use Rattle.event_rules.proofs.Lost.{gone-told, watch-gone}
use Rattle.event_rules.proofs.laws.lost_files_are_gone.Goals as goal

pub returns : goal.returns
returns c = record {
  told =
      λ w limits counts call cookie number is accepted there gone.
      gone-told w call cookie number there (gone-goes w is limits counts call number accepted there gone);
  unwatched = watch-gone;
}
