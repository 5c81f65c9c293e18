use Rattle.instance_table.proofs.Heard.{heard-enough, untold}
use Rattle.instance_table.proofs.laws.unwatched_files_need_no_telling.Goals as goal

pub returns : goal.returns
returns c = record {
  watched = heard-enough c.unwatched_files_need_no_notices.ensures.events c.unwatched_files_need_no_notices.ensures.watches;
  none = untold;
}
