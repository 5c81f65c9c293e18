use Rattle.instance_table.proofs.Heard.{unwatched-stay}
use Rattle.instance_table.proofs.laws.unwatched_instances_stay.Goals as goal

pub returns : goal.returns
returns c m ns nobody = unwatched-stay c.unwatched_files_raise_nothing.ensures.events c.unwatched_files_raise_nothing.ensures.watches m ns nobody
