use Rattle.watch_table.proofs.Watched.{watched_by-some, watched_by-watched}
use Rattle.watch_table.proofs.laws.descriptors_tell_files.Goals as goal

pub returns : goal.returns
returns c = λ w wd number sound. (watched_by-some w wd number, watched_by-watched w sound wd number)
