-- What a tree shows where no call is made.
use Rattle.std.specs.Prelude.{ℕ, ◌==◌, List, Option, option_map, length}
use Rattle.std.specs.FinMap as finmap
use Rattle.std.specs.List.{find}
use Rattle.record_codec.specs.Records.{spelling}
use Rattle.inode_table.specs.Rows.{Label}
use Rattle.inode_table.specs.World.{World}
use Rattle.instance_table.specs.Instances.{instance_of}
use Rattle.tree_core.specs.Tree.{Tree}

-- how many bytes the records take that wait in the instance of a number: what ioctl(2) with FIONREAD gives (inotify(7))
unfoldable pub bytes_waiting_in : Tree → ℕ → Option ℕ
bytes_waiting_in t id = option_map (λ i. length (spelling i.queue.waiting)) (instance_of t.instances id)

-- the first path of the file of a number, in the order of names, a prefix first
unfoldable pub first_path : World → ℕ → Option (List Label)
first_path w number = option_map (λ e. e.0) (find (λ e. e.1 == number) (finmap.entries w.paths))
