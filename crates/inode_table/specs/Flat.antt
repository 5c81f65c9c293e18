-- The numbers under the paths of a table, and the names in a directory.
use Rattle.std.specs.Prelude.{ℕ, List, [], Option}
use Rattle.std.specs.Option.{option_and_then, option_map}
use Rattle.inode_table.specs.Rows.{Body, File, Names, Label, Rows, What, child, what}
use Rattle.inode_table.specs.Walk.{walk}

-- the number under a path
abbrev pub number_under : Rows → List Label → Option ℕ
number_under rs p = option_and_then (λ k. option_map (λ (v : What). v.number) (what rs k)) (walk (child rs) 0 p)

abbrev pub names_in : Body → List (Label × ℕ)
names_in (File bytes reserved) = []
names_in (Names es) = es
