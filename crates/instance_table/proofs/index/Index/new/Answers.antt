use Rattle.std.proofs.Common.{ap, is_some, sym, ◌∙◌}
use Rattle.std.proofs.lemmas.Bool.{false≢true}
use Rattle.std.specs.BTreeMap as tree
use Rattle.std.specs.Map.{lookup}
use Rattle.std.specs.Ordering.{nat_cmp}
use Rattle.instance_table.proofs.Noted.{none-noted}
use Rattle.instance_table.proofs.index.Index.new.Goals as goal

pub returns-clause-noted : goal.returns-clause-noted
returns-clause-noted c number id =
    none-noted (record { alloc = c.args.alloc; watchers = c.new.result; filter = c.new-2.result }) number id
    (ap (lookup (tree.is_at (nat_cmp number))) c.new.ensures.empty)

pub returns-clause-rows : goal.returns-clause-rows
returns-clause-rows c number ids e = absurd (false≢true (ap is_some (sym (ap (lookup (tree.is_at (nat_cmp number))) c.new.ensures.empty) ∙ e)))
