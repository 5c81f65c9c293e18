use Rattle.std.proofs.Common.{◌≡◌, ◌++◌, reverse}
use Rattle.std.specs.Iterator.Adapters.{rev_source}
use Rattle.inode_table.specs.Listing.{longer}
use Rattle.inode_table.proofs.table.flat.put_off.Given as goal

abbrev pub invariant-loop-name : goal.invariant-loop-name
invariant-loop-name l =
    l.pending.items ++ reverse (longer l.path (rev_source l.name-iterator)) ≡ l.initial.pending.items ++ reverse (longer l.path l.names.entries)
