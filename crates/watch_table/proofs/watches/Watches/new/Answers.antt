use Rattle.watch_table.proofs.Indexed.{no_watches-IsIndexed}
use Rattle.watch_table.proofs.watches.Watches.new.Goals as goal

pub invariant_of-result : goal.invariant_of-result
invariant_of-result c = no_watches-IsIndexed c.args.limits.now c.args.alloc c.new.result c.new-2.result c.new.ensures.empty c.new-2.ensures.empty
