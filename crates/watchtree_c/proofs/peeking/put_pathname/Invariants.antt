use Rattle.std.proofs.Common.{length}
use Rattle.watchtree_c.proofs.Listing.{IsPut}
use Rattle.watchtree_c.proofs.peeking.put_pathname.Given as goal

abbrev pub invariant-loop-name : goal.invariant-loop-name
invariant-loop-name l = IsPut l.fn.names l.names l.len l.fn.out l.out

abbrev pub decreases-loop-name : goal.decreases-loop-name
decreases-loop-name l = length l.names
