-- Laws of all calls, at each entry of a journal.
use Rattle.std.proofs.Common.{List, [], ◌∷◌}
use Rattle.tree_core.specs.declared.call.Call.{Call}
use Rattle.tree_core.specs.declared.reply.Entry.{Entry}
use Rattle.tree_core.specs.Tree.{Tree, after}
use Rattle.tree_core.specs.Law.{AtEach}

pub at_each : (P : Tree → Call → Type 0) → ((t : Tree) (c : Call) → P t c) → (t : Tree) (es : List Entry) → AtEach P t es
at_each P all t [] = tt
at_each P all t (e ∷ es) = (all t e.call, at_each P all (after t e.call) es)
