use Rattle.std.proofs.Common.{◌∙◌, subst, sym}
use Rattle.tree_core.specs.Calls.{IsSpelled}
use Rattle.watchtree_script_tests.proofs.tests.lines.append_read.Goals as goal

pub append_entry-requires : goal.append_entry-requires
append_entry-requires c =
    subst IsSpelled (sym c.entry_of-entry.ensures)
    (_, c.in_ok-bytes.ensures.are_events, c.from_vec.ensures ∙ c.in_ok-bytes.ensures.bytes)
