use Rattle.std.proofs.Common.{List, None, ap, ◌-◌, ◌∙◌, length}
use Rattle.std.specs.List.{last_or, slice_get}
use Rattle.tree_core.specs.declared.reply.Entry.{Entry}
use Rattle.tree_core.specs.Journal.{Journaled}
use Rattle.tree_core.proofs.Peeked.{last-get}
use Rattle.tree_core.proofs.state.State.last_entry.Goals as goal

pub returns : goal.returns
returns c =
    c.last.ensures.value ∙ ap (λ (es : List Entry). slice_get es (length es - 1)) c.deref.ensures.value
    ∙ last-get c.self.inside.journal.items ∙ ap (λ (s : Journaled). last_or None s.entries) c.self.view_is
