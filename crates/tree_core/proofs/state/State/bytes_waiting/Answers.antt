use Rattle.std.proofs.Common.{ap, ◌∙◌, Some, None}
use Rattle.tree_core.specs.Journal.{now}
use Rattle.tree_core.specs.Kept.{journal_of}
use Rattle.tree_core.specs.Peeks.{bytes_waiting_in}
use Rattle.tree_core.proofs.Peeked.{bytes-file_system}
use Rattle.tree_core.proofs.state.State.bytes_waiting.Goals as goal

pub returns-in_err-opened : goal.returns-in_err-opened
returns-in_err-opened c =
    let a = c.self.inside in
    c.from_residual.ensures
    ∙ bytes-file_system (now (journal_of a)) a.file_system c.args.instance None c.self.invariant.stands c.in_err-opened.ensures
    ∙ ap (λ s. bytes_waiting_in (now s) c.args.instance) c.self.view_is

pub returns : goal.returns
returns c =
    let a = c.self.inside in
    ap (λ n. Some n) c.bytes.ensures
    ∙ bytes-file_system (now (journal_of a)) a.file_system c.args.instance (Some c.in_ok-opened.opened.now) c.self.invariant.stands c.in_ok-opened.ensures
    ∙ ap (λ s. bytes_waiting_in (now s) c.args.instance) c.self.view_is
