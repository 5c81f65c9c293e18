use Rattle.instance_table.proofs.Noted.{noted-nothing, nothing-noted}
use Rattle.instance_table.proofs.index.Index.is_empty.Goals as goal

pub returns : goal.returns
returns c rows =
    let index = c.args.self.now in
    ((λ empty. nothing-noted index (c.is_empty.ensures.0 empty)), (λ none. c.is_empty.ensures.1 (noted-nothing index rows none)))
