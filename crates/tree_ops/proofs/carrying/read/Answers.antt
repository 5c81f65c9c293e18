use Rattle.std.proofs.Common.{take, drop, ap, ◌∙◌}
use Rattle.tree_ops.specs.declared.answer.Answer.TheVariants.{Bytes}
use Rattle.tree_ops.proofs.carrying.read.Goals as goal

pub returns-clause-answer : goal.returns-clause-answer
returns-clause-answer c =
    ap Bytes
    (c.from_vec.ensures ∙ c.in_ok-bytes.ensures.items ∙ c.front.ensures ∙ ap (take c.args.count) (c.rest.ensures ∙ ap (drop c.args.offset) c.content.ensures))
