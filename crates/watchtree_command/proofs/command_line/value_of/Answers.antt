use Rattle.watchtree_command.proofs.Digits.{parsed-digits}
use Rattle.watchtree_command.proofs.command_line.value_of.Goals as goal

pub returns : goal.returns
returns c = rw c.ok.ensures.value (parsed-digits c.args.digits.now c.parse.result c.requires c.parse.ensures.value.0)
