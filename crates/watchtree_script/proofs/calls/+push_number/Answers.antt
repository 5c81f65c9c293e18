use Rattle.std.proofs.Common.{arith}
use Rattle.watchtree_script.proofs.CallLemmas.{push-one, push-more}
use Rattle.watchtree_script.proofs.calls.+push_number.Goals as goal
use Rattle.watchtree_script.proofs.calls.+push_number.Goals.{then-radix-number+in_ok-push_number, else-radix-number}

pub returns : goal.returns
returns t c = elim c.if-radix-number.branch [
  | then-radix-number+in_ok-push_number w ↦
      push-more c.args.radix c.args.number c.digit.result c.args.text.now.items c.if-radix-number.text.items _
      c.requires.least w.if-radix-number.true (omega arith) c.digit.ensures (cc (w.in_ok-push_number.ensures)) c.in_ok-push.ensures.items
  | else-radix-number w ↦
      push-one c.args.radix c.args.number c.digit.result c.args.text.now.items c.if-radix-number.text.items _
      w.if-radix-number.false c.digit.ensures (cc) c.in_ok-push.ensures.items
]
