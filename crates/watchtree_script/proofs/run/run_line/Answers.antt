use Rattle.watchtree_script.proofs.Runs.{LineTells-write}
use Rattle.watchtree_script.proofs.run.run_line.Goals as goal

pub returns-in-Ok-clause-err : goal.returns-in-Ok-clause-err
returns-in-Ok-clause-err g c =
    LineTells-write c.take.result c.args.queue c.args.number c.args.state.now c.print_script_line.new.state c.args.line.bytes.now
    c.args.page.now.text.items c.print_script_line.new.text.items _ _
    c.take.ensures.fault (rw c.as_slice.ensures.value at c.take.ensures.err) c.in-Ok.ensures.ok
