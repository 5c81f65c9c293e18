use Rattle.std.proofs.Common.{◌≤◌, arith, refl, ap, ◌∙◌}
use Rattle.std.proofs.lemmas.Result.{err_from_is_err_and}
use Rattle.record_codec.specs.Ports.{inner_of}
use Rattle.tree_core.specs.Journal.{opened}
use Rattle.watchtree_script.proofs.Runs.{Progress-start, Progress-next, Progress-count, Progress-fault, Progress-ok, Progress-err}
use Rattle.watchtree_script.proofs.run.run_lines.Goals as goal

pub loop-line-init : goal.loop-line-init
loop-line-init g c =
    record {
      progress =
          Progress-start c.args.queue c.args.script.now c.new-lines.result c.in-Ok.state c.in_ok-page.page.text.items
          (g.W.Write.contents (inner_of c.args.output.now))
          c.new-lines.ensures (c.in-Ok.ensures.ok ∙ ap opened c.full.ensures) c.in_ok-page.ensures;
      faults = refl;
    }

pub overflow_add-number : goal.overflow_add-number
overflow_add-number g c =
    let h : c.loop-line.number ≤ 1048576 =
    Progress-count c.args.queue c.args.script.now c.in-Some.line.bytes.now c.loop-line.lines c.next_line.new.self c.loop-line.number c.loop-line.state
    c.loop-line.page.text.items _ _ c.in-Some.ensures.line c.loop-line.invariant.progress c.requires in
    omega arith

pub loop-line-preserved : goal.loop-line-preserved
loop-line-preserved g c =
    let printed = c.in_ok-run_line.ensures.ok in
    record {
      progress =
          Progress-next c.args.queue c.args.script.now c.in-Some.line.bytes.now printed.0 c.loop-line.lines c.next_line.new.self
          c.loop-line.number c.loop-line.state c.run_line.new.state
          c.loop-line.page.text.items c.run_line.new.page.text.items
          (g.W.Write.contents (inner_of c.args.output.now)) (g.W.Write.contents (inner_of c.loop-line.output))
          (g.W.Write.contents (inner_of c.run_line.new.output))
          c.in-Some.ensures.line c.loop-line.invariant.progress printed.1 printed.2;
      faults = c.in_ok-run_line.ensures.faults ∙ c.loop-line.invariant.faults;
    }

pub returns-in_err-run_line-clause-err : goal.returns-in_err-run_line-clause-err
returns-in_err-run_line-clause-err g c =
    let p = err_from_is_err_and c.from_residual-in_err-run_line.result c.from_residual-in_err-run_line.ensures.1 in
    rw (p.1, p.2)
    (Progress-fault c.args.queue c.args.script.now c.in-Some.line.bytes.now c.loop-line.lines c.next_line.new.self
    c.loop-line.number c.loop-line.state c.loop-line.page.text.items
    (g.W.Write.contents (inner_of c.args.output.now)) (g.W.Write.contents (inner_of c.loop-line.output))
    (g.W.Write.contents (inner_of c.run_line.new.output)) c.in_err-run_line.field-0.0
    c.in-Some.ensures.line c.loop-line.invariant.progress c.requires c.in_err-run_line.ensures.err)

pub returns-clause-ok : goal.returns-clause-ok
returns-clause-ok g c =
    Progress-ok c.write.result c.args.queue c.args.script.now c.loop-line.lines c.loop-line.number c.loop-line.state c.loop-line.page.text.items _
    (g.W.Write.contents (inner_of c.args.output.now)) (g.W.Write.contents (inner_of c.loop-line.output)) _
    c.in_default-next_line.ensures.line.0 c.loop-line.invariant.progress c.requires c.write.ensures.ok

pub returns-clause-err : goal.returns-clause-err
returns-clause-err g c =
    Progress-err c.write.result c.args.queue c.args.script.now c.loop-line.lines c.loop-line.number c.loop-line.state c.loop-line.page.text.items
    (g.W.Write.contents (inner_of c.args.output.now)) (g.W.Write.contents (inner_of c.loop-line.output)) _
    c.loop-line.invariant.progress c.requires c.write.ensures.fault c.write.ensures.err
