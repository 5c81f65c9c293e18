use Rattle.std.proofs.lemmas.Result.{err_from_is_err_and}
use Rattle.watchtree_script.proofs.Pages.{front-first, front-second-at, passes-all}
use Rattle.record_codec.specs.Ports.{inner_of}
use Rattle.watchtree_script.proofs.page.Page.take.Goals as goal

pub returns-clause-ok : goal.returns-clause-ok
returns-clause-ok g c =
    passes-all c.write-2.result c.args.self.now.text.items c.args.text.now c.write.new.self.text.items
    (g.W.Write.contents (inner_of c.args.output.now)) (g.W.Write.contents (inner_of c.write.new.output)) _
    c.in_ok-write.ensures.ok.0 c.in_ok-write.ensures.ok.1 c.write-2.ensures.ok

pub returns-clause-err : goal.returns-clause-err
returns-clause-err g c =
    front-second-at c.write-2.result c.args.self.now.text.items c.args.text.now (g.W.Write.contents (inner_of c.args.output.now))
    (g.W.Write.contents (inner_of c.write.new.output)) _
    c.in_ok-write.ensures.ok.1 c.write-2.ensures.err

pub returns-in_err-write-clause-err : goal.returns-in_err-write-clause-err
returns-in_err-write-clause-err g c =
    let p = err_from_is_err_and c.from_residual.result c.from_residual.ensures.1 in
    rw p.1
    (front-first c.args.self.now.text.items c.args.text.now (g.W.Write.contents (inner_of c.args.output.now)) (g.W.Write.contents (inner_of c.write.new.output))
    c.in_err-write.ensures.err)
