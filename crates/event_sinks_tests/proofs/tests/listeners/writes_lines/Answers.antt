use Rattle.std.proofs.Common.{◌∙◌, ◌≡◌, ◌++◌, ap, subst, sym, List, Some}
use Rattle.record_codec.specs.Ports.{faults_of, inner_of}
use Rattle.shared_tree.specs.declared.pipe.Batch.{Batch}
use Rattle.shared_tree.specs.Handed as batches
use Rattle.event_sinks.specs.declared.line.LineSink.{LineSink}
use Rattle.event_sinks.specs.Listeners.{ListenerState}
use Rattle.event_sinks.specs.Pages.{Writes}
use Rattle.event_sinks.specs.Writing.{page_of, port_of, records_of}
use Rattle.event_sinks_tests.proofs.Whole.{whole}
use Rattle.event_sinks_tests.proofs.tests.listeners.writes_lines.Goals as goal

pub returns : goal.returns
returns g c is none =
    let contents = g.W.Write.contents in
    let old = c.new-2.result.intake in
    let new = c.run.result.intake in
    let heard = c.new-2.ensures.state in
    let same = c.new-2.ensures.sink in
    let writes = c.run.ensures.writes (ap (λ (h : ListenerState). h.cause) heard) in
    let all : new.handed.items ≡ writes.0 = writes.1 ∙ ap (λ (h : ListenerState). h.handed ++ writes.0) heard in
    let begun =
    subst
    (λ (bs : List Batch).
    Writes records_of (page_of contents) old.sink (batches.records_of bs) new.sink
    (Some c.run.result.cause))
    (sym all) writes.2 in
    whole contents c.unfailing_texts_are_whole.ensures old.sink new.sink new.handed.items c.args.writer
    c.run.result.cause (ap (λ (s : LineSink g.row.W.Denot). inner_of (port_of s)) same ∙ c.new.ensures.writer)
    (ap (λ (s : LineSink g.row.W.Denot). records_of s) same ∙ c.new.ensures.list)
    (ap (λ (s : LineSink g.row.W.Denot). faults_of (port_of s)) same ∙ c.new.ensures.faults) begun is none
