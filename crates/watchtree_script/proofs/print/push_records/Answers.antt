use Rattle.watchtree_script.proofs.PrintLemmas.{none_printed, one_printed, all_printed, record_shorter}
use Rattle.watchtree_script.proofs.print.push_records.Goals as goal

pub loop-record-init : goal.loop-record-init
loop-record-init c = none_printed c.args.bytes.now c.args.text.now.items c.requires

pub loop-record-smaller : goal.loop-record-smaller
loop-record-smaller c = record_shorter c.loop-record.rest.now c.in-Some.behind.now _ c.in-Some.ensures.1

pub loop-record-preserved : goal.loop-record-preserved
loop-record-preserved c =
    one_printed c.args.bytes.now c.loop-record.rest.now c.in-Some.behind.now c.args.text.now.items c.loop-record.text.items c.push_record.new.text.items _
    c.loop-record.invariant c.in-Some.ensures.0 c.in-Some.ensures.1 c.in-Some.ensures.2 c.in_ok-push_record.ensures

pub returns : goal.returns
returns c = all_printed c.args.bytes.now c.loop-record.rest.now c.args.text.now.items c.loop-record.text.items c.loop-record.invariant c.in_default.ensures
