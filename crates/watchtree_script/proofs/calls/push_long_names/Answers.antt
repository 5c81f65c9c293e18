use Rattle.watchtree_script.proofs.CallLemmas.{push-name, printed-names}
use Rattle.watchtree_script.proofs.calls.push_long_names.Goals as goal

pub loop-name-preserved : goal.loop-name-preserved
loop-name-preserved c =
    push-name c.in-Some.name c.loop-name.names c.next.new.self c.loop-name.text.items _ c.append_name.new.out.items _ c.loop-name.invariant
    c.in-Some.ensures c.in_ok-extend_from_slice.ensures.items (rw c.as_name.ensures at c.in_ok-append_name.ensures.ok)

pub loop-name-preserved-in_ok-append_name : goal.loop-name-preserved-in_ok-append_name
loop-name-preserved-in_ok-append_name c =
    push-name c.in-Some.name c.loop-name.names c.next.new.self c.loop-name.text.items _ c.append_name.new.out.items _ c.loop-name.invariant
    c.in-Some.ensures c.in_ok-extend_from_slice.ensures.items (rw c.as_name.ensures at c.in_ok-append_name.ensures.ok)

pub returns : goal.returns
returns c =
    printed-names c.args.path.now c.loop-name.names c.args.text.now.items c.loop-name.text.items c.in_default.ensures.0
    (rw c.names-names.ensures at c.loop-name.invariant)
