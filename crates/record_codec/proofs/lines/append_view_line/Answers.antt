use Rattle.std.proofs.Common.{ap, arith}
use Rattle.std.specs.Option.{option_copied}
use Rattle.record_codec.specs.Views.{event_seen}
use Rattle.record_codec.proofs.RecordLemmas.{is_name-length}
use Rattle.record_codec.proofs.LineLemmas.{line-none, line-some}
use Rattle.record_codec.proofs.lines.append_view_line.Goals as goal

pub returns-in_ok-reserve-in-None-clause-ok : goal.returns-in_ok-reserve-in-None-clause-ok
returns-in_ok-reserve-in-None-clause-ok c =
    let line = line-none (event_seen c.args.view.now) c.args.out.now.items (ap option_copied c.in-None.is) in
    cc (c.in_ok-reserve-in-None.ensures.items, c.add_numbers.ensures.items)

pub returns-in_ok-reserve-in-Some-clause-ok : goal.returns-in_ok-reserve-in-Some-clause-ok
returns-in_ok-reserve-in-Some-clause-ok c =
    let line = line-some (event_seen c.args.view.now) c.args.out.now.items c.in-Some.name.now (ap option_copied c.in-Some.is) in
    cc (c.in_ok-reserve-in-Some.ensures.items, c.add_numbers-in-Some.ensures.items, c.push_reserved.ensures.items)

pub overflow_mul-name : goal.overflow_mul-name
overflow_mul-name c = let h = is_name-length c.in-Some.name.now (c.args.view.now.named c.in-Some.name c.in-Some.is) in omega (arith, h)

pub overflow_add-name : goal.overflow_add-name
overflow_add-name c = let h = is_name-length c.in-Some.name.now (c.args.view.now.named c.in-Some.name c.in-Some.is) in omega (arith, h)
