use Rattle.std.proofs.Common.{sym}
use Rattle.event_sinks.specs.Audited.{outcomes}
use Rattle.event_sinks.proofs.Handing.{entry_none, entry_some}
use Rattle.event_sinks.proofs.served.hand_entry.Goals as goal

pub returns-in-Some : goal.returns-in-Some
returns-in-Some g c =
    entry_some c.args.cut (outcomes c.args.ended.now) c.args.entry.now c.args.place c.args.tracks.now c.hand.new.tracks
    c.in-Some.number c.in-Some.bytes.now (sym c.in-Some.ensures) c.hand.ensures

pub returns-in_default : goal.returns-in_default
returns-in_default g c =
    entry_none c.args.cut (outcomes c.args.ended.now) c.args.entry.now c.args.place c.args.tracks.now c.args.tracks.now (sym c.in_default.ensures)
