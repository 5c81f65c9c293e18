use Rattle.std.proofs.Common.{◌≡◌, ◌++◌, true, take}
use Rattle.std.specs.Prelude.{flat_map}
use Rattle.event_sinks.specs.Pages.{Gains}
use Rattle.event_sinks.specs.Sinks.{Foretells}
use Rattle.event_sinks.proofs.listener.put_batch.Given as goal

abbrev pub invariant-loop-event : goal.invariant-loop-event
invariant-loop-event g l = record {
  open_still : g.S.Sink.is_open l.sink ≡ true;
  so_far : g.S.Sink.record_list l.sink ≡ g.S.Sink.record_list l.initial.sink ++ take l.event-index l.event-items;
  foretold : Foretells (g.S.Sink.may_answer l.initial.sink) (take l.event-index l.event-items) (g.S.Sink.may_answer l.sink);
  gained : Gains (g.S.Sink.page l.initial.sink) (flat_map (g.S.Sink.page l.initial.sink).line (take l.event-index l.event-items)) (g.S.Sink.page l.sink);
}
