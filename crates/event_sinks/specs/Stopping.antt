-- What contracts see of a sink that stops another.
use Rattle.std.specs.Prelude.{◌≡◌, ◌<◌, ◌≤◌, ℕ, length, Err}
use Rattle.event_sinks.specs.declared.fault.SinkFault.TheVariants.{Full}
use Rattle.event_sinks.specs.declared.stop.StopSink.{StopSink}
use Rattle.event_sinks.specs.Sinks.{MayAnswer}

abbrev pub inner_of : {S : Type 0} → StopSink S → S
inner_of sink = sink.inner

-- how many more records it passes on
abbrev pub left_of : {S : Type 0} → StopSink S → ℕ
left_of sink = sink.left

-- where it took as many records as are left it is full; until then, what the other sink may answer
abbrev pub StopsAt : ℕ → MayAnswer → MayAnswer
StopsAt left inner before next answer =
    (left ≤ length before → answer ≡ Err Full) × (length before < left → inner before next answer)
