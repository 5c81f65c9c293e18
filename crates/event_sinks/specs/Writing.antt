-- What contracts see of a sink that writes lines.
use Rattle.std.specs.Prelude.{ℕ, Bool, List, Option}
use Rattle.record_codec.specs.declared.event.Event.{Event}
use Rattle.record_codec.specs.declared.port.Port.{Port}
use Rattle.record_codec.specs.Ports.{inner_of, faults_of}
use Rattle.event_sinks.specs.Lines.{line_of, closing_line}
use Rattle.event_sinks.specs.Pages.{Page}
use Rattle.event_sinks.specs.declared.line.LineSink.{LineSink}

-- the records that it took, the oldest first
abbrev pub records_of : {W : Type 0} → LineSink W → List Event
records_of sink = sink.records.items

-- whether it is open
abbrev pub is_open_of : {W : Type 0} → LineSink W → Bool
is_open_of sink = sink.is_open

-- the port that it writes to
abbrev pub port_of : {W : Type 0} → LineSink W → Port W
port_of sink = sink.port

-- what is known of what it wrote, where `contents` says what a writer holds
abbrev pub page_of : {W : Type 0} → (W → Option (List ℕ)) → LineSink W → Page
page_of contents sink =
    record {
      bytes = contents (inner_of sink.port);
      faults = faults_of sink.port;
      line = line_of;
      closing = closing_line;
    }
