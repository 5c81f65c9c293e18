-- What a listener that ended by the end batch wrote as lines.
use Rattle.std.proofs.Common.{◌≡◌, ℕ, ◌∙◌, sym, ap, subst, arith, List, [], ◌++◌, length}
use Rattle.std.specs.Prelude.{Some, Option, flat_map}
use Rattle.std.specs.Io.KnownBytes.{Appends}
use Rattle.record_codec.specs.declared.event.Event.{Event}
use Rattle.record_codec.specs.Ports.{faults_of, inner_of}
use Rattle.shared_tree.specs.declared.pipe.Batch.{Batch}
use Rattle.shared_tree.specs.Handed.{records_of}
use Rattle.event_sinks.specs.declared.line.LineSink.{LineSink}
use Rattle.event_sinks.specs.declared.listener.Cause.{Cause}
use Rattle.event_sinks.specs.declared.listener.Cause.TheVariants.{Last}
use Rattle.event_sinks.specs.Lines.{closing_line, line_of}
use Rattle.event_sinks.specs.Pages.{UnfailingTextsAreWhole, Writes}
use Rattle.event_sinks.specs.Writing as writing
use Rattle.event_sinks.specs.Writing.{page_of, port_of}

module _ {W : Type 0} (contents : W → Option (List ℕ)) (law : UnfailingTextsAreWhole) (old new : LineSink W) (handed : List Batch) where
  whole_at : writing.records_of old ≡ [] → faults_of (port_of old) ≡ 0
      → Writes writing.records_of (page_of contents) old (records_of handed) new (Some Last)
      → faults_of (port_of new) ≡ 0
      → Appends (contents (inner_of (port_of old))) (contents (inner_of (port_of new)))
      (flat_map line_of (records_of handed) ++ closing_line (length (records_of handed)))
  whole_at empty begun w none =
      let last = w.0 in
      let taken : writing.records_of last ≡ records_of handed = w.1.0 ∙ ap (λ (r : List Event). r ++ records_of handed) empty in
      let count : length (writing.records_of last) ≡ length (records_of handed) = ap length taken in
      let text =
      law (page_of contents old) (page_of contents last) (page_of contents new) (records_of handed)
      (length (writing.records_of last)) w.1.1 w.2.1 (none ∙ sym begun) (omega (arith, begun)) in
      subst
      (λ (n : ℕ).
      Appends (contents (inner_of (port_of old))) (contents (inner_of (port_of new)))
      (flat_map line_of (records_of handed) ++ closing_line n))
      count text

  pub whole : (writer : W) (cause : Cause) → inner_of (port_of old) ≡ writer → writing.records_of old ≡ []
      → faults_of (port_of old) ≡ 0
      → Writes writing.records_of (page_of contents) old (records_of handed) new (Some cause) → cause ≡ Last
      → faults_of (port_of new) ≡ 0
      → Appends (contents writer) (contents (inner_of (port_of new))) (flat_map line_of (records_of handed) ++ closing_line (length (records_of handed)))
  whole writer cause at empty begun w is none =
      subst
      (λ (x : W).
      Appends (contents x) (contents (inner_of (port_of new)))
      (flat_map line_of (records_of handed) ++ closing_line (length (records_of handed))))
      at
      (whole_at empty begun
      (subst (λ (c : Cause). Writes writing.records_of (page_of contents) old (records_of handed) new (Some c))
      is w)
      none)
