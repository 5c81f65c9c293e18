use Rattle.std.proofs.Common.{ap, sym, ◌∙◌, subst}
use Rattle.std.proofs.lemmas.Bool.{OnTrue_at}
use Rattle.record_codec.specs.Records.{AreEvents, spelling}
use Rattle.shared_tree.specs.declared.pipe.Batch.{Batch}
use Rattle.event_sinks.proofs.Handing.{same_batch}
use Rattle.event_sinks.proofs.served.is_batch.Goals as goal

pub returns-then-is_at : goal.returns-then-is_at
returns-then-is_at c = λ b s.
    let at = c.is_at.ensures.0 c.if-is_at.true in (
      λ t.
          same_batch c.spellings_are_one.ensures b c.args.one.now c.args.instance c.args.place c.args.bytes.now s at.0
          at.1 (c.spells.ensures.bytes.0 t ∙ ap spelling c.as_slice.ensures)
          (subst AreEvents c.as_slice.ensures (OnTrue_at t c.spells.ensures.are_events)),
      λ e. c.spells.ensures.bytes.1 (s.bytes_are ∙ ap (λ (x : Batch). spelling x.records) e ∙ sym (ap spelling c.as_slice.ensures)),
    )
