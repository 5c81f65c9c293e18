use Rattle.std.proofs.Common.{subst, sym}
use Rattle.record_codec.specs.Records.{AreEvents}
use Rattle.instance_table.proofs.Waiting.{offered-fits}
use Rattle.instance_table.proofs.staging.offer_one.Goals as goal

pub returns-clause-events : goal.returns-clause-events
returns-clause-events c h = subst (λ q. AreEvents q.waiting) (sym c.offer.ensures.queue) (offered-fits c.args.queue.now c.args.event c.fits.ensures h)
