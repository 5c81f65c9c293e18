use Rattle.std.proofs.Common.{rules}
use Rattle.event_sinks.specs.declared.listener.Step.TheVariants as step
use Rattle.event_sinks.proofs.Hearing.{steps_sound}
use Rattle.event_sinks.proofs.listener.Listening.step.Goals as goal

pub returns-then-is_some-2-clause-sound : goal.returns-then-is_some-2-clause-sound
returns-then-is_some-2-clause-sound g c = steps_sound _ _ step.Took c.requires (c.in-Some.batch, search rules)

pub returns-else-is_some-2-clause-sound : goal.returns-else-is_some-2-clause-sound
returns-else-is_some-2-clause-sound g c = steps_sound _ _ step.Took c.requires (c.in-Some.batch, search rules)

pub put_batch-self-requires-after_bounds : goal.put_batch-self-requires-after_bounds
put_batch-self-requires-after_bounds c = search rules

pub returns-in_default-clause-sound : goal.returns-in_default-clause-sound
returns-in_default-clause-sound c = search rules
