use Rattle.event_rules.proofs.Moves.{notices-tied}
use Rattle.event_rules.proofs.Raising.{raised-tied}
use Rattle.event_rules.proofs.laws.cookies_tie_moves.Goals as goal

pub returns : goal.returns
returns c = record { told = notices-tied; raised = raised-tied }
