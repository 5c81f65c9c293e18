-- How a listener is ended from outside. No public clause cites this module.
use Rattle.std.specs.Prelude.{⊤}
use Rattle.event_sinks.specs.declared.listener.Cause.{Cause}
use Rattle.event_sinks.specs.declared.listener.Cause.TheVariants as cause

-- a cause that comes from outside
abbrev pub IsFromOutside : Cause → Type 0
IsFromOutside cause.Turns = ⊤
IsFromOutside cause.Given = ⊤
IsFromOutside _ = ⊥
