-- The exit status of the program where it ends before its work is done.
use Rattle.std.specs.Prelude.{ℕ}
use Rattle.watchtree_command.specs.declared.fault.Fault.{Fault}
use Rattle.watchtree_command.specs.declared.fault.Fault.TheVariants.{CommandLine, Memory, Run, Settle}
use Rattle.event_sinks.specs.declared.audit.SettleFault.{SettleFault}
use Rattle.event_sinks.specs.declared.audit.SettleFault.TheVariants as settle
use Rattle.watchtree_script.specs.declared.fault.RunFault.{RunFault}
use Rattle.watchtree_script.specs.declared.fault.RunFault.TheVariants as run

-- the book of a storm was not settled
abbrev pub unsettled : ℕ
unsettled = 1

-- what was given to the program is wrong
abbrev pub bad_input : ℕ
bad_input = 2

-- a read or a write failed, or memory is spent
abbrev pub failed : ℕ
failed = 3

abbrev pub status_of_run : RunFault → ℕ
status_of_run (run.Script line fault) = bad_input
status_of_run run.TooLong = bad_input
status_of_run run.Read = failed
status_of_run run.Write = failed
status_of_run run.Memory = failed

abbrev pub status_of_settle : SettleFault → ℕ
status_of_settle settle.Memory = failed
status_of_settle _ = unsettled

abbrev pub status_of : Fault → ℕ
status_of CommandLine = bad_input
status_of Memory = failed
status_of (Run fault) = status_of_run fault
status_of (Settle fault) = status_of_settle fault
