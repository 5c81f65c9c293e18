use Rattle.std.proofs.Common.{rules, ◌≡◌, ◌≢◌}
use Rattle.clap.specs.Words.{kind_of}
use Rattle.clap.specs.declared.error.kind.ErrorKind.TheVariants as kind
use Rattle.watchtree_command.specs.declared.fault.Fault.TheVariants as fault
use Rattle.watchtree_command.proofs.Taken.{taken, refused}
use Rattle.watchtree_command.proofs.command_line.invocation_from.Goals as goal

pub returns-in-Ok-clause-asks : goal.returns-in-Ok-clause-asks
returns-in-Ok-clause-asks c =
    taken _ _ c.in-Ok.matches _ c.in_ok-command.ensures (search rules) c.in-Ok.ensures.kinds c.in-Ok.ensures.matches c.invocation_in.ensures.asks

pub returns-in-Err-clause-asks : goal.returns-in-Err-clause-asks
returns-in-Err-clause-asks c =
    let memory : kind_of c.in-Err.error ≡ kind.OutOfMemory → c.fault_by.result ≡ fault.Memory = search rules in
    let other : kind_of c.in-Err.error ≢ kind.OutOfMemory → c.fault_by.result ≡ fault.CommandLine = search rules in
    refused _ _ (kind_of c.in-Err.error) kind.OutOfMemory c.fault_by.result c.in_ok-command.ensures c.in-Err.ensures.kinds memory other
