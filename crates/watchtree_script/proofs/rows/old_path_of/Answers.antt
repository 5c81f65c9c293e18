use Rattle.watchtree_script.proofs.PathLemmas.{error-behind}
use Rattle.watchtree_script.proofs.rows.old_path_of.Goals as goal

pub returns-in-Err-PathMemory-clause-err : goal.returns-in-Err-PathMemory-clause-err
returns-in-Err-PathMemory-clause-err c =
    error-behind c.args.old.now c.args.new.now c.in-Err-PathMemory.field-0 c.in-Err-PathMemory.field-0-is
    c.in-Err-PathMemory.ensures c.error_behind.result c.error_behind.ensures
