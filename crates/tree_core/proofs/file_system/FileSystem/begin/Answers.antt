use Rattle.tree_core.proofs.Serving.{attempted-begins}
use Rattle.tree_core.proofs.file_system.FileSystem.begin.Goals as goal

pub returns : goal.returns
returns c =
    attempted-begins c.args.self.now c.attempt.new.self c.args.call.now c.requires c.attempt.result c.answered.result
    c.attempt.ensures c.answered.ensures.begun c.answered.ensures.refused
