use Rattle.tree_core.specs.declared.call.Call.TheVariants as call
use Rattle.tree_core.proofs.Pumping.{pump-taken}
use Rattle.tree_core.proofs.Serving.{attempted-begins}
use Rattle.tree_core.proofs.file_system.FileSystem.begin_pump.Goals as goal

pub returns-clause-begun : goal.returns-clause-begun
returns-clause-begun c =
    let m = c.args.self.now in
    attempted-begins m m (call.Pump c.args.id c.args.bytes) c.requires c.read.result c.answered.result c.read.ensures.begun
    c.answered.ensures.begun c.answered.ensures.refused

pub returns-clause-records : goal.returns-clause-records
returns-clause-records c =
    pump-taken c.args.self.now c.args.id c.args.bytes c.read.result c.answered.result c.read.ensures.begun c.read.ensures.records
    c.answered.ensures.begun c.answered.ensures.refused
