-- Codes of values, by which proofs distinguish them. No public clause cites this module.
use Rattle.std.specs.Coded.{Coded, coded_ℕ}
use Rattle.std.specs.FinMap as finmap
use Rattle.instance_table.specs.contracts.instance.Instance as instance
use Rattle.instance_table.specs.Instances.{Instances}

abbrev pub instances_code : Coded Instances
instances_code = finmap.code coded_ℕ instance.the_row.coded
