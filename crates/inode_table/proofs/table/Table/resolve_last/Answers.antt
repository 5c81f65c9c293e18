use Rattle.std.proofs.Common.{sym, subst}
use Rattle.inode_table.specs.Found.{found_of}
use Rattle.inode_table.specs.Refusals.{parent_of}
use Rattle.inode_table.specs.Resolution.{IsFound}
use Rattle.inode_table.proofs.FindLemmas.{live-there}
use Rattle.inode_table.proofs.ResolutionLemmas.{found-at}
use Rattle.inode_table.proofs.table.Table.resolve_last.Goals as goal

pub resolve_in-requires : goal.resolve_in-requires
resolve_in-requires c =
    record { there = live-there c.args.self.now c.rows_law.ensures.table (parent_of c.args.path.now) c.args.directory c.requires.there }

pub returns-clause-resolved : goal.returns-clause-resolved
returns-clause-resolved c =
    let t = c.args.self.now in
    let parent = parent_of c.args.path.now in
    record {
      here =
          subst (λ p. IsFound t p (found_of c.resolve_in.result)) (sym c.requires.last) (c.resolve_in.ensures parent c.requires.there);
      directory =
          subst (IsFound t parent) (sym c.at.ensures)
          (found-at t c.rows_law.ensures.table parent c.args.directory c.of.result c.requires.there c.of.ensures);
    }
