use Rattle.inode_table.specs.Changes.{with_len}
use Rattle.inode_table.proofs.RowsLemmas.{child-with_value_same, ChangesWhat-with_value}
use Rattle.inode_table.proofs.node.set_len.Goals as goal

pub returns-clause-child : goal.returns-clause-child
returns-clause-child c = child-with_value_same c.args.nodes.now c.args.key c.index_mut.result.now _ c.index_mut.ensures.value c.set_len.ensures.names

pub returns-clause-what : goal.returns-clause-what
returns-clause-what c =
    ChangesWhat-with_value c.args.nodes.now c.args.key c.index_mut.result.now _ (with_len c.args.len) c.index_mut.ensures.value
    (λ i. record {
      number = c.index_mut.result.now.number;
      mode = c.index_mut.result.now.mode;
      links = c.index_mut.result.now.links;
      bytes = c.set_len.ensures.bytes i;
    })
