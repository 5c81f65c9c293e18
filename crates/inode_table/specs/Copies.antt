-- What a copy of a node has: all but the capacity for its bytes. No public clause cites this module.
use Rattle.std.specs.Prelude.{◌≡◌}
use Rattle.inode_table.specs.declared.content.Content.{Content}
use Rattle.inode_table.specs.declared.node.Node.{Node}
use Rattle.inode_table.specs.Flat.{names_in}
use Rattle.inode_table.specs.Kept.{body_of}
use Rattle.inode_table.specs.Rows.{Body, bytes_in}

-- the same bytes, and the same names with the same keys
pub record IsBodyCopy (body copy : Body) : Type 0 where
  pub bytes : bytes_in copy ≡ bytes_in body
  pub names : names_in copy ≡ names_in body

abbrev pub IsContentCopy : Content → Content → Type 0
IsContentCopy content copy = IsBodyCopy (body_of content) (body_of copy)

pub record IsNodeCopy (node copy : Node) : Type 0 where
  pub number : copy.number ≡ node.number
  pub mode : copy.mode ≡ node.mode
  pub links : copy.links ≡ node.links
  pub content : IsContentCopy node.content copy.content
