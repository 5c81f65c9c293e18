-- Files as rows.
use Rattle.std.specs.Prelude.{ℕ}
use Rattle.inode_table.specs.declared.rows.FileRow.{FileRow}
use Rattle.inode_table.specs.World.{File}

-- a file, with its number
abbrev pub file_row : ℕ × File → FileRow
file_row e = record { number = e.0; kind = e.1.kind; mode = e.1.mode; bytes = e.1.bytes }
