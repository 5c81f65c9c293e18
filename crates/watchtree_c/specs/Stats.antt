-- The status of what is at a path, as C gets it.
use Rattle.std.specs.Prelude.{◌≡◌, ℕ, ℤ, Option, Some, None}
use Rattle.inode_table.specs.declared.seen.Kind.{Kind}
use Rattle.inode_table.specs.declared.seen.Kind.TheVariants.{Regular, Directory}
use Rattle.tree_ops.specs.declared.answer.Answer.TheVariants as answer
use Rattle.tree_core.specs.declared.reply.Reply.{Reply}
use Rattle.tree_core.specs.declared.reply.Reply.TheVariants as reply
use Rattle.watchtree_c.specs.declared.files.Stat.{Stat}
use Rattle.watchtree_c.specs.Answers.{reply_number}

abbrev pub directory_number : Kind → ℕ
directory_number Regular = 0
directory_number Directory = 1

-- the status that a reply has, if any
abbrev pub stat_of : Reply → Option Stat
stat_of (reply.File (answer.Stat number kind mode links size)) =
    Some (record { links = links; size = size; number = number; mode = mode; is_directory = directory_number kind })
stat_of _ = None

-- the new status if there is one, and the old one otherwise
abbrev pub told_or : Option Stat → Stat → Stat
told_or (Some stat) old = stat
told_or None old = old

-- what C asks for is answered by the number of such a reply, and by its status
pub record Tells (M : Reply → Type 0) (number : ℤ) (out told : Stat) : Type 0 where
  pub r : Reply
  pub made : M r
  pub is_number : number ≡ reply_number r
  pub is_told : told ≡ told_or (stat_of r) out
