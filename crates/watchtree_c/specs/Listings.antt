-- The names in a directory, as C gets them.
use Rattle.std.specs.Prelude.{◌≡◌, ℕ, ℤ, List, [], ◌∷◌, ◌++◌, length}
use Rattle.std.specs.List.{flat_map}
use Rattle.tree_ops.specs.declared.answer.Answer.TheVariants as answer
use Rattle.tree_core.specs.declared.reply.Reply.{Reply}
use Rattle.tree_core.specs.declared.reply.Reply.TheVariants as reply
use Rattle.watchtree_c.specs.Answers.{count_number, overlaid, reply_number}

-- a name with the zero byte that ends it for C
abbrev pub ended : List ℕ → List ℕ
ended name = name ++ 0 ∷ []

-- the names of a reply, by how many bytes they are, are put over the front of C's; or a reply without names is
-- answered by its number
abbrev pub IsListed : Reply → ℤ → List ℕ → List ℕ → Type 0
IsListed (reply.File (answer.Names names)) number out filled =
    (number ≡ count_number (length (flat_map ended names))) × (filled ≡ overlaid (flat_map ended names) out)
IsListed r number out filled = (number ≡ reply_number r) × (filled ≡ out)

-- what C asks for is answered by the number of such a reply, and by the names
pub record Lists (M : Reply → Type 0) (number : ℤ) (out filled : List ℕ) : Type 0 where
  pub r : Reply
  pub made : M r
  pub is_listed : IsListed r number out filled
