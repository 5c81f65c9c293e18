-- A copy of the nodes has the world of the table.
use Rattle.std.proofs.Common.{◌≡◌, ◌∙◌, ℕ, zero, suc, List, [], ◌∷◌, Option, Some, None, refl, sym, ap, get_or}
use Rattle.std.specs.List.{AllZip}
use Rattle.std.specs.Map.{lookup}
use Rattle.std.specs.Option.{option_map, option_and_then}
use Rattle.slab.specs.Slab.{Slab, get, IsSlotClone, IsSlabClone}
use Rattle.inode_table.specs.declared.node.Node.{Node}
use Rattle.inode_table.specs.Copies.{IsNodeCopy}
use Rattle.inode_table.specs.Flat.{names_in}
use Rattle.inode_table.specs.Kept.{rows_of, row_of, IsTable}
use Rattle.inode_table.specs.Rows.{Body, File, Names, Label, Row, What, child, what, shown, key_in, same_label}
use Rattle.inode_table.specs.Tree.{TableValue}
use Rattle.inode_table.specs.TableWorld.{world_in}
use Rattle.inode_table.specs.Walk.{walk}
use Rattle.inode_table.proofs.ChangeLemmas.{IsTable-same}
use Rattle.inode_table.proofs.RowsLemmas.{row-rows_of}
use Rattle.inode_table.proofs.StandsLemmas.{Stands-same}
use Rattle.inode_table.proofs.TableWorldLemmas.{Stands-world_of, world_of-is}

slots-at : (xs ys : List (Option Node)) → AllZip (IsSlotClone IsNodeCopy) xs ys → (k : ℕ) → IsSlotClone IsNodeCopy (get_or xs k None) (get_or ys k None)
slots-at [] [] all k = refl
slots-at [] (y ∷ ys) all k = absurd all
slots-at (x ∷ xs) [] all k = absurd all
slots-at (x ∷ xs) (y ∷ ys) all zero = all.0
slots-at (x ∷ xs) (y ∷ ys) all (suc k) = slots-at xs ys all.1 k

keys-names : (b : Body) (l : Label) → key_in b l ≡ lookup (same_label l) (names_in b)
keys-names (File bytes reserved) l = refl
keys-names (Names es) l = refl

abbrev shown_in : Option Node → Option What
shown_in o = option_map shown (option_map row_of o)

abbrev child_in : Label → Option Node → Option ℕ
child_in l o = option_and_then (λ (r : Row). key_in r.body l) (option_map row_of o)

shown-slot : (o copy : Option Node) → IsSlotClone IsNodeCopy o copy → shown_in copy ≡ shown_in o
shown-slot None copy e = ap shown_in e
shown-slot (Some n) None same = absurd same
shown-slot (Some n) (Some m) same =
    λ i. Some (record { number = same.number i; mode = same.mode i; links = same.links i; bytes = same.content.bytes i })

child-slot : (l : Label) (o copy : Option Node) → IsSlotClone IsNodeCopy o copy → child_in l copy ≡ child_in l o
child-slot l None copy e = ap (child_in l) e
child-slot l (Some n) None same = absurd same
child-slot l (Some n) (Some m) same =
    keys-names (row_of m).body l ∙ ap (lookup (same_label l)) same.content.names ∙ sym (keys-names (row_of n).body l)

module _ (nodes copy : Slab Node) (same : IsSlabClone IsNodeCopy nodes copy) where
  what-copy : (k : ℕ) → what (rows_of copy) k ≡ what (rows_of nodes) k
  what-copy k =
      ap (option_map shown) (row-rows_of copy k) ∙ shown-slot (get nodes k) (get copy k) (slots-at nodes.slots copy.slots same.slots k)
      ∙ sym (ap (option_map shown) (row-rows_of nodes k))

  child-copy : (k : ℕ) (l : Label) → child (rows_of copy) k l ≡ child (rows_of nodes) k l
  child-copy k l =
      ap (option_and_then (λ (r : Row). key_in r.body l)) (row-rows_of copy k)
      ∙ child-slot l (get nodes k) (get copy k) (slots-at nodes.slots copy.slots same.slots k)
      ∙ sym (ap (option_and_then (λ (r : Row). key_in r.body l)) (row-rows_of nodes k))

  -- the copy is a table
  pub IsTable-copy : IsTable (rows_of nodes) → IsTable (rows_of copy)
  IsTable-copy table = IsTable-same (rows_of nodes) (rows_of copy) table child-copy what-copy

  -- with the same world
  pub world-copy : IsTable (rows_of nodes) → world_in (rows_of copy) ≡ world_in (rows_of nodes)
  world-copy table =
      let old : TableValue = record { rows = rows_of nodes; room = 0 } in
      let new : TableValue = record { rows = rows_of copy; room = 0 } in
      world_of-is {t = new} (Stands-same {old = old} (IsTable-copy table) (λ p i. walk (λ k l. child-copy k l i) 0 p) what-copy (Stands-world_of old table))
