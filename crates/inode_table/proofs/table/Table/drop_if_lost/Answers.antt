use Rattle.std.proofs.Common.{◌≡◌, Some, IsSome, sym, ap, ◌∙◌, subst}
use Rattle.std.specs.Option.{option_map}
use Rattle.inode_table.specs.Count.{IsCount}
use Rattle.inode_table.specs.Rows.{What, row_under, shown}
use Rattle.inode_table.specs.Kept.{row_of}
use Rattle.inode_table.specs.Tree.{at, what_at}
use Rattle.inode_table.specs.World.{without_lost}
use Rattle.inode_table.specs.Stands.{Stands}
use Rattle.inode_table.specs.TableWorld.{number_of}
use Rattle.inode_table.proofs.SeenLemmas.{is_value, keep-linked, drop-lost}
use Rattle.inode_table.proofs.TableWorldLemmas.{numbered}
use Rattle.inode_table.proofs.table.Table.drop_if_lost.Goals as goal

pub node-requires : goal.node-requires
node-requires c = subst (λ k. IsSome (number_of c.args.self.now (Some k))) (sym c.of.ensures) (numbered c.args.self.now c.args.key c.requires.there)

pub drop_node_at-requires-clause-lost : goal.drop_node_at-requires-clause-lost
drop_node_at-requires-clause-lost c p to =
    let v = shown (row_of c.node.result.now) in
    let is = ap (option_map shown) (ap (row_under c.args.self.now.rows) (sym c.of.ensures) ∙ c.node.ensures) in
    subst (IsCount (λ q. at c.args.self.now q ≡ Some c.args.key)) c.if-node-eq0.true (c.rows_law.ensures.table.links c.args.key v is) p to

pub returns-then-node-eq0-clause-world : goal.returns-then-node-eq0-clause-world
returns-then-node-eq0-clause-world c w stands =
    let v = is_value (what_at c.args.self.now c.args.key) c.requires.there in
    let number : number_of c.args.self.now (Some c.args.key) ≡ Some v.0.number = ap (option_map (λ (u : What). u.number)) v.1 in
    subst (λ o. Stands c.drop_node_at.new.self (without_lost w o)) (sym number)
    (drop-lost stands c.args.key v.0 v.1 c.node.result.now.links
    (ap (λ o. option_map (λ (u : What). u.links) (option_map shown o)) (ap (row_under c.args.self.now.rows) (sym c.of.ensures) ∙ c.node.ensures))
    c.drop_node_at.new.self c.if-node-eq0.true (c.drop_node_at.ensures.world w v.0 stands v.1))

pub returns-else-node-eq0-clause-world : goal.returns-else-node-eq0-clause-world
returns-else-node-eq0-clause-world c w stands =
    let v = is_value (what_at c.args.self.now c.args.key) c.requires.there in
    let number : number_of c.args.self.now (Some c.args.key) ≡ Some v.0.number = ap (option_map (λ (u : What). u.number)) v.1 in
    subst (λ o. Stands c.args.self.now (without_lost w o)) (sym number)
    (keep-linked stands c.args.key v.0 v.1 c.node.result.now.links
    (ap (λ o. option_map (λ (u : What). u.links) (option_map shown o)) (ap (row_under c.args.self.now.rows) (sym c.of.ensures) ∙ c.node.ensures))
    c.if-node-eq0.false)
