use Rattle.std.proofs.Common.{◌<◌, length, List, Option, subst, arith}
use Rattle.tree_paths.specs.Paths.{names_of}
use Rattle.inode_table.specs.Recent.{Known, IsKnown}
use Rattle.inode_table.proofs.SlotLemmas.{find-known}
use Rattle.inode_table.proofs.TreeLemmas.{same_some}
use Rattle.inode_table.proofs.recent_directory.Recent.find.Goals as goal

pub returns : goal.returns
returns c k e =
    let slot = c.index-slot.result.now in
    let within : c.args.at < length c.self.inside.slots.items = omega (arith, c.if-at-len.false, c.len.ensures) in
    let known = find-known c.self.inside.time c.self.inside.slots.items c.args.at slot c.args.text.now within
    c.index-slot.ensures c.if-slot-self.false c.if-slot-text.false c.if-ne.ensures in
    let there = subst (λ (v : List (Option Known)). IsKnown v (names_of c.args.text.now) slot.key) c.self.view_is known in
    subst (IsKnown c.args.self.now (names_of c.args.text.now)) (same_some slot.key k e) there
