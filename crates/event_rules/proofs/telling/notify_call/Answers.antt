use Rattle.std.proofs.Common.{◌≡◌, OnOk, ap, subst, sym, ◌∙◌}
use Rattle.inode_table.specs.TableWorld.{world_of}
use Rattle.inode_table.specs.World.{look}
use Rattle.event_rules.specs.Raised.{heard}
use Rattle.event_rules.specs.Table.{move_told, swap_told}
use Rattle.event_rules.proofs.Moving.{moves-tell, swaps-tell, next-fits}
use Rattle.event_rules.proofs.telling.notify_call.Goals as goal

pub exchange-requires-clause-next : goal.exchange-requires-clause-next
exchange-requires-clause-next g c =
    next-fits (world_of c.args.ready.now.tree) c.args.ready.now.plan.call c.args.cookie (sym c.moves.ensures ∙ c.in-Exchange.is) c.requires.cookies

pub returns-in-Move : goal.returns-in-Move
returns-in-Move g c =
    let call = c.args.ready.now.plan.call in
    let old = c.at_path-old.ensures in
    let new = c.at_other_path.ensures in
    let watches = g.A.Audience.may_watch in
    subst (λ ns. OnOk c.rename.result (c.rename.new.told ≡ ns))
    ((λ i. heard (watches (old.audience i)) (move_told (look (world_of (old.tree i))) (old.names i) (new.names i) c.args.cookie))
    ∙ ap (heard (watches c.args.audience.now)) (sym (moves-tell (world_of c.args.ready.now.tree) call c.args.cookie (sym c.moves.ensures ∙ c.in-Move.is))))
    c.rename.ensures

pub returns-in-Exchange : goal.returns-in-Exchange
returns-in-Exchange g c =
    let call = c.args.ready.now.plan.call in
    let old = c.at_path-old-in-Exchange.ensures in
    let new = c.at_other_path-in-Exchange.ensures in
    let watches = g.A.Audience.may_watch in
    subst (λ ns. OnOk c.exchange.result (c.exchange.new.told ≡ ns))
    ((λ i. heard (watches (old.audience i)) (swap_told (look (world_of (old.tree i))) (old.names i) (new.names i) c.args.cookie))
    ∙ ap (heard (watches c.args.audience.now)) (sym (swaps-tell (world_of c.args.ready.now.tree) call c.args.cookie (sym c.moves.ensures ∙ c.in-Exchange.is))))
    c.exchange.ensures
