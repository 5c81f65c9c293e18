use Rattle.std.proofs.Common.{◌≡◌, ◌∙◌, Some, rules, sym}
use Rattle.shared_tree.specs.Pipes.{feed_of}
use Rattle.watchtree_storm.proofs.NextIds.{listens}
use Rattle.watchtree_storm.proofs.beginning.listen.Goals as goal

pub returns-clause-next : goal.returns-clause-next
returns-clause-next g c =
    let at : Some c.in-Some.feed ≡ feed_of c.in_ok-feed.field-0-0.reply c.args.slots = sym c.in-Some.is ∙ c.in_ok-feed.ensures.feed in
    (listens c.args.held.now.state c.open_piped.new.self.state c.call.new.self.state c.args.seat.now
    c.open_piped.new.seat c.call.new.seat c.args.slots c.in_ok-feed.field-0-0 c.in_ok-call.field-0 c.in-Some.feed
    c.in_ok-path.path c.in_ok-feed.ensures.ok at (search rules)
    (rw c.instance.ensures at c.in_ok-call.ensures.ok)).1

pub returns-clause-kept : goal.returns-clause-kept
returns-clause-kept g c =
    let at : Some c.in-Some.feed ≡ feed_of c.in_ok-feed.field-0-0.reply c.args.slots = sym c.in-Some.is ∙ c.in_ok-feed.ensures.feed in
    (listens c.args.held.now.state c.open_piped.new.self.state c.call.new.self.state c.args.seat.now
    c.open_piped.new.seat c.call.new.seat c.args.slots c.in_ok-feed.field-0-0 c.in_ok-call.field-0 c.in-Some.feed
    c.in_ok-path.path c.in_ok-feed.ensures.ok at (search rules)
    (rw c.instance.ensures at c.in_ok-call.ensures.ok)).2
