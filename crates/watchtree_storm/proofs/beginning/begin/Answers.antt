use Rattle.std.proofs.Common.{◌≡◌, ◌∙◌, ◌+◌, ℕ, ap, rules}
use Rattle.tree_ops.specs.declared.call.FileCall.TheVariants as file
use Rattle.watchtree_storm.proofs.Listening.{begins-at}
use Rattle.watchtree_storm.proofs.NextIds.{first-next, next}
use Rattle.watchtree_storm.proofs.Turns.{begins}
use Rattle.watchtree_storm.proofs.beginning.begin.Goals as goal

pub returns-clause-begun : goal.returns-clause-begun
returns-clause-begun g c =
    let first : next c.call.new.self.state ≡ 1 =
    first-next c.in_ok-held.held c.full.result c.call.new.self.state c.in_ok-main.main c.call.new.seat
    (file.Mkdir c.in_ok-path.path 493) c.in_ok-call.field-0 c.in_ok-held.ensures.held c.in_ok-call.ensures.ok in
    let second : next c.listen.new.held.state ≡ 2 = c.in_ok-one.ensures.next ∙ ap (λ (n : ℕ). n + 1) first in
    begins (next c.call.new.self.state) (next c.listen.new.held.state) c.in_ok-path.path c.in_ok-call.field-0
    c.in_ok-main.main c.call.new.seat c.listen.new.seat c.listen-2.new.seat first second (search rules)
    (search rules) c.in_ok-call.ensures.ok.kept c.in_ok-one.ensures.kept c.in_ok-other.ensures.kept

pub returns-clause-listeners : goal.returns-clause-listeners
returns-clause-listeners g c =
    let list = g.S.Sink.record_list in
    let is_open = g.S.Sink.is_open in
    let slots = c.args.calls + 2 in
    let first : next c.call.new.self.state ≡ 1 =
    first-next c.in_ok-held.held c.full.result c.call.new.self.state c.in_ok-main.main c.call.new.seat
    (file.Mkdir c.in_ok-path.path 493) c.in_ok-call.field-0 c.in_ok-held.ensures.held c.in_ok-call.ensures.ok in
    let second : next c.listen.new.held.state ≡ 2 = c.in_ok-one.ensures.next ∙ ap (λ (n : ℕ). n + 1) first in (
      begins-at list is_open 1 (next c.call.new.self.state) 1 slots c.args.one c.in_ok-one.one first c.in_ok-one.ensures.begins,
      begins-at list is_open 2 (next c.listen.new.held.state) 2 slots c.args.other c.in_ok-other.other second c.in_ok-other.ensures.begins,
    )

pub returns-clause-seats : goal.returns-clause-seats
returns-clause-seats g c = search rules
