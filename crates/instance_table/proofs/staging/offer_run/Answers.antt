use Rattle.std.proofs.Common.{◌≡◌, ◌++◌, ◌∷◌, [], true, eqb, get_or, refl, sym, ap, ◌∙◌, arith}
use Rattle.event_rules.specs.declared.staged.StagedEvent.{StagedEvent}
use Rattle.instance_table.proofs.Heard.{queue-more, run-more}
use Rattle.instance_table.proofs.staging.offer_run.Goals as goal

pub loop-heard-init : goal.loop-heard-init
loop-heard-init c = record {
  queue = (c.args.first.event ∷ [], refl, c.offer_one.ensures.queue);
  events = c.offer_one.ensures.events;
  fewer = omega arith;
}

pub loop-heard-preserved : goal.loop-heard-preserved
loop-heard-preserved c =
    let was = c.loop-heard.invariant.queue in
    let next = c.in-Some-pop_front.heard in
    let seen : c.in-Some.heard.now ≡ next = c.in-Some.ensures.lookup ∙ ap (λ hs. get_or hs 0 c.in-Some.heard.now) c.in-Some-pop_front.ensures.items in
    let same : eqb next.id c.args.first.id ≡ true =
    Rattle.std.proofs.lemmas.Bool.eq-eqb next.id c.args.first.id (ap (λ (h : StagedEvent). h.id) (sym seen) ∙ c.if-heard-id.true) in
    let len = c.pop_front.ensures.len in
    let fewer = c.loop-heard.invariant.fewer in
    record {
      queue = (
        was.0 ++ next.event ∷ [],
        run-more c.args.first.id was.0 next (c.args.first ∷ c.args.events.now.items) c.loop-heard.events.items
            c.pop_front.new.self.items same was.1 c.in-Some-pop_front.ensures.items,
        queue-more c.args.queue.now c.loop-heard.queue c.offer_one-in-loop-heard.new.queue was.0 next.event was.2 c.offer_one-in-loop-heard.ensures.queue,
      );
      events = λ h. c.offer_one-in-loop-heard.ensures.events (c.loop-heard.invariant.events h);
      fewer = omega (arith, len, fewer);
    }
