use Rattle.std.proofs.Common.{ap, ◌∙◌, refl}
use Rattle.std.specs.Int.{w32}
use Rattle.std.proofs.lemmas.Int.{to_z-of_z}
use Rattle.event_queue.specs.Backlogs.{after_offer}
use Rattle.watch_table.specs.Watching.{removed}
use Rattle.event_rules.specs.Raised.{ignored}
use Rattle.instance_table.specs.declared.instance.Instance.{Instance}
use Rattle.instance_table.specs.Instances.{changed, unwatching}
use Rattle.instance_table.proofs.Indexed.{changed-twice}
use Rattle.instance_table.proofs.instances.Instances.unwatch.Goals as goal

pub returns : goal.returns
returns c =
    let same = to_z-of_z w32 c.args.wd c.ranges.wd in
    let first : Instance → Instance = λ i. record i { watches = removed i.watches c.args.wd } in
    let second : Instance → Instance = λ i. record i { queue = after_offer i.queue (ignored c.args.wd) } in
    c.offer.ensures
    ∙ ap (λ e. changed c.end_watch.new.self c.args.id (λ i. record i { queue = after_offer i.queue e })) (c.ignored.ensures ∙ ap ignored same)
    ∙ ap (λ m. changed m c.args.id second)
    (c.end_watch.ensures ∙ ap (λ z. changed c.args.self.now c.args.id (λ i. record i { watches = removed i.watches z })) same)
    ∙ changed-twice c.args.self.now c.args.id first second (unwatching c.args.wd) (λ i. refl)
