use Rattle.std.proofs.Common.{◌==◌, ◌&&◌, ◌||◌, not, take, sym, ap, ◌∙◌}
use Rattle.std.specs.Int.Bits.{and_zero_r}
use Rattle.std.proofs.lemmas.List.Folds.{list_any_more}
use Rattle.event_rules.specs.declared.notice.Notice.{Notice}
use Rattle.event_rules.specs.Raised.{ends_watch, is_oneshot, told_number}
use Rattle.event_rules.specs.Staging.{ended_before}
use Rattle.event_rules.proofs.ended.EndedWatches.of.Goals as goal

pub loop-notice-init : goal.loop-notice-init
loop-notice-init c watch = ap (λ n. not (n == 0) && is_oneshot watch) (and_zero_r watch.mask)

pub loop-notice-preserved : goal.loop-notice-preserved
loop-notice-preserved c watch =
    let ns = c.args.notices.now in
    let k = c.loop-notice.notice-index in
    let n = c.notice-item.result in
    let f = λ (n : Notice). (told_number n == c.args.number) && ends_watch n watch in
    c.and-ended.ensures watch ∙ ap (λ b. b || f n) (c.loop-notice.invariant watch)
    ∙ ap (λ m. ended_before (take k ns) c.args.number watch || f m) c.notice-item.is
    ∙ sym (list_any_more f ns k n c.loop-notice-test.true)
