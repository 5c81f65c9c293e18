use Rattle.std.proofs.Common.{ap, rules, sym, true, ◌&&◌, ◌==◌, ◌||◌, ◌∙◌, ◌≡◌}
use Rattle.std.proofs.lemmas.Bool.{eq-eqb}
use Rattle.event_rules.specs.Raised.{ends_watch, told_number}
use Rattle.event_rules.specs.Staging.{is_ended}
use Rattle.event_rules.proofs.Earlier.{ended-told}
use Rattle.event_rules.proofs.ended.EndedWatches.and.Goals as goal

pub returns-in-Told : goal.returns-in-Told
returns-in-Told c watch =
    let e = c.args.self.now in
    let n = c.args.notice.now in
    let here : (told_number n == c.args.number) ≡ true = eq-eqb (told_number n) c.args.number (sym c.number.ensures ∙ c.if-number.false) in
    ended-told e c.in-Told.number c.in-Told.bits c.in-Told.cookie c.in-Told.name watch
    ∙ ap (λ m. is_ended e watch || ends_watch m watch) (sym c.in-Told.is)
    ∙ ap (λ b. is_ended e watch || (b && ends_watch n watch)) (sym here)

pub returns-in-Gone : goal.returns-in-Gone
returns-in-Gone c = search rules
