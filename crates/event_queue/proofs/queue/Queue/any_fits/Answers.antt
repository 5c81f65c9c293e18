use Rattle.std.proofs.Common.{ap, ◌∙◌}
use Rattle.std.specs.Prelude.{ℕ, nat_le, nat_lt}
use Rattle.event_queue.specs.Backlogs.{Backlog}
use Rattle.event_queue.specs.Reads.{fitting}
use Rattle.event_queue.proofs.ReadLemmas.{any_fits, none_fits}
use Rattle.event_queue.proofs.queue.Queue.any_fits.Goals as goal

pub returns : goal.returns
returns c =
    ap (λ (k : ℕ). nat_le k c.args.bytes) c.record_len.ensures.len
    ∙ any_fits c.args.bytes c.self.inside.records.items c.in-Some.oldest.now c.in-Some.ensures
    ∙ ap (λ (b : Backlog). nat_lt 0 (fitting c.args.bytes b.waiting)) c.self.view_is

pub returns-in_default : goal.returns-in_default
returns-in_default c =
    none_fits c.args.bytes c.self.inside.records.items c.in_default.ensures
    ∙ ap (λ (b : Backlog). nat_lt 0 (fitting c.args.bytes b.waiting)) c.self.view_is
