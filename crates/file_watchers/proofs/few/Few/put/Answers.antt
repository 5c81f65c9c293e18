use Rattle.std.proofs.Common.{refl, ap, sym, ◌∙◌, length, take, arith}
use Rattle.std.proofs.lemmas.List.{length-set}
use Rattle.std.specs.FinMap as finmap
use Rattle.file_watchers.specs.Watchers.{WatchMap}
use Rattle.file_watchers.proofs.Fews.{few-are-put, few-length, few-put, few-set}
use Rattle.file_watchers.proofs.Zipped.{watchers-absent_in, watchers-keys}
use Rattle.file_watchers.proofs.few.Few.put.Goals as goal

pub returns-then-self-clause-others : goal.returns-then-self-clause-others
returns-then-self-clause-others g c h =
    let n = c.self.inside.len in
    watchers-absent_in (take n c.self.inside.ids) (take n c.self.inside.watches) c.self.invariant.3 refl c.self.view_is
    c.in-Err.index c.args.id c.in-Err.ensures

pub returns-then-self-clause-full : goal.returns-then-self-clause-full
returns-then-self-clause-full g c h =
    let n = c.self.inside.len in
    let ids = take n c.self.inside.ids in
    let keys = sym (watchers-keys ids (take n c.self.inside.watches) c.self.invariant.3) ∙ ap (λ (m : WatchMap). finmap.keys m) c.self.view_is in
    let count = few-length g.row.N n c.self.inside.ids c.self.inside.watches c.self.invariant in
    let same = ap length keys in
    let full = c.if-self.true in
    omega (arith, count, same, full)

pub invariant_of-self-in-Err : goal.invariant_of-self-in-Err
invariant_of-self-in-Err g c =
    let few = c.self.inside in
    let i = c.in-Err.index in
    let other = c.if-self.false in
    let at-most = c.self.invariant.0 in (
      omega (arith, at-most, other),
      length-set c.copy_within.new.self i c.args.id ∙ c.copy_within.ensures.len ∙ c.self.invariant.1,
      length-set c.copy_within-in-Err.new.self i c.args.watch ∙ c.copy_within-in-Err.ensures.len ∙ c.self.invariant.2,
      few-are-put g.row.N few.len few.ids few.watches c.self.invariant i c.args.id c.args.watch (omega (arith, at-most, other)) c.in-Err.ensures
          c.copy_within.new.self c.copy_within-in-Err.new.self c.copy_within.ensures.after c.copy_within-in-Err.ensures.after,
    )

pub returns-in-Ok-clause-put : goal.returns-in-Ok-clause-put
returns-in-Ok-clause-put g c h =
    let few = c.self.inside in
    few-set g.row.N few.len few.ids few.watches c.self.invariant c.in-Ok.index c.args.id c.in-Ok.ensures c.args.watch
    ∙ ap (λ (m : WatchMap). finmap.insert m c.args.id c.args.watch) c.self.view_is

pub returns-else-self-clause-put : goal.returns-else-self-clause-put
returns-else-self-clause-put g c h =
    let few = c.self.inside in
    let other = c.if-self.false in
    let at-most = c.self.invariant.0 in
    few-put g.row.N few.len few.ids few.watches c.self.invariant c.in-Err.index c.args.id c.args.watch (omega (arith, at-most, other)) c.in-Err.ensures
    c.copy_within.new.self c.copy_within-in-Err.new.self c.copy_within.ensures.after c.copy_within-in-Err.ensures.after
    ∙ ap (λ (m : WatchMap). finmap.insert m c.args.id c.args.watch) c.self.view_is
