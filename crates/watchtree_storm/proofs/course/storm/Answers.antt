use Rattle.std.proofs.Common.{◌≡◌, true}
use Rattle.watchtree_storm.proofs.Sinks.{last-of, front-of}
use Rattle.watchtree_storm.proofs.course.storm.Goals as goal

pub run-requires-clause-is_open : goal.run-requires-clause-is_open
run-requires-clause-is_open g c κs within =
    let front =
    front-of (λ s. (g.dyn-1.0.entry s.vtable).1.is_open s.value ≡ true) c.args.sinks.items _ c.in-Some-Some.other
    c.in-Some-Some.ensures.items c.requires.is_open in (
      last-of (λ s. (g.dyn-1.0.entry s.vtable).1.is_open s.value ≡ true) _ _ c.in-Some-Some.one
          c.in-Some-Some.ensures'.items front,
      last-of (λ s. (g.dyn-1.0.entry s.vtable).1.is_open s.value ≡ true) c.args.sinks.items _ c.in-Some-Some.other
          c.in-Some-Some.ensures.items c.requires.is_open,
    )
