use Rattle.std.proofs.Common.{◌∙◌, [], rules}
use Rattle.shared_tree.specs.Seats.{seated}
use Rattle.watchtree_storm.specs.Storm.{first_part, second_part}
use Rattle.watchtree_storm.proofs.Turns.{whole-of-log, writing-of-log}
use Rattle.watchtree_storm.proofs.beginning.ReadyStorm.run.Goals as goal

pub returns-clause-logs : goal.returns-clause-logs
returns-clause-logs g c =
    let passes = g.G.Gate.may_pass c.args.gate.now in
    let turns = g.G.Gate.most_turns c.args.gate.now in (
      c.join.result,
      c.join-2.result,
      c.join-3.result,
      search rules,
      c.join.ensures.log.0 ∙ c.in-Some.ensures.main.0,
      whole-of-log c.join.result c.in-Some.ended-1-given.0.0.1.0 c.join.ensures.log c.in-Some.ensures.main.1,
      writing-of-log passes turns first_part c.args.calls (seated 2 []) c.join-2.result c.in-Some.ended-1-given.0.0.1.1
          c.join-2.ensures.log c.in-Some.ensures.first,
      writing-of-log passes turns second_part c.args.calls (seated 3 []) c.join-3.result c.in-Some.ended-1-given.0.0.1.2
          c.join-3.ensures.log c.in-Some.ensures.second,
    )
