use Rattle.std.proofs.Common.{◌≡◌, ◌∙◌, [], rules}
use Rattle.shared_tree.specs.Seats.{seated}
use Rattle.watchtree_storm.specs.Storm.{first_part, part_of, second_part}
use Rattle.watchtree_storm.proofs.Listening.{ran-as}
use Rattle.watchtree_storm.proofs.Turns.{number-closed, wrote-as}
use Rattle.watchtree_storm.proofs.threads.fn.run_four.scope.Given.{Over}
use Rattle.watchtree_storm.proofs.threads.fn.run_four.scope.Goals as goal

gate-1 : (g : Over) (c : goal.In_ok-second g) → c.in-Ok-Ok-Ok-Ok.one.promise.gate.value ≡ c.captures.gate.now
gate-1 g c = search rules

listener-1 : (g : Over) (c : goal.In_ok-second g) → c.in-Ok-Ok-Ok-Ok.one.promise.listener.value ≡ c.captures.one
listener-1 g c = search rules

gate-2 : (g : Over) (c : goal.In_ok-second g) → c.in-Ok-Ok-Ok-Ok.other.promise.gate.value ≡ c.captures.gate.now
gate-2 g c = search rules

listener-2 : (g : Over) (c : goal.In_ok-second g) → c.in-Ok-Ok-Ok-Ok.other.promise.listener.value ≡ c.captures.other
listener-2 g c = search rules

gate-3 : (g : Over) (c : goal.In_ok-second g) → c.in-Ok-Ok-Ok-Ok.first.promise.gate.value ≡ c.captures.gate.now
gate-3 g c = search rules

part-3 : (g : Over) (c : goal.In_ok-second g) → part_of c.in-Ok-Ok-Ok-Ok.first.promise.writer ≡ first_part
part-3 g c = search rules

calls-3 : (g : Over) (c : goal.In_ok-second g) → c.in-Ok-Ok-Ok-Ok.first.promise.calls ≡ c.captures.calls
calls-3 g c = search rules

seat-3 : (g : Over) (c : goal.In_ok-second g) → c.in-Ok-Ok-Ok-Ok.first.promise.seat.value ≡ seated 2 []
seat-3 g c = search rules

gate-4 : (g : Over) (c : goal.In_ok-second g) → c.in-Ok-Ok-Ok-Ok.second.promise.gate.value ≡ c.captures.gate.now
gate-4 g c = search rules

part-4 : (g : Over) (c : goal.In_ok-second g) → part_of c.in-Ok-Ok-Ok-Ok.second.promise.writer ≡ second_part
part-4 g c = search rules

calls-4 : (g : Over) (c : goal.In_ok-second g) → c.in-Ok-Ok-Ok-Ok.second.promise.calls ≡ c.captures.calls
calls-4 g c = search rules

seat-4 : (g : Over) (c : goal.In_ok-second g) → c.in-Ok-Ok-Ok-Ok.second.promise.seat.value ≡ seated 3 []
seat-4 g c = search rules

pub returns : goal.returns
returns g c =
    let list = g.S.Sink.record_list in
    let passes = g.G.Gate.may_pass in
    let turns = g.G.Gate.most_turns in
    let gate = c.captures.gate.now in
    let calls = c.captures.calls in
    let given = c.in-Ok-Ok-Ok-Ok in
    let closing = c.close_both-main.ensures in
    record {
      one =
          ran-as list g.S.Sink.is_open g.S.Sink.page passes turns given.one.promise.gate.value gate
          given.one.promise.listener.value c.captures.one c.in_ok-one.field-0 (gate-1 g c) (listener-1 g c)
          c.in_ok-one.ensures;
      other =
          ran-as list g.S.Sink.is_open g.S.Sink.page passes turns given.other.promise.gate.value gate
          given.other.promise.listener.value c.captures.other c.in_ok-other.field-0 (gate-2 g c) (listener-2 g c)
          c.in_ok-other.ensures;
      main = (number-closed c.captures.main c.close_both-main.result closing ∙ c.requires.main.0, (c.captures.main, c.requires.main.1, closing));
      first =
          wrote-as passes turns given.first.promise.gate.value gate (part_of given.first.promise.writer) first_part
          given.first.promise.calls calls given.first.promise.seat.value (seated 2 []) c.in_ok-first.field-0
          (gate-3 g c) (part-3 g c) (calls-3 g c) (seat-3 g c) c.in_ok-first.ensures;
      second =
          wrote-as passes turns given.second.promise.gate.value gate (part_of given.second.promise.writer) second_part
          given.second.promise.calls calls given.second.promise.seat.value (seated 3 []) c.in_ok-second.field-0
          (gate-4 g c) (part-4 g c) (calls-4 g c) (seat-4 g c) c.in_ok-second.ensures;
    }
