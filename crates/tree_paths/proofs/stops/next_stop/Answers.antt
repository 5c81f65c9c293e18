use Rattle.std.proofs.Common.{refl, arith}
use Rattle.tree_paths.proofs.StopLemmas.{first-stop, stops-behind}
use Rattle.tree_paths.proofs.stops.next_stop.Goals as goal

pub returns-clause-within : goal.returns-clause-within
returns-clause-within c = (first-stop c.args.text.now c.args.stops _ c.requires (omega (arith, c.if-stops-eq0.false)) refl).within

pub returns-clause-front : goal.returns-clause-front
returns-clause-front c = (first-stop c.args.text.now c.args.stops _ c.requires (omega (arith, c.if-stops-eq0.false)) refl).front

pub returns-clause-end : goal.returns-clause-end
returns-clause-end c = (first-stop c.args.text.now c.args.stops _ c.requires (omega (arith, c.if-stops-eq0.false)) refl).end

pub returns-clause-behind : goal.returns-clause-behind
returns-clause-behind c = stops-behind c.args.text.now c.args.stops _ c.requires (omega (arith, c.if-stops-eq0.false)) refl
