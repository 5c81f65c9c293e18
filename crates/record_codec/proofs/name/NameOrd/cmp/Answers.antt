use Rattle.std.proofs.Common.{◌∙◌}
use Rattle.record_codec.proofs.FrontLemmas.{fronts_agree, fronts_decide}
use Rattle.record_codec.proofs.name.NameOrd.cmp.Goals as goal

pub returns-then-front-other_front : goal.returns-then-front-other_front
returns-then-front-other_front c =
    c.cmp.ensures
    ∙ fronts_decide _ _ _ _ _ _ c.self.view_is c.other.view_is c.self.invariant.name c.other.invariant.name c.front-front.ensures
    c.front-other_front.ensures c.if-front-other_front.true

pub returns-then-front-eq0 : goal.returns-then-front-eq0
returns-then-front-eq0 c =
    fronts_agree _ _ _ _ _ _ c.self.view_is c.other.view_is c.self.invariant.name c.other.invariant.name c.front-front.ensures
    c.front-other_front.ensures c.if-front-other_front.false c.if-front-eq0.true
