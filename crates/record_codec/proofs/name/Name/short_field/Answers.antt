use Rattle.std.proofs.Common.{◌≡◌, ℕ, ◌<◌, ◌-◌, ◌++◌, List, length, Option, Some, None, ap, ◌∙◌}
use Rattle.std.specs.Prelude.{replicate, IfSome, OnSome}
use denote.Ref.{Bor}
use Rattle.record_codec.specs.Records.{name_field}
use Rattle.record_codec.proofs.PaddedLemmas.{short-field}
use Rattle.record_codec.proofs.name.Name.short_field.Goals as goal

of-padded : (kept name : List ℕ) (r : Option (Bor (List ℕ))) → kept ≡ name → OnSome r (length kept < 16)
    → IfSome r (λ field. field.now ≡ kept ++ replicate (16 - length kept) 0) → IfSome r (λ field. field.now ≡ name_field (Some name))
of-padded kept name None e h is = tt
of-padded kept name (Some field) e h is = is ∙ short-field kept h ∙ ap (λ (t : List ℕ). name_field (Some t)) e

pub returns-clause-field : goal.returns-clause-field
returns-clause-field c = of-padded _ c.args.self.now c.padded.result c.self.view_is c.padded.ensures.fewer c.padded.ensures.padded
