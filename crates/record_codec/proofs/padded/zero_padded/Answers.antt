use Rattle.std.proofs.Common.{◌++◌, List, ℕ, length, ap, ◌∙◌}
use Rattle.std.proofs.lemmas.List.{drop-replicate}
use Rattle.record_codec.proofs.padded.zero_padded.Goals as goal

pub returns : goal.returns
returns c =
    c.put_short.ensures ∙ ap (λ (t : List ℕ). c.args.bytes.now ++ t) (drop-replicate (length c.args.bytes.now) 30 0)
