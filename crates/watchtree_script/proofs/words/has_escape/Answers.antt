use Rattle.std.proofs.Common.{◌∙◌}
use Rattle.std.specs.Str.{byte}
use Rattle.watchtree_script.proofs.PieceLemmas.{first-any}
use Rattle.watchtree_script.proofs.words.has_escape.Goals as goal

pub returns : goal.returns
returns c = c.is_some.ensures ∙ first-any (byte "%") c.args.word.now c.memchr.result c.memchr.ensures
