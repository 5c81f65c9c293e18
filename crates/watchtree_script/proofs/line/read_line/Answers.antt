use Rattle.std.proofs.Common.{◌∙◌, sym}
use Rattle.watchtree_script.proofs.WordLemmas.{words-left}
use Rattle.watchtree_script.proofs.line.read_line.Goals as goal

pub new-requires : goal.new-requires
new-requires c = λ none.
    words-left c.args.line.bytes.now c.new-words.result c.next_word.new.self c.next_word.result c.new-words.ensures c.next_word.ensures
    (sym c.requires.escape ∙ none)
