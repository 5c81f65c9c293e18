use Rattle.std.proofs.Common.{rules, ◌≡◌, ◌∷◌, [], false}
use Rattle.std.specs.List.{list_any}
use Rattle.watchtree_script.specs.Commands.{path_and_mode}
use Rattle.watchtree_script.specs.Words.{is_escaped}
use Rattle.watchtree_script.proofs.WordLemmas.{plain_first}
use Rattle.watchtree_script.proofs.rows.Parser.path_and_mode.Goals as goal

pub returns-in_err-mode : goal.returns-in_err-mode
unfolding path_and_mode
returns-in_err-mode c =
    let words = c.args.self.now.words in
    let none : list_any is_escaped words ≡ false = c.args.self.now.plain c.if-self.false in
    let is : words ≡ c.in_ok-path.path.now ∷ c.in_ok-path.mode.now ∷ [] = search rules in
    let path = plain_first words c.in_ok-path.path.now c.in_ok-path.mode.now none is in
    search (rules, path)

pub returns-in_err-path-2 : goal.returns-in_err-path-2
unfolding path_and_mode
returns-in_err-path-2 c =
    let words = c.args.self.now.words in
    let none : list_any is_escaped words ≡ false = c.args.self.now.plain c.if-self.false in
    let is : words ≡ c.in_ok-path.path.now ∷ c.in_ok-path.mode.now ∷ [] = search rules in
    let path = plain_first words c.in_ok-path.path.now c.in_ok-path.mode.now none is in
    search (rules, path)

pub returns : goal.returns
unfolding path_and_mode
returns c =
    let words = c.args.self.now.words in
    let none : list_any is_escaped words ≡ false = c.args.self.now.plain c.if-self.false in
    let is : words ≡ c.in_ok-path.path.now ∷ c.in_ok-path.mode.now ∷ [] = search rules in
    let path = plain_first words c.in_ok-path.path.now c.in_ok-path.mode.now none is in
    search (rules, path)
