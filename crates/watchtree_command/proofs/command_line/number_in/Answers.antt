use Rattle.std.proofs.Common.{◌≡◌, ◌∙◌, rules, option_map}
use Rattle.clap.specs.Words.{first_of, found_of, rows_of}
use Rattle.clap.proofs.WalkLemmas.{first_value-rows}
use Rattle.watchtree_command.proofs.command_line.number_in.Goals as goal

pub returns : goal.returns
returns c =
    let given : option_map (λ s. s.now) c.get_str.result ≡ first_of c.args.option.now (rows_of (found_of c.args.found.now)) =
    c.get_str.ensures ∙ first_value-rows (found_of c.args.found.now) c.args.option.now in
    rw (← given) (search rules)
