use Rattle.watchtree_script.proofs.Asked.{lines_ask_for_script_calls}
use Rattle.watchtree_script.proofs.laws.lines_ask_for_script_calls.Goals as goal

pub returns : goal.returns
returns c = lines_ask_for_script_calls c.parsed_names_are_names.ensures
