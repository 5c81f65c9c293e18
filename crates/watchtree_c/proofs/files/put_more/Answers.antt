use Rattle.std.proofs.Common.{◌<◌, ◌^◌, length, ◌∙◌, ap, arith}
use Rattle.std.proofs.lemmas.List.{take_rest}
use Rattle.watchtree_c.specs.Answers.{overlaid}
use Rattle.watchtree_c.proofs.Listing.{more}
use Rattle.watchtree_c.proofs.files.put_more.Goals as goal

pub returns-clause-bytes : goal.returns-clause-bytes
returns-clause-bytes c = λ front old is before.
    let now = c.args.out.now in
    let start = c.min-start.result in
    let fits : length c.args.out.now < 2 ^ 64 = omega arith in
    more front c.args.bytes.now old now c.put.new.out c.args.len start is c.min-start.ensures fits before
    (c.put.ensures ∙ ap (overlaid c.args.bytes.now) (take_rest now start))
