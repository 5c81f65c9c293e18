use Rattle.std.proofs.Common.{◌≡◌, ◌-◌, length, get_or, sym, ap, ◌∙◌, arith}
use Rattle.std.proofs.lemmas.Option.{get_or_from_slice_get}
use Rattle.std.specs.Option.{option_copied}
use Rattle.file_watchers.proofs.Rising.{found, index-last}
use Rattle.file_watchers.proofs.ids.index_of.Goals as goal

pub returns-in-Some : goal.returns-in-Some
returns-in-Some c = found c.args.ids.now c.args.id c.binary_search.result c.requires c.binary_search.ensures.position

pub returns-in_default : goal.returns-in_default
returns-in_default c =
    let xs = c.args.ids.now in
    let last : get_or xs (length xs - 1) 0 ≡ c.in-Some.last.now =
    get_or_from_slice_get xs (length xs - 1) c.in-Some.last.now 0 (sym c.last.ensures.value ∙ ap option_copied c.in-Some.is) in
    let under = c.if-id-last.false in
    index-last xs c.args.id c.requires (λ there. omega (arith, last, under))
