use Rattle.std.proofs.Common.{◌≡◌, ◌-◌, length, get_or, sym, subst, ap, ◌∙◌, arith, rules}
use Rattle.std.specs.Prelude.{Err}
use Rattle.std.specs.Option.{option_copied}
use Rattle.std.proofs.lemmas.List.{get_or-map}
use Rattle.std.proofs.lemmas.List.Sorted.{answers_always}
use Rattle.std.proofs.lemmas.Option.{get_or_from_slice_get}
use Rattle.instance_table.specs.declared.opened.Opened.{Opened}
use Rattle.file_watchers.specs.Ids.{IsIndex}
use Rattle.instance_table.specs.Opened.{ids_of}
use Rattle.file_watchers.proofs.Rising.{found-row, length-keys, index-last}
use Rattle.instance_table.proofs.opened.find_row.Goals as goal

pub returns-in-Some : goal.returns-in-Some
returns-in-Some c =
    found-row (λ (o : Opened). o.id) c.args.rows.now c.args.id c.binary_search_by_key.result c.requires c.binary_search_by_key.ensures.bound
    (c.binary_search_by_key.ensures.position (λ o. o.id) (answers_always _ _ _ (λ f a r g called. search rules)))

pub returns-in_default : goal.returns-in_default
returns-in_default c =
    let rows = c.args.rows.now in
    let same : length (ids_of rows) ≡ length rows = length-keys (λ (o : Opened). o.id) rows in
    let under = c.if-id-last.false in
    subst (λ n. IsIndex (ids_of rows) c.args.id (Err n)) same
    (index-last (ids_of rows) c.args.id c.requires (λ there.
    let last : get_or rows (length rows - 1) c.in-Some.last.now ≡ c.in-Some.last.now =
    get_or_from_slice_get rows (length rows - 1) c.in-Some.last.now _ (sym c.last.ensures.value ∙ ap option_copied c.in-Some.is) in
    let number : get_or (ids_of rows) (length (ids_of rows) - 1) 0 ≡ c.in-Some.last.now.id =
    ap (λ n. get_or (ids_of rows) (n - 1) 0) same
    ∙ get_or-map (λ (o : Opened). o.id) rows (length rows - 1) c.in-Some.last.now 0 (omega arith) ∙ ap (λ (o : Opened). o.id) last in
    omega (arith, number, under)))
