use Rattle.std.proofs.Common.{◌≡◌, ◌++◌, ◌+◌, length, take, drop, sym, ap, ◌∙◌, arith}
use Rattle.std.proofs.lemmas.Bool.{eqb-false}
use Rattle.std.proofs.lemmas.List.{take_at}
use Rattle.inode_table.proofs.BytesLemmas.{written-is}
use Rattle.inode_table.proofs.content.write_at.Goals as goal

pub returns : goal.returns
returns c =
    let len : length c.overwrite.new.bytes ≡ c.fill_up.new.bytes.len = omega (arith, c.overwrite.auto.bytes, c.as_mut_slice.ensures.len) in
    take_at c.overwrite.new.bytes (drop (length c.overwrite.new.bytes) c.fill_up.new.bytes.items) c.fill_up.new.bytes.len len
    ∙ c.overwrite.ensures
    ∙ ap (λ x. take c.args.offset x ++ (c.args.new.now ++ drop (c.args.offset + length c.args.new.now) x)) (c.as_mut_slice.ensures.value ∙ c.fill_up.ensures)
    ∙ written-is c.args.offset c.args.new.now c.args.bytes.now.items (eqb-false _ _ (sym c.is_empty.ensures ∙ c.if-is_empty.false))
