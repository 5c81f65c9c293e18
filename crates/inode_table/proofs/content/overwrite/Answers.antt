use Rattle.std.proofs.Common.{take, drop, ◌++◌, ◌+◌, ap, ◌∙◌, append_assoc, length, refl, arith}
use Rattle.std.proofs.lemmas.List.{take_all}
use Rattle.std.proofs.lemmas.Slice.{put_mid-paste}
use Rattle.inode_table.proofs.content.overwrite.Goals as goal

pub returns : goal.returns
returns c =
    put_mid-paste c.args.offset _ c.args.bytes.now c.copy_from_slice.new.self c.args.new.now
    (length c.args.new.now) c.copy_from_slice.ensures.after (omega arith) refl
    ∙ append_assoc (take c.args.offset c.args.bytes.now) (take (length c.args.new.now) c.args.new.now)
    (drop (c.args.offset + length c.args.new.now) c.args.bytes.now)
    ∙ ap (λ x. take c.args.offset c.args.bytes.now ++ (x ++ drop (c.args.offset + length c.args.new.now) c.args.bytes.now))
    (take_all (length c.args.new.now) c.args.new.now (omega arith))
