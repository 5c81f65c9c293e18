use Rattle.std.proofs.Common.{◌∙◌, ap, refl}
use Rattle.inode_table.specs.Kept.{body_of, row_of}
use Rattle.inode_table.specs.Flat.{names_in}
use Rattle.inode_table.proofs.FlatLemmas.{named-directory, named-file, ordered-directory, ordered-file, put-directory, put-file, row-node}
use Rattle.inode_table.proofs.table.flat.visit.Goals.{in-Directory+in_ok-put_off, in_default-content}
use Rattle.inode_table.proofs.table.flat.visit.Goals as goal

pub returns : goal.returns
returns c =
    let node = c.in-Some.node.now in
    let b = body_of node.content in
    let here = row-node c.args.nodes.now c.args.key node c.in-Some.ensures in
    let path = c.args.path.now in
    let was = c.args.pending.now.items in
    let is = c.match-node.pending.items in
    elim c.match-node.branch [
      | in-Directory+in_ok-put_off w ↦
          let names = w.in-Directory.names in
          let body = ap body_of w.in-Directory.is in
          record {
            row = row_of node;
            here = here;
            numbered = refl;
            ordered = ordered-directory b names body w.in_ok-put_off.ensures.ordered;
            names = named-directory b names body w.in_ok-put_off.ensures.found;
            put_off = put-directory path b was is names body (ap (λ v. v.items) w.pending-is ∙ w.in_ok-put_off.ensures.put);
          }
      | in_default-content w ↦
          let none = ap (λ d. names_in (body_of d)) w.in_default-content.is in
          record {
            row = row_of node;
            here = here;
            numbered = refl;
            ordered = ordered-file b none;
            names = named-file b none;
            put_off = put-file path b was is none (ap (λ v. v.items) w.pending-is);
          }
    ]
