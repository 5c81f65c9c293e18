use Rattle.std.proofs.Common.{◌≡◌, ◌≤◌, ◌<◌, Some, subst, sym, ap, ◌∙◌, ℕ}
use Rattle.std.specs.Option.{option_map, option_map_or}
use Rattle.slab.specs.Slab.{Slab, get}
use Rattle.inode_table.specs.declared.node.Node.{Node}
use Rattle.inode_table.specs.Rows.{Row, reserved, reserved_in}
use Rattle.inode_table.specs.Kept.{row_of, rows_of, body_of}
use Rattle.inode_table.proofs.RowsLemmas.{row-rows_of, OnOk-map, OnErr-map, child-with_value_same, what-with_value_same}
use Rattle.inode_table.proofs.RowsLemmas.{reserved-with_value, rows_of-with_value_same}
use Rattle.inode_table.proofs.node.reserve_bytes.Goals as goal

pub returns-clause-child : goal.returns-clause-child
returns-clause-child c = child-with_value_same c.args.nodes.now c.args.key c.index_mut.result.now _ c.index_mut.ensures.value c.reserve.ensures.names

pub returns-clause-what : goal.returns-clause-what
returns-clause-what c =
    what-with_value_same c.args.nodes.now c.args.key c.index_mut.result.now _ c.index_mut.ensures.value
    (λ i. record {
      number = c.index_mut.result.now.number;
      mode = c.index_mut.result.now.mode;
      links = c.index_mut.result.now.links;
      bytes = c.reserve.ensures.bytes i;
    })

pub returns-clause-reserved : goal.returns-clause-reserved
returns-clause-reserved c =
    OnOk-map c.reserve.result
    (λ enough. subst (λ (n : ℕ). c.args.len ≤ n)
    (sym (reserved-with_value c.args.nodes.now c.args.key c.index_mut.result.now _ c.index_mut.ensures.value)) enough)
    c.reserve.ensures.ok

pub returns-clause-err : goal.returns-clause-err
returns-clause-err c =
    OnErr-map c.reserve.result
    (λ same. rows_of-with_value_same c.args.nodes.now c.args.key c.index_mut.result.now _ c.index_mut.ensures.value
    (λ i. record { number = c.index_mut.result.now.number; mode = c.index_mut.result.now.mode; links = c.index_mut.result.now.links; body = same i }))
    c.reserve.ensures.err

here : (s : Slab Node) (k : ℕ) (n : Node) → get s k ≡ Some n → reserved (rows_of s) k ≡ reserved_in (body_of n.content)
here s k n found = ap (λ o. option_map_or (λ (r : Row). reserved_in r.body) o 0) (row-rows_of s k ∙ ap (option_map row_of) found)

pub returns-clause-enough : goal.returns-clause-enough
returns-clause-enough c within =
    OnOk-map c.reserve.result
    (λ same. rows_of-with_value_same c.args.nodes.now c.args.key c.index_mut.result.now _ c.index_mut.ensures.value
    (λ i. record { number = c.index_mut.result.now.number; mode = c.index_mut.result.now.mode; links = c.index_mut.result.now.links; body = same i }))
    (c.reserve.ensures.enough (subst (λ (n : ℕ). c.args.len ≤ n) (here c.args.nodes.now c.args.key c.index_mut.result.now c.index_mut.ensures.value) within))

pub returns-clause-short : goal.returns-clause-short
returns-clause-short c =
    OnErr-map c.reserve.result
    (λ less. subst (λ (n : ℕ). n < c.args.len) (sym (here c.args.nodes.now c.args.key c.index_mut.result.now c.index_mut.ensures.value)) less)
    c.reserve.ensures.short
