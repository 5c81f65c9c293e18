use Rattle.std.proofs.Common.{◌++◌, ◌∷◌, [], ◌∙◌, ap, reverse, subst, vec_len, arith}
use Rattle.inode_table.specs.Kept.{rows_of}
use Rattle.inode_table.proofs.FlatLemmas.{IsWalked, end-of, walk-end, walk-live, walk-start, walk-turn}
use Rattle.inode_table.proofs.table.flat.all_paths.Goals as goal

pub loop-path-init : goal.loop-path-init
loop-path-init c = walk-start (rows_of c.args.nodes.now) c.in_ok-found.found.items c.push.new.self.items c.requires c.in_ok-found.ensures.items
    (c.in_ok-push.ensures.items ∙ ap (λ es. es ++ (c.root.result, 0) ∷ []) c.in_ok-pending.ensures.items ∙ ap (λ p. (p, 0) ∷ []) c.root.ensures)

pub visit-requires : goal.visit-requires
visit-requires c =
    walk-live (rows_of c.args.nodes.now) c.loop-path.found.items c.loop-path.pending.items c.pop.new.self.items c.in-Some.path
    c.in-Some.key c.loop-path.invariant
    c.in-Some.ensures.items

pub loop-path-preserved : goal.loop-path-preserved
loop-path-preserved c =
    walk-turn (rows_of c.args.nodes.now) c.requires c.loop-path.found.items c.push-in-Some.new.self.items
    c.loop-path.pending.items c.pop.new.self.items c.visit.new.pending.items
    c.in-Some.path c.in-Some.key c.in_ok-number.number c.loop-path.invariant c.in-Some.ensures.items c.in_ok-number.ensures c.in_ok-push-2.ensures.items

pub loop-path-smaller : goal.loop-path-smaller
loop-path-smaller c =
    let more = c.in_ok-push-2.ensures.len in
    let fits = c.push-in-Some.new.self.ok.0 in
    omega (arith, more, fits)

pub returns : goal.returns
returns c =
    walk-end (rows_of c.args.nodes.now) c.loop-path.found.items
    (subst (λ es. IsWalked (rows_of c.args.nodes.now) c.loop-path.found.items (reverse es))
    (end-of c.loop-path.pending.items c.pop.new.self.items (vec_len c.loop-path.pending) c.in_default.ensures.cases.0
    c.in_default.ensures.items c.in_default.ensures.rest)
    c.loop-path.invariant)
