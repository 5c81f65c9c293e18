use Rattle.std.proofs.Common.{◌≡◌, ap, sym, ◌∙◌, refl, subst, IsSome, Some}
use Rattle.std.proofs.lemmas.Bool.{false≢true}
use Rattle.std.specs.BTreeMap as tree
use Rattle.std.specs.FinMap as map
use Rattle.std.specs.Ordering.{nat_cmp}
use Rattle.file_watchers.proofs.Alone.{put-not-empty}
use Rattle.instance_table.proofs.Noted.{none-noted, noted-put, row-is, row-some, rows-kept}
use Rattle.instance_table.proofs.index.Index.set.Goals as goal

pub unreachable-requires : goal.unreachable-requires
unreachable-requires c =
    false≢true (subst (λ o. IsSome o) (none-noted c.args.self.now c.args.number c.args.id (sym c.in_default.ensures.value)) c.requires)

pub set-requires : goal.set-requires
set-requires c =
    let there : tree.get nat_cmp c.args.self.now.watchers c.args.number ≡ Some c.in-Some.row.now = sym c.in-Some.ensures.value in
    subst (λ r. IsSome (map.get r c.args.id)) (row-some c.args.self.now c.args.number c.in-Some.row.now there) c.requires

pub returns-clause-noted : goal.returns-clause-noted
returns-clause-noted c =
    let a = c.args.self.now in
    let there : tree.get nat_cmp a.watchers c.args.number ≡ Some c.in-Some.row.now = sym c.in-Some.ensures.value in
    let put = (c.get_mut.follows.holds c.set.new.self).3 (subst (λ o. IsSome o) (sym there) refl) in
    noted-put a (record a { watchers = c.get_mut.follows.lender c.set.new.self }) c.args.number (Some c.set.new.self) put.0 c.args.id c.args.watch
    (c.set.ensures ∙ ap (λ r. map.insert r c.args.id c.args.watch) (sym (row-some a c.args.number c.in-Some.row.now there)))

pub returns-clause-rows : goal.returns-clause-rows
returns-clause-rows c rows =
    let a = c.args.self.now in
    let there : tree.get nat_cmp a.watchers c.args.number ≡ Some c.in-Some.row.now = sym c.in-Some.ensures.value in
    let put = (c.get_mut.follows.holds c.set.new.self).3 (subst (λ o. IsSome o) (sym there) refl) in
    rows-kept a (record a { watchers = c.get_mut.follows.lender c.set.new.self }) c.args.number (Some c.set.new.self) put.0
    (λ n marked. marked) (λ row e. (rows c.args.number c.in-Some.row.now there).1)
    (row-is c.set.new.self (λ none. put-not-empty c.in-Some.row.now c.args.id c.args.watch (sym c.set.ensures ∙ none))) rows
