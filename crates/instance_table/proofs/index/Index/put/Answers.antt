use Rattle.std.proofs.Common.{◌≡◌, ap, sym, ◌∙◌, refl, subst, IsSome, Some, None, cond}
use Rattle.std.specs.BTreeMap as tree
use Rattle.std.proofs.lemmas.Result.{on_ok_weaker}
use Rattle.std.specs.FinMap as map
use Rattle.std.specs.Ordering.{nat_cmp, eq_by_cmp}
use Rattle.file_watchers.proofs.Alone.{put-not-empty}
use Rattle.instance_table.proofs.Noted.{noted-put, row-added, row-is, row-none, row-some, rows-kept}
use Rattle.instance_table.proofs.index.Index.put.Goals as goal

pub returns-in-Some-clause-ok : goal.returns-in-Some-clause-ok
returns-in-Some-clause-ok c =
    let a = c.args.self.now in
    let there : tree.get nat_cmp a.watchers c.args.number ≡ Some c.in-Some.row.now = sym c.in-Some.ensures.value in
    let put = (c.get_mut.follows.holds c.put.new.self).3 (subst (λ o. IsSome o) (sym there) refl) in
    on_ok_weaker c.put.result (λ same.
    noted-put a (record a { watchers = c.get_mut.follows.lender c.put.new.self }) c.args.number (Some c.put.new.self) put.0 c.args.id c.args.watch
    (same ∙ ap (λ r. map.insert r c.args.id c.args.watch) (sym (row-some a c.args.number c.in-Some.row.now there)))) c.put.ensures.ok

pub returns-clause-ok : goal.returns-clause-ok
returns-clause-ok c =
    let a = c.args.self.now in
    let none : tree.get nat_cmp a.watchers c.args.number ≡ None = sym c.in_default.ensures.value in
    noted-put a (record a { watchers = c.insert.new.self; filter = c.add.new.self }) c.args.number (Some c.one.result)
    (λ n. c.in_ok-insert.ensures.updates.0 n
    ∙ ap (λ m. cond (eq_by_cmp nat_cmp c.args.number n) (Some c.one.result) (tree.get nat_cmp m n)) c.get_mut.follows.holds-at-none)
    c.args.id c.args.watch
    (c.one.ensures ∙ ap (λ r. map.insert r c.args.id c.args.watch) (sym (row-none a c.args.number none)))

pub returns-in-Some-clause-rows : goal.returns-in-Some-clause-rows
returns-in-Some-clause-rows c rows =
    let a = c.args.self.now in
    let there : tree.get nat_cmp a.watchers c.args.number ≡ Some c.in-Some.row.now = sym c.in-Some.ensures.value in
    let put = (c.get_mut.follows.holds c.put.new.self).3 (subst (λ o. IsSome o) (sym there) refl) in
    rows-kept a (record a { watchers = c.get_mut.follows.lender c.put.new.self }) c.args.number (Some c.put.new.self) put.0
    (λ n added. added) (λ row e. (rows c.args.number c.in-Some.row.now there).1)
    (row-is c.put.new.self (row-added c.put.result c.in-Some.row.now c.put.new.self c.args.id c.args.watch c.put.ensures.ok c.put.ensures.err
    (rows c.args.number c.in-Some.row.now there).0))
    rows

pub returns-clause-rows : goal.returns-clause-rows
returns-clause-rows c rows =
    let a = c.args.self.now in
    rows-kept a (record a { watchers = c.insert.new.self; filter = c.add.new.self }) c.args.number (Some c.one.result)
    (λ n. c.in_ok-insert.ensures.updates.0 n
    ∙ ap (λ m. cond (eq_by_cmp nat_cmp c.args.number n) (Some c.one.result) (tree.get nat_cmp m n)) c.get_mut.follows.holds-at-none)
    c.add.ensures.kept (λ row e. c.add.ensures.added)
    (row-is c.one.result (λ none. put-not-empty map.empty c.args.id c.args.watch (sym c.one.ensures ∙ none))) rows
