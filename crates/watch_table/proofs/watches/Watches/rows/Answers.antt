use Rattle.std.proofs.Common.{◌≡◌, rules, map, sym, ap, ◌∙◌}
use Rattle.std.specs.Map.Iter.{deref_pair}
use Rattle.std.proofs.lemmas.Map.Iter.{iter_end}
use Rattle.watch_table.specs.Rows.{watch_rows}
use Rattle.watch_table.proofs.ByWd.{row_in, rows-by_wd}
use Rattle.watch_table.proofs.watches.Watches.rows.Goals as goal

pub returns-clause-rows : goal.returns-clause-rows
returns-clause-rows c =
    let e : map deref_pair c.loop-wd.yielded ≡ c.self.inside.by_wd.entries = search (rules, iter_end) in
    c.from_vec.ensures ∙ c.loop-wd.invariant.2 ∙ ap (map (row_in c.args.self.now)) e
    ∙ ap (λ w. map (row_in w) c.self.inside.by_wd.entries) (sym c.self.view_is)
    ∙ rows-by_wd c.self.inside c.self.invariant c.into_iter-wd-iterator.ensures.into_iter_gives.5
    ∙ ap watch_rows c.self.view_is
