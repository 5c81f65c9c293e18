use Rattle.std.proofs.Common.{sym, ap, ◌∙◌, w32}
use Rattle.std.specs.BTreeMap as tree
use Rattle.std.specs.Ordering.{int_cmp}
use Rattle.std.proofs.lemmas.Int.{to_z-of_z}
use Rattle.watch_table.specs.Watching.{watched_by}
use Rattle.watch_table.proofs.Indexed.{watched_by-got}
use Rattle.watch_table.proofs.watches.Watches.watched_by.Goals as goal

pub returns : goal.returns
returns c =
    c.copied.ensures ∙ c.get.ensures.value
    ∙ ap (tree.get int_cmp c.self.inside.by_wd) (to_z-of_z w32 c.args.wd c.ranges.wd)
    ∙ sym (watched_by-got c.self.inside c.self.invariant c.args.wd)
    ∙ ap (λ w. watched_by w c.args.wd) c.self.view_is
