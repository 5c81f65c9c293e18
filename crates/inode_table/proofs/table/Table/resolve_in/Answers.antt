use Rattle.std.proofs.Common.{◌++◌, ◌∷◌, [], cond, refl, sym, ap, subst, ◌∙◌}
use Rattle.tree_paths.specs.declared.refusal.Refusal.TheVariants.{Enoent, Enotdir}
use Rattle.inode_table.specs.Rows.{child}
use Rattle.inode_table.specs.Kept.{is_directory, rows_of}
use Rattle.inode_table.specs.Resolution.{IsFound}
use Rattle.inode_table.specs.Tree.{TableValue}
use Rattle.inode_table.proofs.ChangeLemmas.{walk_end}
use Rattle.inode_table.proofs.ResolutionLemmas.{found-at, stops-at}
use Rattle.inode_table.proofs.table.Table.resolve_in.Goals as goal

pub returns-in-Some : goal.returns-in-Some
returns-in-Some c p there =
    let t = c.args.self.now in
    subst (IsFound t (p ++ c.args.name.now ∷ [])) (sym c.at.ensures)
    (found-at t c.rows_law.ensures.table (p ++ c.args.name.now ∷ []) c.in-Some.key c.of.result
    (walk_end (child t.rows) c.args.directory p c.args.name.now there
    ∙ ap (λ (s : TableValue). child s.rows c.args.directory c.args.name.now) (sym c.self.view_is) ∙ sym c.in-Some.ensures)
    c.of.ensures)

pub returns-in-None : goal.returns-in-None
returns-in-None c p there =
    let t = c.args.self.now in
    subst (IsFound t (p ++ c.args.name.now ∷ [])) (sym c.missing_at.ensures)
    (stops-at t c.rows_law.ensures.table (p ++ c.args.name.now ∷ []) (cond (is_directory (rows_of c.self.inside.nodes) c.args.directory) Enoent Enotdir)
    record {
      front = p;
      label = c.args.name.now;
      rest = [];
      key = c.args.directory;
      cut = refl;
      there = there;
      missing =
          walk_end (child t.rows) c.args.directory p c.args.name.now there
          ∙ ap (λ (s : TableValue). child s.rows c.args.directory c.args.name.now) (sym c.self.view_is) ∙ sym c.in-None.ensures;
      answer = ap (λ (s : TableValue). cond (is_directory s.rows c.args.directory) Enoent Enotdir) c.self.view_is;
    })
