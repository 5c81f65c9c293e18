use Rattle.std.proofs.Common.{◌∷◌, ℕ, Result, cond, refl, sym, ap, subst, ◌∙◌}
use Rattle.tree_paths.specs.declared.refusal.Refusal.{Refusal}
use Rattle.tree_paths.specs.declared.refusal.Refusal.TheVariants.{Enoent, Enotdir}
use Rattle.inode_table.specs.Found.{found_of}
use Rattle.inode_table.specs.Kept.{rows_of, is_directory}
use Rattle.inode_table.specs.Refusals.{parent_of}
use Rattle.inode_table.specs.Resolution.{IsFound}
use Rattle.inode_table.specs.Rows.{child}
use Rattle.inode_table.specs.Tree.{TableValue}
use Rattle.inode_table.proofs.FindLemmas.{live-there}
use Rattle.inode_table.proofs.ResolutionLemmas.{WalksTo, walk-here, walk-parent, walk-stops, walks-on}
use Rattle.inode_table.proofs.table.Table.walk.Goals as goal
use Rattle.inode_table.proofs.table.Table.walk.Goals.{After-missing_at-missing}

pub loop-next-preserved : goal.loop-next-preserved
loop-next-preserved c =
    let rows = rows_of c.self.inside.nodes in
    walks-on (child rows) (c.args.first ∷ c.args.behind) c.loop-next.name c.in-Some.next c.loop-next.names c.next_name_ref.new.self
    c.loop-next.directory c.in-Some-child.key
    c.loop-next.invariant c.in-Some.ensures (sym c.in-Some-child.ensures)

stops : (c : After-missing_at-missing) → IsFound c.args.self.now (c.args.first ∷ c.args.behind) (found_of c.missing_at-missing.result)
    × IsFound c.args.self.now (parent_of (c.args.first ∷ c.args.behind)) (found_of c.missing_at-missing.result)
stops c =
    let t = c.args.self.now in
    let whole = c.args.first ∷ c.args.behind in
    let key = c.loop-next.directory in
    let name = c.loop-next.name in
    let walks : WalksTo (child t.rows) whole name c.loop-next.names key =
    subst (λ (s : TableValue). WalksTo (child s.rows) whole name c.loop-next.names key) c.self.view_is c.loop-next.invariant in
    let refusal = cond (is_directory (rows_of c.self.inside.nodes) key) Enoent Enotdir in
    subst (λ (r : Result ℕ Refusal). IsFound t whole r × IsFound t (parent_of whole) r) (sym c.missing_at-missing.ensures)
    (walk-stops t c.rows_law.ensures.table whole name c.in-Some.next c.loop-next.names c.next_name_ref.new.self key refusal walks c.in-Some.ensures
    (ap (λ (s : TableValue). child s.rows key name) (sym c.self.view_is)
    ∙ sym c.in-None.ensures)
    (ap (λ (s : TableValue). cond (is_directory s.rows key) Enoent Enotdir) c.self.view_is))

pub returns-in-None-clause-directory : goal.returns-in-None-clause-directory
returns-in-None-clause-directory c = (stops c).1

pub returns-in-None-clause-here : goal.returns-in-None-clause-here
returns-in-None-clause-here c = (stops c).0

pub resolve_in-requires : goal.resolve_in-requires
resolve_in-requires c =
    let t = c.args.self.now in
    let whole = c.args.first ∷ c.args.behind in
    let walks : WalksTo (child t.rows) whole c.loop-next.name c.loop-next.names c.loop-next.directory =
    subst (λ (s : TableValue). WalksTo (child s.rows) whole c.loop-next.name c.loop-next.names c.loop-next.directory) c.self.view_is c.loop-next.invariant in
    record { there = live-there t c.rows_law.ensures.table walks.front c.loop-next.directory walks.there }

pub returns-clause-directory : goal.returns-clause-directory
returns-clause-directory c =
    let t = c.args.self.now in
    let whole = c.args.first ∷ c.args.behind in
    let walks : WalksTo (child t.rows) whole c.loop-next.name c.loop-next.names c.loop-next.directory =
    subst (λ (s : TableValue). WalksTo (child s.rows) whole c.loop-next.name c.loop-next.names c.loop-next.directory) c.self.view_is c.loop-next.invariant in
    subst (IsFound t (parent_of whole)) (sym c.at.ensures)
    (walk-parent t c.rows_law.ensures.table whole c.loop-next.name c.loop-next.names c.loop-next.directory c.of.result walks
    c.in_default.ensures.0 c.of.ensures)

pub returns-clause-here : goal.returns-clause-here
returns-clause-here c =
    let t = c.args.self.now in
    let whole = c.args.first ∷ c.args.behind in
    let walks : WalksTo (child t.rows) whole c.loop-next.name c.loop-next.names c.loop-next.directory =
    subst (λ (s : TableValue). WalksTo (child s.rows) whole c.loop-next.name c.loop-next.names c.loop-next.directory) c.self.view_is c.loop-next.invariant in
    walk-here t c.rows_law.ensures.table whole c.loop-next.name c.loop-next.name c.loop-next.names c.loop-next.directory
    (found_of c.resolve_in.result) walks c.in_default.ensures.0 refl c.resolve_in.ensures
