-- Codes of values, by which proofs distinguish them. No public clause cites this module.
use Rattle.std.specs.Prelude.{ℕ, List, refl}
use Rattle.std.specs.Coded.{Coded, code_by, coded×, coded_list, coded_ℕ}
use Rattle.std.specs.FinMap as finmap
use Rattle.std.specs.Ordering.{nat_cmp}
use Rattle.tree_paths.specs.contracts.limits.Limits as limits
use Rattle.tree_paths.specs.declared.limits.Limits.{Limits}
use Rattle.inode_table.specs.contracts.seen.Kind as kind
use Rattle.inode_table.specs.declared.seen.Kind.{Kind}
use Rattle.inode_table.specs.Paths.{path_cmp}
use Rattle.inode_table.specs.World.{World, File}
use Rattle.instance_table.specs.Codes.{instances_code}
use Rattle.instance_table.specs.Instances.{Instances}
use Rattle.tree_core.specs.contracts.reply.Entry as entry
use Rattle.tree_core.specs.declared.reply.Entry.{Entry}
use Rattle.tree_core.specs.Tree.{Tree}
use Rattle.tree_core.specs.Journal.{Journaled}

abbrev pub file_code : Coded File
file_code =
    code_by (Kind × (ℕ × List ℕ)) (coded× kind.the_row.coded (coded× coded_ℕ (coded_list coded_ℕ)))
    (λ f. (f.kind, (f.mode, f.bytes))) (λ p. record { kind = p.0; mode = p.1.0; bytes = p.1.1 }) (λ _. refl)

abbrev pub world_code : Coded World
world_code =
    code_by (finmap.FinMap path_cmp ℕ × finmap.FinMap nat_cmp File)
    (coded× (finmap.code (coded_list (coded_list coded_ℕ)) coded_ℕ) (finmap.code coded_ℕ file_code))
    (λ w. (w.paths, w.files)) (λ p. record { paths = p.0; files = p.1 }) (λ _. refl)

abbrev pub tree_code : Coded Tree
tree_code =
    code_by ((Limits × World) × ((ℕ × (ℕ × ℕ)) × Instances))
    (coded× (coded× limits.the_row.coded world_code)
    (coded× (coded× coded_ℕ (coded× coded_ℕ coded_ℕ)) instances_code))
    (λ t. ((t.limits, t.world), ((t.next_number, (t.next_cookie, t.next_id)), t.instances)))
    (λ p.
    record {
      limits = p.0.0;
      world = p.0.1;
      next_number = p.1.0.0;
      next_cookie = p.1.0.1.0;
      next_id = p.1.0.1.1;
      instances = p.1.1;
    })
    (λ _. refl)

abbrev pub journaled_code : Coded Journaled
journaled_code =
    code_by (Tree × (ℕ × List Entry)) (coded× tree_code (coded× coded_ℕ (coded_list entry.the_row.coded)))
    (λ s. (s.start, (s.place, s.entries))) (λ p. record { start = p.0; place = p.1.0; entries = p.1.1 }) (λ _. refl)
