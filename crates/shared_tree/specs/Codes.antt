-- Codes of values, by which proofs distinguish them. No public clause cites this module.
use Rattle.std.specs.Prelude.{ℕ, List, refl}
use Rattle.std.specs.Coded.{Coded, code_by, coded×, coded_list, coded_ℕ}
use Rattle.tree_core.specs.Codes.{journaled_code}
use Rattle.tree_core.specs.Journal.{Journaled}
use Rattle.shared_tree.specs.contracts.pipe.Batch as batch
use Rattle.shared_tree.specs.declared.pipe.Batch.{Batch}
use Rattle.shared_tree.specs.Calls.{BookContents, TreeWithPipes}

abbrev pub piped_code : Coded (List ℕ × List (List Batch))
piped_code = coded× (coded_list coded_ℕ) (coded_list (coded_list batch.the_row.coded))

abbrev pub tree_with_pipes_code : Coded TreeWithPipes
tree_with_pipes_code =
    code_by (Journaled × ((List ℕ × List (List Batch)) × ℕ)) (coded× journaled_code (coded× piped_code coded_ℕ))
    (λ h. (h.state, ((h.pipes, h.sent), h.total)))
    (λ p. record { state = p.0; pipes = p.1.0.0; sent = p.1.0.1; total = p.1.1 }) (λ _. refl)

abbrev pub book_contents_code : Coded BookContents
book_contents_code =
    code_by (Journaled × (ℕ × (List ℕ × List (List Batch)))) (coded× journaled_code (coded× coded_ℕ piped_code))
    (λ b. (b.state, (b.entries, (b.pipes, b.sent))))
    (λ p. record { state = p.0; entries = p.1.0; pipes = p.1.1.0; sent = p.1.1.1 }) (λ _. refl)
