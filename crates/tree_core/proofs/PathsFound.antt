-- The first row of a number, among the paths of a tree.
use Rattle.std.proofs.Common.{◌≡◌, ◌≢◌, ℕ, ◌+◌, ◌<◌, ◌==◌, Bool, List, [], ◌∷◌, ◌++◌, Option, Some, None, true, false}
use Rattle.std.proofs.Common.{cond, refl, sym, ap, ◌∙◌, get_or, length, take, drop}
use Rattle.std.specs.Prelude.{option_map, IfOk, Result, Ok, Err}
use Rattle.std.specs.FinMap as finmap
use Rattle.std.specs.List.{find}
use Rattle.std.specs.Option.{option_or}
use Rattle.std.proofs.lemmas.Bool.{eq-eqb, eqb-true}
use Rattle.std.proofs.lemmas.List.{take_more, take-append-drop}
use Rattle.std.proofs.lemmas.List.Folds.{find-append}
use Rattle.tree_paths.specs.declared.refusal.Refusal.{Refusal}
use Rattle.inode_table.specs.Rows.{Label}
use Rattle.inode_table.specs.World.{World}
use Rattle.tree_core.specs.Peeks.{first_path}

abbrev pub RowsOf : Type 0
RowsOf = List (List Label × ℕ)

-- the first row of a number
abbrev pub row_of : RowsOf → ℕ → Option (List Label × ℕ)
row_of rows n = find (λ (e : List Label × ℕ). e.1 == n) rows

module _ (rows : RowsOf) (i n : ℕ) (e : List Label × ℕ) where
  abbrev one : Option (List Label × ℕ)
  one = row_of (e ∷ []) n

  next : i < length rows → e ≡ get_or rows i e → row_of (take i rows) n ≡ None → row_of (take (i + 1) rows) n ≡ one
  next lt is none =
      ap (λ es. row_of es n) (take_more rows i e lt ∙ ap (λ x. take i rows ++ x ∷ []) (sym is))
      ∙ find-append (λ (e : List Label × ℕ). e.1 == n) (take i rows) (e ∷ [])
      ∙ ap (λ o. option_or o one) none

  -- a row of another number
  pub row-past : i < length rows → e ≡ get_or rows i e → row_of (take i rows) n ≡ None → e.1 ≢ n → row_of (take (i + 1) rows) n ≡ None
  row-past lt is none off = next lt is none ∙ by (e.1 == n) refl
    where
      by : (b : Bool) → (e.1 == n) ≡ b → cond b (Some e) None ≡ None
      by true same = absurd (off (eqb-true e.1 n same))
      by false same = refl

  -- the row of the number
  pub row-here : i < length rows → e ≡ get_or rows i e → row_of (take i rows) n ≡ None → e.1 ≡ n → row_of rows n ≡ Some e
  row-here lt is none same =
      ap (λ es. row_of es n) (sym (take-append-drop (i + 1) rows))
      ∙ find-append (λ (e : List Label × ℕ). e.1 == n) (take (i + 1) rows) (drop (i + 1) rows)
      ∙ ap (λ o. option_or o (row_of (drop (i + 1) rows) n)) (next lt is none ∙ ap (λ b. cond b (Some e) None) (eq-eqb e.1 n same))

pub path-found : (rows : RowsOf) (n : ℕ) (w : World) (found : Result (Option (List Label)) Refusal) → rows ≡ finmap.entries w.paths
    → IfOk found (λ p. p ≡ option_map (λ (e : List Label × ℕ). e.0) (find (λ (e : List Label × ℕ). e.1 == n) rows)) → IfOk found (λ p. p ≡ first_path w n)
unfolding first_path
path-found rows n w (Ok p) are is = is ∙ ap (λ es. option_map (λ (e : List Label × ℕ). e.0) (find (λ (e : List Label × ℕ). e.1 == n) es)) are
path-found rows n w (Err refusal) are is = tt
