-- The paths of a world after all those of a front moved.
use Rattle.std.proofs.Common.{◌≡◌, ◌≢◌, ◌⊎◌, inl, inr, ℕ, List, [], ◌∷◌, ◌++◌, append-nil, None, IsSome, is_some, false, sym, ap, ◌∙◌}
use Rattle.std.specs.FinMap as finmap
use Rattle.std.specs.FinMap.{FinMap}
use Rattle.inode_table.specs.Changes.{Avoids, MovesPath}
use Rattle.inode_table.specs.Rows.{Label}
use Rattle.inode_table.specs.Paths.{path_cmp, retargeted}
use Rattle.inode_table.specs.World.{World, with_move}
use Rattle.inode_table.proofs.MapLemmas.{get-renamed, get-renamed_none, get-remove_here, get-remove_other}
use Rattle.inode_table.proofs.PathLemmas.{begins, append-cancel, retargeted-below, retargeted-off}
use Rattle.inode_table.proofs.WorldLemmas.{decide_path, path_total, path_exact}

module _ (w : World) (from to : List Label) (apart : Avoids from to) (empty : (l : Label) (s : List Label) → finmap.get w.paths (to ++ l ∷ s) ≡ None) where
  abbrev left : FinMap path_cmp ℕ
  left = finmap.remove w.paths to

  abbrev turn : List Label → List Label
  turn = retargeted from to

  -- nothing is left at the new path or below it
  nothing : (s : List Label) → finmap.get left (to ++ s) ≡ None
  nothing [] = ap (finmap.get left) (append-nil to) ∙ get-remove_here path_total path_exact w.paths to
  nothing (l ∷ s) =
      elim (decide_path (to ++ l ∷ s) to) [
        | inl e ↦ ap (finmap.get left) e ∙ get-remove_here path_total path_exact w.paths to
        | inr off ↦ get-remove_other path_total path_exact w.paths to (to ++ l ∷ s) off ∙ empty l s
      ]

  found : (y s : List Label) → IsSome (finmap.get left y) → y ≢ to ++ s
  found y s h e = let gone : is_some (finmap.get left y) ≡ false = ap (λ x. is_some (finmap.get left x)) e ∙ ap is_some (nothing s) in absurd (cc)

  -- a path comes from where it was before, or is as it was
  turned : (y : List Label) → ((r : List Label) × (y ≡ from ++ r) × (turn y ≡ to ++ r)) ⊎ (Avoids from y × (turn y ≡ y))
  turned y =
      elim (begins from y) [
        | inl c ↦ inl (c.0, c.1, ap turn c.1 ∙ retargeted-below from to c.0)
        | inr off ↦ inr (off, retargeted-off from to y off)
      ]

  -- where a path with its new front begins with the new path, it began with the old one
  from-front : (y s : List Label) → IsSome (finmap.get left y) → turn y ≡ to ++ s → y ≡ from ++ s
  from-front y s h e =
      elim (turned y) [
        | inl c ↦ c.1 ∙ ap (λ x. from ++ x) (append-cancel to c.0 s (sym c.2 ∙ e))
        | inr c ↦ absurd (found y s h (sym c.1 ∙ e))
      ]

  from-off : (y q : List Label) → Avoids to q → turn y ≡ q → Avoids from y × (y ≡ q)
  from-off y q off e =
      elim (turned y) [
        | inl c ↦ absurd (off c.0 (sym e ∙ c.2))
        | inr c ↦ (c.0, sym c.1 ∙ e)
      ]

  pub MovesPath-with_move : MovesPath (finmap.get w.paths) (finmap.get (with_move w from to).paths) from to
  unfolding with_move
  MovesPath-with_move = record {
    moved = λ s.
        get-renamed turn left (to ++ s) (from ++ s) (λ y h e. from-front y s h e) (retargeted-below from to s)
        ∙ get-remove_other path_total path_exact w.paths to (from ++ s) (λ e. apart s (sym e));
    gone = λ s off. get-renamed_none turn left (from ++ s) (λ y h e. let c = from-off y (from ++ s) off e in c.0 s c.1);
    others = λ q off_from off_to.
        get-renamed turn left q q (λ y h e. (from-off y q off_to e).1) (retargeted-off from to q off_from)
        ∙ get-remove_other path_total path_exact w.paths to q (λ e. off_to [] (e ∙ sym (append-nil to)));
  }
