-- An exchange of two fronts leaves a world one, where something stands at both and neither is a front of the other.
use Rattle.std.proofs.Common.{◌≡◌, ◌≢◌, inl, inr, ℕ, List, [], ◌∷◌, ◌++◌, append_assoc, Option, IsSome, refl, sym, ap, ◌∙◌, subst}
use Rattle.std.specs.Option.{option_and_then, IsSomeAnd}
use Rattle.std.specs.FinMap as finmap
use Rattle.inode_table.specs.declared.seen.Kind.TheVariants.{Directory}
use Rattle.inode_table.specs.Changes.{Avoids}
use Rattle.inode_table.specs.Rows.{Label}
use Rattle.inode_table.specs.Paths.{exchanged}
use Rattle.inode_table.specs.World.{World, File, IsWorld, IsWhole, IsDirectoryAt, with_swap}
use Rattle.inode_table.proofs.TreeLemmas.{apart_below}
use Rattle.inode_table.proofs.MapLemmas.{get-renamed}
use Rattle.inode_table.proofs.PathLemmas.{begins}
use Rattle.inode_table.proofs.SwapLemmas.{exchanged_twice, from-one, from-other, elsewhere}
use Rattle.tree_ops.proofs.WorldMoves.{no-front, under}

pub swapped-files : (w : World) (one other : List Label) → (with_swap w one other).files ≡ w.files
unfolding with_swap
swapped-files w one other = refl

module _ (w : World) (one other : List Label) (below : Avoids one other) (above : Avoids other one) where
  abbrev turn : List Label → List Label
  turn = exchanged one other

  abbrev now : List Label → Option ℕ
  now = finmap.get (with_swap w one other).paths

  apart : (s : List Label) → Avoids one (other ++ s)
  apart = apart_below one other below above

  twice : (x : List Label) → turn (turn x) ≡ x
  twice = exchanged_twice one other below above apart

  -- a path leads where the other one led
  led : (x : List Label) → now x ≡ finmap.get w.paths (turn x)
  unfolding with_swap
  led x = get-renamed turn w.paths x (turn x) (λ y _ e. sym (twice y) ∙ ap turn e) (twice x)

  directory-swapped : (x : List Label) → IsDirectoryAt w (turn x) → IsDirectoryAt (with_swap w one other) x
  unfolding with_swap
  directory-swapped x h = subst (λ o. IsSomeAnd (option_and_then (finmap.get w.files) o) (λ (f : File). f.kind ≡ Directory)) (sym (led x)) h

  directory-was : (x : List Label) → IsDirectoryAt (with_swap w one other) x → IsDirectoryAt w (turn x)
  unfolding with_swap
  directory-was x h = subst (λ o. IsSomeAnd (option_and_then (finmap.get w.files) o) (λ (f : File). f.kind ≡ Directory)) (led x) h

  -- each file has its path still, or the other one
  pub IsWhole-with_swap : IsWhole w → IsWhole (with_swap w one other)
  IsWhole-with_swap whole n h =
      let x = whole n (subst (λ fs. IsSome (finmap.get fs n)) (swapped-files w one other) h) in
      (turn x.0, led (turn x.0) ∙ ap (finmap.get w.paths) (twice x.0) ∙ x.1)

  module _ (is : IsWorld w) (named : one ≢ []) (other_named : other ≢ []) (there : IsSome (finmap.get w.paths one))
      (other_there : IsSome (finmap.get w.paths other)) where
    -- what is above a path that is there is a directory
    over : (p : List Label) → IsSome (finmap.get w.paths p) → (x : List Label) (l : Label) (s t : List Label) → Avoids p x
        → x ++ l ∷ s ≡ p ++ t → IsDirectoryAt w x
    over p at x l s t off e =
        let u = under x p l s t off e in
        is.fronts x u.0 u.1 (subst (λ q. IsSome (finmap.get w.paths q)) u.2 at)

    fronts : (x : List Label) (l : Label) (s : List Label) → IsSome (now (x ++ l ∷ s)) → IsDirectoryAt (with_swap w one other) x
    fronts x l s h =
        let was : IsSome (finmap.get w.paths (turn (x ++ l ∷ s))) = subst (λ o. IsSome o) (led (x ++ l ∷ s)) h in
        directory-swapped x (elim (begins one x) [
          | inl c ↦
              let path : turn (x ++ l ∷ s) ≡ (other ++ c.0) ++ l ∷ s =
              ap turn (ap (λ y. y ++ l ∷ s) c.1 ∙ append_assoc one c.0 (l ∷ s))
              ∙ from-one one other below above apart (c.0 ++ l ∷ s) ∙ sym (append_assoc other c.0 (l ∷ s)) in
              subst (IsDirectoryAt w) (sym (ap turn c.1 ∙ from-one one other below above apart c.0))
              (is.fronts (other ++ c.0) l s (subst (λ q. IsSome (finmap.get w.paths q)) path was))
          | inr off_one ↦ elim (begins other x) [
            | inl c ↦
                let path : turn (x ++ l ∷ s) ≡ (one ++ c.0) ++ l ∷ s =
                ap turn (ap (λ y. y ++ l ∷ s) c.1 ∙ append_assoc other c.0 (l ∷ s))
                ∙ from-other one other below above apart (c.0 ++ l ∷ s) ∙ sym (append_assoc one c.0 (l ∷ s)) in
                subst (IsDirectoryAt w) (sym (ap turn c.1 ∙ from-other one other below above apart c.0))
                (is.fronts (one ++ c.0) l s (subst (λ q. IsSome (finmap.get w.paths q)) path was))
            | inr off_other ↦ subst (IsDirectoryAt w) (sym (elsewhere one other below above apart x off_one off_other)) (outside x l s off_one off_other was)
          ]
        ])
      where
        -- a path that begins with neither
        outside : (x : List Label) (l : Label) (s : List Label) → Avoids one x → Avoids other x
            → IsSome (finmap.get w.paths (turn (x ++ l ∷ s))) → IsDirectoryAt w x
        outside x l s off_one off_other was =
            elim (begins one (x ++ l ∷ s)) [
              | inl c ↦ over one there x l s c.0 off_one c.1
              | inr past_one ↦ elim (begins other (x ++ l ∷ s)) [
                | inl c ↦ over other other_there x l s c.0 off_other c.1
                | inr past_other ↦
                    is.fronts x l s (subst (λ q. IsSome (finmap.get w.paths q)) (elsewhere one other below above apart (x ++ l ∷ s) past_one past_other) was)
              ]
            ]

    root-stays : turn [] ≡ []
    root-stays = elsewhere one other below above apart [] (λ s. no-front one s named) (λ s. no-front other s other_named)

    pub IsWorld-with_swap : IsWorld (with_swap w one other)
    IsWorld-with_swap = record {
      root = led [] ∙ ap (finmap.get w.paths) root-stays ∙ is.root;
      root_directory = directory-swapped [] (subst (IsDirectoryAt w) (sym root-stays) is.root_directory);
      files = λ x n at. subst (λ fs. IsSome (finmap.get fs n)) (sym (swapped-files w one other)) (is.files (turn x) n (sym (led x) ∙ at));
      fronts = fronts;
      one_path = λ x y h e. sym (twice x) ∙ ap turn (is.one_path (turn x) (turn y) (directory-was x h) (sym (led x) ∙ e ∙ led y)) ∙ twice y;
      no_bytes = λ k f at. is.no_bytes k f (ap (λ fs. finmap.get fs k) (sym (swapped-files w one other)) ∙ at);
    }
