-- The first elements of two arrays, of numbers of instances and of their watches, after one change.
use Rattle.std.proofs.Common.{◌≡◌, ℕ, suc, ◌+◌, ◌-◌, ◌<◌, ◌++◌, ◌∷◌, List, length, take, drop, set}
use Rattle.std.proofs.Common.{sym, ap, ◌∙◌, subst, arith, length-take-le}
use Rattle.std.proofs.Math.Seq.{paste}
use Rattle.std.specs.Prelude.{Ok, Err}
use Rattle.std.specs.FinMap as finmap
use Rattle.watch_table.specs.declared.watch.Watch.{Watch}
use Rattle.file_watchers.specs.Ids.{IsIndex}
use Rattle.file_watchers.specs.Watchers.{AreFew, AreWatchers, watchers_map}
use Rattle.file_watchers.proofs.Arrays.{take-in, take-out, take-set}
use Rattle.file_watchers.proofs.Zipped.{are-cut, are-put, watchers-cut, watchers-put, watchers-set}

pub few-length : (size n : ℕ) (ids : List ℕ) (ws : List Watch) → AreFew size n ids ws → length (take n ids) ≡ n
few-length size n ids ws few = length-take-le n ids (omega (arith, few.0, few.1))

module _ (size n : ℕ) (ids : List ℕ) (ws : List Watch) (few : AreFew size n ids ws) (i x : ℕ) where
  count : length (take n ids) ≡ n
  count = few-length size n ids ws few

  -- an instance that has none gets a watch
  module _ (w : Watch) (n<size : n < size) (slot : IsIndex (take n ids) x (Err i)) (new-ids : List ℕ) (new-ws : List Watch)
      (a : new-ids ≡ paste ids (i + 1) (drop i ids) (n - i)) (b : new-ws ≡ paste ws (i + 1) (drop i ws) (n - i)) where
    put-ids : take (n + 1) (set new-ids i x) ≡ take i (take n ids) ++ x ∷ drop i (take n ids)
    put-ids =
        ap (λ xs. take (n + 1) (set xs i x)) a
        ∙ take-in ids n i x (omega (arith, count, slot.0)) (omega (arith, n<size, few.1))

    put-watches : take (n + 1) (set new-ws i w) ≡ take i (take n ws) ++ w ∷ drop i (take n ws)
    put-watches =
        ap (λ xs. take (n + 1) (set xs i w)) b
        ∙ take-in ws n i w (omega (arith, count, slot.0)) (omega (arith, n<size, few.2))

    pub few-are-put : AreWatchers (take (n + 1) (set new-ids i x)) (take (n + 1) (set new-ws i w))
    few-are-put =
        subst (λ xs. AreWatchers xs (take (n + 1) (set new-ws i w))) (sym put-ids)
        (subst (AreWatchers (take i (take n ids) ++ x ∷ drop i (take n ids))) (sym put-watches)
        (are-put (take n ids) (take n ws) few.3 i x w slot))

    pub few-put : watchers_map (take (n + 1) (set new-ids i x)) (take (n + 1) (set new-ws i w)) ≡ finmap.insert (watchers_map (take n ids) (take n ws)) x w
    few-put = (λ k. watchers_map (put-ids k) (put-watches k)) ∙ watchers-put (take n ids) (take n ws) few.3 i x w slot

  module _ (slot : IsIndex (take n ids) x (Ok i)) where
    i<n : i < n
    i<n = omega (arith, count, slot.0)

    -- an instance gets another watch
    pub few-set : (w : Watch) → watchers_map (take n ids) (take n (set ws i w)) ≡ finmap.insert (watchers_map (take n ids) (take n ws)) x w
    few-set w = ap (watchers_map (take n ids)) (take-set ws n i w i<n) ∙ watchers-set (take n ids) (take n ws) few.3 i x slot w

    -- an instance loses its watch
    module _ (new-ids : List ℕ) (new-ws : List Watch)
        (a : new-ids ≡ paste ids i (drop (i + 1) ids) (n - (i + 1))) (b : new-ws ≡ paste ws i (drop (i + 1) ws) (n - (i + 1))) where
      cut-ids : take (n - 1) new-ids ≡ take i (take n ids) ++ drop (suc i) (take n ids)
      cut-ids = ap (take (n - 1)) a ∙ take-out ids n i i<n (omega (arith, few.0, few.1))

      cut-watches : take (n - 1) new-ws ≡ take i (take n ws) ++ drop (suc i) (take n ws)
      cut-watches = ap (take (n - 1)) b ∙ take-out ws n i i<n (omega (arith, few.0, few.2))

      pub few-are-cut : AreWatchers (take (n - 1) new-ids) (take (n - 1) new-ws)
      few-are-cut =
          subst (λ xs. AreWatchers xs (take (n - 1) new-ws)) (sym cut-ids)
          (subst (AreWatchers (take i (take n ids) ++ drop (suc i) (take n ids))) (sym cut-watches)
          (are-cut (take n ids) (take n ws) few.3 i x slot))

      pub few-cut : watchers_map (take (n - 1) new-ids) (take (n - 1) new-ws) ≡ finmap.remove (watchers_map (take n ids) (take n ws)) x
      few-cut = (λ k. watchers_map (cut-ids k) (cut-watches k)) ∙ watchers-cut (take n ids) (take n ws) few.3 i x slot
