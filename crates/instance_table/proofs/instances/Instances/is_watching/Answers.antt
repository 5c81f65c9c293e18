use Rattle.std.proofs.Common.{◌≡◌, ℕ, Bool, true, false, not, Option, Some, None, is_some, subst, sym, ap, ◌∙◌, refl}
use Rattle.std.proofs.lemmas.Bool.{false≢true}
use Rattle.watch_table.specs.declared.watch.Watch.{Watch}
use Rattle.watch_table.specs.Watching.{watch_of}
use Rattle.instance_table.specs.declared.instance.Instance.{Instance}
use Rattle.instance_table.specs.Instances.{NobodyWatches, watches_file}
use Rattle.instance_table.specs.Watchers.{watch_at}
use Rattle.instance_table.proofs.instances.Instances.is_watching.Goals as goal

unwatched : (n : ℕ) (o : Option Instance) → watch_at n o ≡ None → watches_file n o ≡ false
unwatched n None h = refl
unwatched n (Some i) h = ap is_some h

no-watch : (n : ℕ) (o : Option Instance) → watches_file n o ≡ false → watch_at n o ≡ None
no-watch n None h = refl
no-watch n (Some i) h = none-of (watch_of i.watches n) h
  where
    none-of : (o : Option Watch) → is_some o ≡ false → o ≡ None
    none-of None h = refl
    none-of (Some x) h = absurd (false≢true (sym h))

is-true : (b : Bool) → not b ≡ false → b ≡ true
is-true true h = refl
is-true false h = sym h

pub returns : goal.returns
returns c =
    let whole = c.self.invariant in (
      λ h. subst NobodyWatches c.self.view_is
          (λ n q. unwatched n _ (sym (whole.noted n q) ∙ (c.is_empty.ensures whole.rows).0 (is-true c.is_empty.result h) n q)),
      λ none. ap not ((c.is_empty.ensures whole.rows).1
          (λ n q. whole.noted n q ∙ no-watch n _ (subst NobodyWatches (sym c.self.view_is) none n q))),
    )
