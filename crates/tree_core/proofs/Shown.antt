-- A snapshot of a sound tree determines the tree.
use Rattle.std.proofs.Common.{◌≡◌, ℕ, ◌+◌, ◌≤◌, List, [], ◌∷◌, map, Option, Some, None, option_map, refl, sym, ap, ◌∙◌, arith}
use Rattle.std.specs.Prelude.{ℤ}
use Rattle.std.specs.Cmp.{nat_cmp_total}
use Rattle.std.proofs.lemmas.Cmp.{int_cmp_total}
use Rattle.std.proofs.lemmas.Bool.Decides.{nat_tests}
use Rattle.std.specs.FinMap as finmap
use Rattle.std.specs.FinMap.{int_cmp-IsAntisymmetric, nat_cmp-IsAntisymmetric, same_map}
use Rattle.std.specs.Ordering.{nat_cmp}
use Rattle.tree_paths.specs.Greatest.{most}
use Rattle.tree_paths.specs.declared.limits.Limits.{Limits}
use Rattle.inode_table.specs.Files.{file_row}
use Rattle.inode_table.specs.World.{File}
use Rattle.inode_table.proofs.WorldLemmas.{path_total, path_exact}
use Rattle.watch_table.specs.Rows.{by_wd, watch_rows}
use Rattle.watch_table.specs.declared.watch.Watch.{Watch}
use Rattle.watch_table.specs.Watching.{IsSound, Watching}
use Rattle.instance_table.specs.declared.instance.Instance.{Instance}
use Rattle.instance_table.specs.Rows.{instance_row}
use Rattle.instance_table.specs.Instances.{all_changed, instance_of}
use Rattle.tree_core.specs.declared.snapshot.Snapshot.{Snapshot}
use Rattle.tree_core.specs.Kept.{cookies_until, file_of, open_of, opened_of, tree_of, world_shown}
use Rattle.tree_core.specs.Snapshots.{IsSnapshotOf}
use Rattle.tree_core.specs.Sound.{IsSoundInstance, IsSoundTree}
use Rattle.tree_core.specs.Tree.{Tree, cookie_now}
use Rattle.tree_core.proofs.Counted.{instance_of-all_changed}
use Rattle.watch_table.proofs.Turned.{as_watch, made-of-entries, map-map, plain, turned-twice}

-- ---- files

files-back : (es : List (ℕ × File)) → map file_of (map file_row es) ≡ es
files-back [] = refl
files-back (e ∷ es) = ap (λ (xs : List (ℕ × File)). e ∷ xs) (files-back es)

-- ---- watches

-- the watch that a row stands for, by the number of its file
abbrev row_back : ℕ × ℤ × ℕ → ℕ × Watch
row_back r = (r.0, record { wd = r.1; mask = r.2 })

watches-back : (w : Watching) → IsSound w → finmap.from_entries (map row_back (watch_rows w)) ≡ w.watches
unfolding watch_rows
watches-back w sound =
    ap (λ (es : List (ℕ × Watch)). finmap.from_entries {R = nat_cmp} es)
    (map-map row_back (λ (e : ℤ × (ℕ × ℕ)). (e.1.0, e.0, e.1.1)) (finmap.entries (by_wd w)))
    ∙ turned-twice nat_cmp_total nat_cmp-IsAntisymmetric int_cmp_total int_cmp-IsAntisymmetric as_watch plain w.watches
    (λ j k wd x y one two. sound.apart j k wd (ap (option_map (λ (v : Watch). v.wd)) one) (ap (option_map (λ (v : Watch). v.wd)) two))

-- ---- instances

-- the instance that its row stands for
abbrev told_back : Limits → Instance → Instance
told_back limits i = (open_of limits (instance_row (0, i))).1

instance-back : (t : Tree) (i : Instance) → IsSoundInstance t i → told_back t.limits i ≡ i
instance-back t i is = λ k. record {
  is_piped = i.is_piped;
  watches =
      record { watches = watches-back i.watches is.watches k; next_wd = i.watches.next_wd; most_watches = sym is.most_watches k; last_wd = sym is.last_wd k };
  queue = i.queue;
}

instances-back : (t : Tree) → IsSoundTree t → finmap.from_entries (map (open_of t.limits) (map instance_row (finmap.entries t.instances))) ≡ t.instances
unfolding all_changed
instances-back t is =
    ap (λ (es : List (ℕ × Instance)). finmap.from_entries {R = nat_cmp} es) (map-map (open_of t.limits) instance_row (finmap.entries t.instances))
    ∙ same_map nat_cmp_total nat_cmp-IsAntisymmetric (all_changed t.instances (told_back t.limits)) t.instances
    (λ id. instance_of-all_changed t.instances (told_back t.limits) id ∙ each id (instance_of t.instances id) refl)
  where
    each : (id : ℕ) (o : Option Instance) → instance_of t.instances id ≡ o → option_map (told_back t.limits) o ≡ o
    each id None at = refl
    each id (Some i) at = ap (λ (x : Instance). Some x) (instance-back t i (is.instances id i at))

-- ---- cookies

cookie-back : (next : ℕ) → next ≤ most.cookies + 1 → 1 ≤ next → cookies_until (cookie_now next) ≡ next
cookie-back next few some = grind (arith, nat_tests)

-- ---- the tree

pub tree_of-snapshot : (t : Tree) (place : ℕ) (s : Snapshot) → IsSoundTree t → IsSnapshotOf t place s → tree_of t.limits s ≡ t
unfolding world_shown opened_of
tree_of-snapshot t place s is shows = λ k. record {
  limits = t.limits;
  world = record {
    paths = (ap (λ es. finmap.from_entries es) shows.paths ∙ made-of-entries path_total path_exact t.world.paths) k;
    files =
        (ap (λ es. finmap.from_entries (map file_of es)) shows.files
        ∙ ap (λ (es : List (ℕ × File)). finmap.from_entries {R = nat_cmp} es) (files-back (finmap.entries t.world.files))
        ∙ made-of-entries nat_cmp_total nat_cmp-IsAntisymmetric t.world.files)
        k;
  };
  next_number = shows.next_number k;
  next_cookie =
      (ap cookies_until shows.next_cookie
      ∙ cookie-back t.next_cookie (let h = is.counted.cookies in let most = t.limits.cookies_in.1 in omega arith) is.cookies)
      k;
  next_id = shows.next_id k;
  instances = (ap (λ es. finmap.from_entries (map (open_of t.limits) es)) shows.instances ∙ instances-back t is) k;
}
