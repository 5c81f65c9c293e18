-- The two maps, changed together.
use Rattle.std.proofs.Common.{◌≡◌, ◌≢◌, ◌⊎◌, ℕ, ◌+◌, ◌<◌, ◌≤◌, Option, Some, None, refl, sym, ap, ◌∙◌, subst, inl, inr}
use Rattle.std.specs.Prelude.{ℤ, pos, option_map}
use Rattle.std.specs.BTreeMap as tree
use Rattle.std.specs.BTreeMap.{BTreeMap}
use Rattle.std.specs.FinMap as map
use Rattle.std.specs.FinMap.{from_entries, int_cmp-IsAntisymmetric}
use Rattle.std.specs.Map.{lookup}
use Rattle.std.specs.Ordering.{nat_cmp, int_cmp, is_eq}
use Rattle.std.specs.declared.alloc.Global.{Global}
use Rattle.std.specs.Cmp.{int_cmp_total}
use Rattle.tree_paths.specs.declared.limits.Limits.{Limits}
use Rattle.watch_table.specs.declared.watches.Watches.TheInside.{Inside}
use Rattle.watch_table.specs.declared.watch.Watch.{Watch}
use Rattle.watch_table.specs.Watching.{Watching, IsSound, dropped, watched_by, watch_of, wd_of, with_new_watch}
use Rattle.watch_table.specs.Index.{IsIndexed, watching_of}
use Rattle.watch_table.proofs.Maps.{tie, from_map-insert, from_map-remove}
use Rattle.watch_table.proofs.Watched.{no_watches-IsSound, watched_by-by, some_none, same_some, wd_of-dropped}
use Rattle.watch_table.proofs.Watched.{wd_of-dropped_other, dropped-IsSound, kept-IsSound, wd_of-kept, new-IsSound}
use Rattle.watch_table.proofs.Watched.{with_bits, wd_of-new, new-apart, wd_of-put_here, wd_of-put_other}

pub no_watches-IsIndexed : (limits : Limits) (alloc : Global) (m : BTreeMap ℕ Watch) (n : BTreeMap ℤ ℕ) → tree.IsEmpty m → tree.IsEmpty n
    → IsIndexed (record { alloc = alloc; by_number = m; by_wd = n; next_wd = 1; most_watches = limits.watches; last_wd = limits.wds })
no_watches-IsIndexed limits alloc m n e f =
    let opened : map.FinMap nat_cmp Watch → Watching = λ x. record { watches = x; next_wd = 1; most_watches = limits.watches; last_wd = limits.wds } in
    let same : map.empty ≡ from_entries {R = nat_cmp} m.entries = ap (λ es. from_entries {R = nat_cmp} es) (sym e) in
    let sound : IsSound (opened (from_entries m.entries)) = subst (λ x. IsSound (opened x)) same (no_watches-IsSound limits) in
    let unwatched : (number : ℕ) → wd_of (opened (from_entries m.entries)) number ≡ None =
    λ number.
    ap (λ x. wd_of (opened x) number) (sym same)
    ∙ ap (option_map (λ (watch : Watch). watch.wd)) (map.get-empty nat_cmp number) in
    record {
      sound = sound;
      watched = λ number wd h. absurd (some_none (ap (lookup (λ k. is_eq (int_cmp wd k))) f) h);
      indexed = λ number wd h. absurd (some_none (unwatched number) h);
    }

-- ---- the map from descriptors, where one is put in or taken out

module _ (m n : BTreeMap ℤ ℕ) (wd : ℤ) (w : Option ℕ) (h : tree.Updates int_cmp m n wd w) where
  got_here : tree.get int_cmp n wd ≡ w
  got_here = h.1

  got_other : (q : ℤ) → q ≢ wd → tree.get int_cmp n q ≡ tree.get int_cmp m q
  got_other q off = h.2 q (elim (tie int_cmp_total int_cmp-IsAntisymmetric wd q) [ inl t ↦ absurd (off (sym t.0)) | inr t ↦ t.1 ])

same_wd : (q wd : ℤ) → (q ≡ wd) ⊎ (q ≢ wd)
same_wd q wd = elim (tie int_cmp_total int_cmp-IsAntisymmetric q wd) [ inl t ↦ inl t.0 | inr t ↦ inr t.0 ]

module _ (a : Inside) (whole : IsIndexed a) where
  -- no file is watched under the descriptor that is given next
  pub fresh : tree.get int_cmp a.by_wd (pos a.next_wd) ≡ None
  fresh =
      elim (tree.get int_cmp a.by_wd (pos a.next_wd)) as (λ o. tree.get int_cmp a.by_wd (pos a.next_wd) ≡ o → o ≡ None) [
        | None ↦ λ e. refl
        | Some number ↦ λ e. absurd (new-apart (watching_of a) whole.sound number (pos a.next_wd) (whole.watched number (pos a.next_wd) e) refl)
      ] refl

  -- the map from descriptors has the file of each
  pub watched_by-got : (wd : ℤ) → watched_by (watching_of a) wd ≡ tree.get int_cmp a.by_wd wd
  watched_by-got wd = watched_by-by (watching_of a) wd (tree.get int_cmp a.by_wd wd) (λ n. whole.watched n wd) (λ n. whole.indexed n wd)

  -- maps with the same entries
  pub IsIndexed-same : (m : BTreeMap ℕ Watch) (n : BTreeMap ℤ ℕ) → m.entries ≡ a.by_number.entries
      → ((wd : ℤ) → tree.get int_cmp n wd ≡ tree.get int_cmp a.by_wd wd)
      → IsIndexed (record a { by_number = m; by_wd = n })
  IsIndexed-same m n e got =
      let same : watching_of a ≡ watching_of (record a { by_number = m; by_wd = n }) =
      ap (λ es. record (watching_of a) { watches = from_entries es }) (sym e) in
      record {
        sound = subst IsSound same whole.sound;
        watched = λ number wd h. subst (λ x. wd_of x number ≡ Some wd) same (whole.watched number wd (sym (got wd) ∙ h));
        indexed = λ number wd h. got wd ∙ whole.indexed number wd (subst (λ x. wd_of x number ≡ Some wd) (sym same) h);
      }

  -- a descriptor that is put in and taken out again
  pub put_back : (n k : BTreeMap ℤ ℕ) (number : ℕ) → tree.Updates int_cmp a.by_wd n (pos a.next_wd) (Some number)
      → tree.Updates int_cmp n k (pos a.next_wd) None
      → (wd : ℤ) → tree.get int_cmp k wd ≡ tree.get int_cmp a.by_wd wd
  put_back n k number put back wd =
      elim (same_wd wd (pos a.next_wd)) [
        | inl is ↦ ap (tree.get int_cmp k) is ∙ got_here n k (pos a.next_wd) None back ∙ sym fresh ∙ ap (tree.get int_cmp a.by_wd) (sym is)
        | inr off ↦ got_other n k (pos a.next_wd) None back wd off ∙ got_other a.by_wd n (pos a.next_wd) (Some number) put wd off
      ]

  -- a new watch
  module _ (m : BTreeMap ℕ Watch) (n : BTreeMap ℤ ℕ) (number bits : ℕ) where
    abbrev with_new : Inside
    with_new = record a { by_number = m; by_wd = n; next_wd = a.next_wd + 1 }

    pub watching_of-new : tree.Updates nat_cmp a.by_number m number (Some (record { wd = pos a.next_wd; mask = bits }))
        → watching_of with_new ≡ with_new_watch (watching_of a) number bits
    watching_of-new put =
        ap (λ x. record (watching_of a) { watches = x; next_wd = a.next_wd + 1 })
        (from_map-insert a.by_number m number (record { wd = pos a.next_wd; mask = bits }) put)

    pub IsIndexed-new : tree.Updates nat_cmp a.by_number m number (Some (record { wd = pos a.next_wd; mask = bits }))
        → tree.Updates int_cmp a.by_wd n (pos a.next_wd) (Some number)
        → watch_of (watching_of a) number ≡ None → map.len (watching_of a).watches < a.most_watches → a.next_wd ≤ a.last_wd → IsIndexed with_new
    IsIndexed-new put put_wd was room left =
        let w : Watching = watching_of a in
        let same = watching_of-new put in
        let unwatched : (wd : ℤ) → wd_of w number ≢ Some wd = λ wd. some_none (ap (option_map (λ (x : Watch). x.wd)) was) in
        record {
          sound = subst IsSound (sym same) (new-IsSound w number bits whole.sound was room left);
          watched = λ q wd h. ap (λ x. wd_of x q) same ∙ elim (same_wd wd (pos a.next_wd)) [
            | inl is ↦
                let here : q ≡ number = same_some (sym h ∙ ap (tree.get int_cmp n) is ∙ got_here a.by_wd n (pos a.next_wd) (Some number) put_wd) in
                ap (wd_of (with_new_watch w number bits)) here
                ∙ wd_of-put_here w number (record { wd = pos a.next_wd; mask = bits }) (a.next_wd + 1) ∙ ap Some (sym is)
            | inr off ↦
                let was_there : wd_of w q ≡ Some wd = whole.watched q wd (sym (got_other a.by_wd n (pos a.next_wd) (Some number) put_wd wd off) ∙ h) in
                wd_of-put_other w number (record { wd = pos a.next_wd; mask = bits }) (a.next_wd + 1) q
                (λ here. unwatched wd (ap (wd_of w) (sym here) ∙ was_there)) ∙ was_there
          ];
          indexed = λ q wd h. elim (wd_of-new w number bits q wd (sym (ap (λ x. wd_of x q) same) ∙ h)) [
            | inl t ↦ ap (tree.get int_cmp n) t.1 ∙ got_here a.by_wd n (pos a.next_wd) (Some number) put_wd ∙ ap Some (sym t.0)
            | inr t ↦ got_other a.by_wd n (pos a.next_wd) (Some number) put_wd wd (new-apart w whole.sound q wd t.1) ∙ whole.indexed q wd t.1
          ];
        }

  -- other bits of a watch
  module _ (m : BTreeMap ℕ Watch) (number : ℕ) (watch : Watch) (bits : ℕ) where
    abbrev with_other : Inside
    with_other = record a { by_number = m }

    pub watching_of-bits : tree.Updates nat_cmp a.by_number m number (Some (record { wd = watch.wd; mask = bits }))
        → watching_of with_other ≡ with_bits (watching_of a) number watch.wd bits
    watching_of-bits put = ap (λ x. record (watching_of a) { watches = x }) (from_map-insert a.by_number m number (record { wd = watch.wd; mask = bits }) put)

    pub IsIndexed-bits : tree.Updates nat_cmp a.by_number m number (Some (record { wd = watch.wd; mask = bits }))
        → watch_of (watching_of a) number ≡ Some watch → IsIndexed with_other
    IsIndexed-bits put was =
        let w : Watching = watching_of a in
        let same = watching_of-bits put in
        let stays : (q : ℕ) → wd_of (watching_of with_other) q ≡ wd_of w q =
        λ q.
        ap (λ x. wd_of x q) same
        ∙ wd_of-kept w number watch.wd bits (ap (option_map (λ (x : Watch). x.wd)) was) q in
        record {
          sound = subst IsSound (sym same) (kept-IsSound w number watch.wd bits whole.sound watch was refl);
          watched = λ q wd h. stays q ∙ whole.watched q wd h;
          indexed = λ q wd h. whole.indexed q wd (sym (stays q) ∙ h);
        }

  -- a watch taken out
  module _ (m : BTreeMap ℕ Watch) (n : BTreeMap ℤ ℕ) (number : ℕ) (wd : ℤ) where
    abbrev without_file : Inside
    without_file = record a { by_number = m; by_wd = n }

    pub watching_of-dropped : tree.Updates nat_cmp a.by_number m number None → watching_of without_file ≡ dropped (watching_of a) number
    unfolding dropped
    watching_of-dropped taken = ap (λ x. record (watching_of a) { watches = x }) (from_map-remove a.by_number m number taken)

    pub IsIndexed-dropped : tree.Updates nat_cmp a.by_number m number None → tree.Updates int_cmp a.by_wd n wd None
        → wd_of (watching_of a) number ≡ Some wd → IsIndexed without_file
    IsIndexed-dropped taken taken_wd was =
        let w : Watching = watching_of a in
        let same = watching_of-dropped taken in
        record {
          sound = subst IsSound (sym same) (dropped-IsSound w number whole.sound);
          watched = λ q v h. ap (λ x. wd_of x q) same ∙ elim (same_wd v wd) [
            | inl is ↦ absurd (some_none (ap (tree.get int_cmp n) is ∙ got_here a.by_wd n wd None taken_wd) h)
            | inr off ↦
                let was_there : wd_of w q ≡ Some v = whole.watched q v (sym (got_other a.by_wd n wd None taken_wd v off) ∙ h) in
                wd_of-dropped_other w number q (λ here. off (same_some (sym was_there ∙ ap (wd_of w) here ∙ was))) ∙ was_there
          ];
          indexed = λ q v h.
              let there = wd_of-dropped w number q v (sym (ap (λ x. wd_of x q) same) ∙ h) in
              got_other a.by_wd n wd None taken_wd v (λ is.
              there.0 (whole.sound.apart q number v there.1 (was ∙ ap Some (sym is))))
              ∙ whole.indexed q v there.1;
        }
