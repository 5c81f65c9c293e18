-- The file of a descriptor, and what stays true of the watches of an instance.
use Rattle.std.proofs.Common.{◌≡◌, ◌≢◌, ◌⊎◌, ℕ, ◌+◌, ◌-◌, ◌<◌, ◌≤◌, Bool, true, false, cond, List, [], ◌∷◌, ◌&&◌, ◌||◌}
use Rattle.std.proofs.Common.{Option, Some, None, is_some, refl, sym, ap, ◌∙◌, subst, inl, inr, arith}
use Rattle.std.specs.Prelude.{ℤ, pos, ◌<ℤ◌, option_map, unwrap_or, is_none, nat_le, nat_lt}
use Rattle.std.specs.FinMap as map
use Rattle.std.specs.FinMap.{get-empty, len-empty, len-insert, len-remove, contains_key-keys, nat_cmp-IsAntisymmetric}
use Rattle.std.specs.List.{find, list_any}
use Rattle.std.specs.Option.{option_map_or}
use Rattle.std.specs.Ordering.{int_eq, nat_cmp, eq_by_cmp}
use Rattle.std.specs.Cmp.{nat_cmp_total, signed_Decides}
use Rattle.std.proofs.lemmas.Int.{ints}
use Rattle.std.proofs.lemmas.Bool.{false≢true}
use borrow.Author.Tests.{leb-false, ltb-false}
use Rattle.tree_paths.specs.declared.limits.Limits.{Limits}
use Rattle.tree_paths.specs.declared.refusal.Refusal.TheVariants.{Eexist, Enotdir, Enospc}
use Rattle.watch_table.specs.Masks.{has_any, stored}
use Rattle.record_codec.specs.declared.bits.TheConstants.{IN_MASK_CREATE}
use Rattle.tree_paths.specs.Rows.{row, first_row}
use Rattle.watch_table.specs.declared.watch.Watch.{Watch}
use Rattle.watch_table.specs.Watching.{Watching, IsSound, added, add_refusal, dropped}
use Rattle.watch_table.specs.Watching.{is_barred, is_full, is_taken, next_bits, no_watches, watched_by, watch_of}
use Rattle.watch_table.specs.Watching.{wd_added, wd_of, with_new_watch}
use Rattle.watch_table.proofs.Maps.{tie, get-insert_here, get-insert_other, get-remove_here, get-remove_other}

pub some_none : {A : Type 0} {o : Option A} {x : A} → o ≡ None → o ≡ Some x → ⊥
some_none e f = cc

pub same_some : {A : Type 0} {x y : A} → Some x ≡ Some y → x ≡ y
same_some e = cc

-- ---- parts of definitions

-- a watch is of a descriptor
abbrev pub has_wd : ℤ → Option Watch → Bool
has_wd wd o = option_map_or (λ watch. int_eq watch.wd wd) o false

-- the descriptor of a watch, or another one where there is none
abbrev pub wd_or : Option Watch → ℤ → ℤ
wd_or o wd = unwrap_or (option_map (λ watch. watch.wd) o) wd

-- the watches with other bits of a file's watch
abbrev pub with_bits : Watching → ℕ → ℤ → ℕ → Watching
with_bits w number wd bits = record w { watches = map.insert w.watches number (record { wd = wd; mask = bits }) }

-- the watches after a call to watch a file that has this watch
abbrev pub added_to : Watching → ℕ → ℕ → Option Watch → Watching
added_to w number mask o =
    option_map_or (λ watch. with_bits w number watch.wd (next_bits mask watch.mask)) o (with_new_watch w number (stored mask))

-- the watches without that of a file, if there is one
abbrev pub without : Watching → Option ℕ → Watching
without w o = option_map_or (dropped w) o w

-- ---- the file of a descriptor

find-passes : (p : ℕ → Bool) (xs : List ℕ) (n : ℕ) → find p xs ≡ Some n → p n ≡ true
find-passes p [] n e = absurd (some_none refl e)
find-passes p (x ∷ xs) n e =
    elim (p x) as (λ b. p x ≡ b → cond b (Some x) (find p xs) ≡ Some n → p n ≡ true) [
      | true ↦ λ is e. ap p (sym (same_some e)) ∙ is
      | false ↦ λ is e. find-passes p xs n e
    ] refl e

find-misses : (p : ℕ → Bool) (xs : List ℕ) (n : ℕ) → find p xs ≡ None → list_any (eq_by_cmp nat_cmp n) xs ≡ true → p n ≡ false
find-misses p [] n e h = absurd (false≢true h)
find-misses p (x ∷ xs) n e h =
    elim (p x) as (λ b. p x ≡ b → cond b (Some x) (find p xs) ≡ None → p n ≡ false) [
      | true ↦ λ is e. absurd (some_none e refl)
      | false ↦ λ is e. elim (tie nat_cmp_total nat_cmp-IsAntisymmetric n x) [
        | inl w ↦ ap p w.0 ∙ is
        | inr w ↦ find-misses p xs n e (sym (ap (λ b. b || list_any (eq_by_cmp nat_cmp n) xs) w.1) ∙ h)
      ]
    ] refl e

has_wd-true : (wd : ℤ) (o : Option Watch) → has_wd wd o ≡ true → option_map (λ watch. watch.wd) o ≡ Some wd
has_wd-true wd None h = absurd (false≢true h)
has_wd-true wd (Some watch) h = ap Some ((signed_Decides watch.wd wd).0 h)

has_wd-of : (wd : ℤ) (o : Option Watch) → option_map (λ watch. watch.wd) o ≡ Some wd → (has_wd wd o ≡ true) × (is_some o ≡ true)
has_wd-of wd None h = absurd (some_none refl h)
has_wd-of wd (Some watch) h = ((signed_Decides watch.wd wd).1 (same_some h), refl)

pub watched_by-some : (w : Watching) (wd : ℤ) (n : ℕ) → watched_by w wd ≡ Some n → wd_of w n ≡ Some wd
unfolding watched_by
watched_by-some w wd n e = has_wd-true wd (watch_of w n) (find-passes (λ number. has_wd wd (watch_of w number)) (map.keys w.watches) n e)

pub watched_by-none : (w : Watching) (wd : ℤ) (n : ℕ) → watched_by w wd ≡ None → wd_of w n ≢ Some wd
unfolding watched_by
watched_by-none w wd n e h =
    let has = has_wd-of wd (watch_of w n) h in
    let there : list_any (eq_by_cmp nat_cmp n) (map.keys w.watches) ≡ true = sym (contains_key-keys w.watches n) ∙ has.1 in
    false≢true (sym (find-misses (λ number. has_wd wd (watch_of w number)) (map.keys w.watches) n e there) ∙ has.0)

-- the file of a descriptor is the one that any look-up finds which has just the watches
pub watched_by-by : (w : Watching) (wd : ℤ) (o : Option ℕ) → ((n : ℕ) → o ≡ Some n → wd_of w n ≡ Some wd)
    → ((n : ℕ) → wd_of w n ≡ Some wd → o ≡ Some n) → watched_by w wd ≡ o
watched_by-by w wd None watched indexed =
    elim (watched_by w wd) as (λ r. watched_by w wd ≡ r → r ≡ None) [
      | None ↦ λ e. refl
      | Some m ↦ λ e. sym (indexed m (watched_by-some w wd m e))
    ] refl
watched_by-by w wd (Some n) watched indexed =
    elim (watched_by w wd) as (λ r. watched_by w wd ≡ r → r ≡ Some n) [
      | None ↦ λ e. absurd (watched_by-none w wd n e (watched n refl))
      | Some m ↦ λ e. sym (indexed m (watched_by-some w wd m e))
    ] refl

pub watched_by-watched : (w : Watching) → IsSound w → (wd : ℤ) (n : ℕ) → wd_of w n ≡ Some wd → watched_by w wd ≡ Some n
watched_by-watched w sound wd n h =
    watched_by-by w wd (Some n) (λ m e. ap (wd_of w) (sym (same_some e)) ∙ h) (λ m g. ap Some (sound.apart n m wd h g))

pub watched_by-unwatched : (w : Watching) (wd : ℤ) → ((n : ℕ) → wd_of w n ≢ Some wd) → watched_by w wd ≡ None
watched_by-unwatched w wd h = watched_by-by w wd None (λ n e. absurd (some_none refl e)) (λ n g. absurd (h n g))

-- ---- what is true of the watches of each instance

pub no_watches-IsSound : (limits : Limits) → IsSound (no_watches limits)
no_watches-IsSound limits =
    let none : (n : ℕ) → wd_of (no_watches limits) n ≡ None = λ n. ap (option_map (λ (watch : Watch). watch.wd)) (get-empty nat_cmp n) in
    record {
      given = λ n wd h. absurd (some_none (none n) h);
      apart = λ m n wd h g. absurd (some_none (none m) h);
      first = omega arith;
      last = let in_range = limits.wds_in in omega arith;
      small = let in_range = limits.wds_in in omega arith;
      held = let empty = len-empty nat_cmp Watch in omega arith;
    }

-- the descriptors, where a file's watch is put in, and where it is taken out
module _ (w : Watching) (number : ℕ) (watch : Watch) (next : ℕ) where
  abbrev put_in : Watching
  put_in = record w { watches = map.insert w.watches number watch; next_wd = next }

  pub wd_of-put_here : wd_of put_in number ≡ Some watch.wd
  wd_of-put_here = ap (option_map (λ (x : Watch). x.wd)) (get-insert_here w.watches number watch)

  pub wd_of-put_other : (n : ℕ) → n ≢ number → wd_of put_in n ≡ wd_of w n
  wd_of-put_other n off = ap (option_map (λ (x : Watch). x.wd)) (get-insert_other w.watches number watch n off)

module _ (w : Watching) (number : ℕ) where
  pub wd_of-dropped_here : wd_of (dropped w number) number ≡ None
  unfolding dropped
  wd_of-dropped_here = ap (option_map (λ (x : Watch). x.wd)) (get-remove_here w.watches number)

  pub wd_of-dropped_other : (n : ℕ) → n ≢ number → wd_of (dropped w number) n ≡ wd_of w n
  unfolding dropped
  wd_of-dropped_other n off = ap (option_map (λ (x : Watch). x.wd)) (get-remove_other w.watches number n off)

  -- what is watched after a drop was so before
  pub wd_of-dropped : (n : ℕ) (wd : ℤ) → wd_of (dropped w number) n ≡ Some wd → (n ≢ number) × (wd_of w n ≡ Some wd)
  wd_of-dropped n wd h =
      elim (tie nat_cmp_total nat_cmp-IsAntisymmetric n number) [
        | inl t ↦ absurd (some_none (ap (wd_of (dropped w number)) t.0 ∙ wd_of-dropped_here) h)
        | inr t ↦ (t.0, sym (wd_of-dropped_other n t.0) ∙ h)
      ]

at_most : (b : Bool) (n m : ℕ) → n ≤ m → cond b (n - 1) n ≤ m
at_most true n m h = omega arith
at_most false n m h = h

pub dropped-IsSound : (w : Watching) (number : ℕ) → IsSound w → IsSound (dropped w number)
unfolding dropped
dropped-IsSound w number sound =
    record {
      given = λ n wd h. sound.given n wd (wd_of-dropped w number n wd h).1;
      apart = λ m n wd h g. sound.apart m n wd (wd_of-dropped w number m wd h).1 (wd_of-dropped w number n wd g).1;
      first = sound.first;
      last = sound.last;
      small = sound.small;
      held = subst (λ n. n ≤ w.most_watches) (sym (len-remove nat_cmp_total w.watches number)) (at_most _ _ _ sound.held);
    }

-- a file that was watched has its descriptor still
module _ (w : Watching) (number : ℕ) (wd : ℤ) (bits : ℕ) where
  abbrev kept : Watching
  kept = put_in w number (record { wd = wd; mask = bits }) w.next_wd

  pub wd_of-kept : wd_of w number ≡ Some wd → (n : ℕ) → wd_of kept n ≡ wd_of w n
  wd_of-kept was n =
      elim (tie nat_cmp_total nat_cmp-IsAntisymmetric n number) [
        | inl t ↦ ap (wd_of kept) t.0 ∙ wd_of-put_here w number (record { wd = wd; mask = bits }) w.next_wd ∙ sym was ∙ ap (wd_of w) (sym t.0)
        | inr t ↦ wd_of-put_other w number (record { wd = wd; mask = bits }) w.next_wd n t.0
      ]

  pub kept-IsSound : IsSound w → (watch : Watch) → watch_of w number ≡ Some watch → watch.wd ≡ wd → IsSound kept
  kept-IsSound sound watch was is =
      let same = wd_of-kept (ap (option_map (λ (x : Watch). x.wd)) was ∙ ap Some is) in
      record {
        given = λ n q h. sound.given n q (sym (same n) ∙ h);
        apart = λ m n q h g. sound.apart m n q (sym (same m) ∙ h) (sym (same n) ∙ g);
        first = sound.first;
        last = sound.last;
        small = sound.small;
        held =
            subst (λ n. n ≤ w.most_watches)
            (sym
            (len-insert nat_cmp_total w.watches number (record { wd = wd; mask = bits })
            ∙ ap (λ o. cond (is_some o) (map.len w.watches) (map.len w.watches + 1)) was))
            sound.held;
      }

-- the next descriptor was not given before
pub new-apart : (w : Watching) → IsSound w → (n : ℕ) (wd : ℤ) → wd_of w n ≡ Some wd → wd ≢ pos w.next_wd
new-apart w sound n wd h is =
    let range = sound.given n wd h in
    let below : pos w.next_wd <ℤ pos w.next_wd = subst (λ z. z <ℤ pos w.next_wd) is range.1 in
    omega (arith, ints)

-- a file that was not watched gets a new descriptor
module _ (w : Watching) (number : ℕ) (bits : ℕ) where
  abbrev new : Watching
  new = put_in w number (record { wd = pos w.next_wd; mask = bits }) (w.next_wd + 1)

  -- each watch is the new one, or was there
  pub wd_of-new : (n : ℕ) (wd : ℤ) → wd_of new n ≡ Some wd → ((n ≡ number) × (wd ≡ pos w.next_wd)) ⊎ ((n ≢ number) × (wd_of w n ≡ Some wd))
  wd_of-new n wd h =
      elim (tie nat_cmp_total nat_cmp-IsAntisymmetric n number) [
        | inl t ↦ inl (t.0, same_some (sym h ∙ ap (wd_of new) t.0 ∙ wd_of-put_here w number (record { wd = pos w.next_wd; mask = bits }) (w.next_wd + 1)))
        | inr t ↦ inr (t.0, sym (wd_of-put_other w number (record { wd = pos w.next_wd; mask = bits }) (w.next_wd + 1) n t.0) ∙ h)
      ]

  pub new-IsSound : IsSound w → watch_of w number ≡ None → map.len w.watches < w.most_watches → w.next_wd ≤ w.last_wd → IsSound new
  new-IsSound sound was room left =
      record {
        given = λ n wd h. elim (wd_of-new n wd h) [
          | inl t ↦
              let first = sound.first in
              let e = t.1 in
              (omega (arith, ints), omega (arith, ints))
          | inr t ↦
              let range = sound.given n wd t.1 in
              (range.0, omega (arith, ints))
        ];
        apart = λ m n wd h g. elim (wd_of-new m wd h) [
          | inl t ↦ elim (wd_of-new n wd g) [
            | inl u ↦ t.0 ∙ sym u.0
            | inr u ↦ absurd (new-apart w sound n wd u.1 t.1)
          ]
          | inr t ↦ elim (wd_of-new n wd g) [
            | inl u ↦ absurd (new-apart w sound m wd t.1 u.1)
            | inr u ↦ sound.apart m n wd t.1 u.1
          ]
        ];
        first = omega arith;
        last = omega arith;
        small = sound.small;
        held =
            subst (λ n. n ≤ w.most_watches)
            (sym
            (len-insert nat_cmp_total w.watches number (record { wd = pos w.next_wd; mask = bits })
            ∙ ap (λ o. cond (is_some o) (map.len w.watches) (map.len w.watches + 1)) was))
            (omega arith);
      }

-- ---- what a call to watch a file is refused for

is_full-room : (a b : Bool) → (a || b) ≡ false → (a ≡ false) × (b ≡ false)
is_full-room false b h = (refl, h)
is_full-room true b h = absurd (false≢true (sym h))

pub room_of : (w : Watching) → is_full w ≡ false → (map.len w.watches < w.most_watches) × (w.next_wd ≤ w.last_wd)
room_of w h =
    let parts = is_full-room (nat_le w.most_watches (map.len w.watches)) (nat_lt w.last_wd w.next_wd) h in
    (leb-false w.most_watches (map.len w.watches) parts.0, ltb-false w.last_wd w.next_wd parts.1)

pub no_watch : (o : Option Watch) → option_map (λ watch. watch.wd) o ≡ None → o ≡ None
no_watch None e = refl
no_watch (Some watch) e = absurd (some_none e refl)

pub a_watch : (o : Option Watch) (wd : ℤ) → option_map (λ watch. watch.wd) o ≡ Some wd → (watch : Watch) × (o ≡ Some watch)
a_watch None wd e = absurd (some_none refl e)
a_watch (Some watch) wd e = (watch, refl)

none_and : (b : Bool) → (b && false) ≡ false
none_and true = refl
none_and false = refl

module _ (w : Watching) (number mask : ℕ) (is_directory : Bool) where
  by_tests : (a b d : Bool) → is_barred mask is_directory ≡ a → is_taken mask (watch_of w number) ≡ b → (is_none (watch_of w number) && is_full w) ≡ d
      → add_refusal w number mask is_directory ≡ first_row (row a Enotdir ∷ row b Eexist ∷ row d Enospc ∷ [])
  unfolding add_refusal
  by_tests a b d e f g =
      ap (λ x. first_row (row x Enotdir ∷ row (is_taken mask (watch_of w number)) Eexist ∷ row (is_none (watch_of w number) && is_full w) Enospc ∷ [])) e
      ∙ ap (λ x. first_row (row a Enotdir ∷ row x Eexist ∷ row (is_none (watch_of w number) && is_full w) Enospc ∷ [])) f
      ∙ ap (λ x. first_row (row a Enotdir ∷ row b Eexist ∷ row x Enospc ∷ [])) g

  pub refused_as_barred : is_barred mask is_directory ≡ true → add_refusal w number mask is_directory ≡ Some Enotdir
  refused_as_barred barred = by_tests true (is_taken mask (watch_of w number)) (is_none (watch_of w number) && is_full w) barred refl refl

  pub refused_as_taken : is_barred mask is_directory ≡ false → is_taken mask (watch_of w number) ≡ true → add_refusal w number mask is_directory ≡ Some Eexist
  refused_as_taken may taken = by_tests false true (is_none (watch_of w number) && is_full w) may taken refl

  -- a file without a watch is not taken
  not_taken : wd_of w number ≡ None → is_taken mask (watch_of w number) ≡ false
  not_taken none = ap (is_taken mask) (no_watch (watch_of w number) none) ∙ none_and (has_any mask IN_MASK_CREATE)

  pub refused_as_full : is_barred mask is_directory ≡ false → wd_of w number ≡ None → is_full w ≡ true → add_refusal w number mask is_directory ≡ Some Enospc
  refused_as_full may none full = by_tests false false true may (not_taken none) (ap (λ o. is_none o && is_full w) (no_watch (watch_of w number) none) ∙ full)

  pub not_refused_watched : is_barred mask is_directory ≡ false → is_taken mask (watch_of w number) ≡ false → (wd : ℤ)
      → wd_of w number ≡ Some wd → add_refusal w number mask is_directory ≡ None
  not_refused_watched may free wd there = by_tests false false false may free (ap (λ o. is_none o && is_full w) (a_watch (watch_of w number) wd there).1)

  pub not_refused_room : is_barred mask is_directory ≡ false → wd_of w number ≡ None → is_full w ≡ false → add_refusal w number mask is_directory ≡ None
  not_refused_room may none room =
      by_tests false false false may (not_taken none)
      (ap (λ b. is_none (watch_of w number) && b) room ∙ none_and (is_none (watch_of w number)))

-- ---- what a call to watch a file makes

module _ (w : Watching) (number mask : ℕ) where
  pub added-watched : (watch : Watch) → watch_of w number ≡ Some watch → added w number mask ≡ with_bits w number watch.wd (next_bits mask watch.mask)
  unfolding added
  added-watched watch there = ap (added_to w number mask) there

  pub added-new : wd_of w number ≡ None → added w number mask ≡ with_new_watch w number (stored mask)
  unfolding added
  added-new none = ap (added_to w number mask) (no_watch (watch_of w number) none)

module _ (w : Watching) (number : ℕ) where
  pub wd_added-watched : (wd : ℤ) → wd_of w number ≡ Some wd → wd_added w number ≡ wd
  unfolding wd_added
  wd_added-watched wd there =
      let found = a_watch (watch_of w number) wd there in
      ap (λ o. wd_or o (pos w.next_wd)) found.1 ∙ same_some (sym (ap (option_map (λ (x : Watch). x.wd)) found.1) ∙ there)

  pub wd_added-new : wd_of w number ≡ None → wd_added w number ≡ pos w.next_wd
  unfolding wd_added
  wd_added-new none = ap (λ o. wd_or o (pos w.next_wd)) (no_watch (watch_of w number) none)
