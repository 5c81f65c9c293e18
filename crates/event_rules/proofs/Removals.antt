-- Watches without those of some descriptors, and without those that notices end.
use Rattle.std.proofs.Common.{◌≡◌, ◌≢◌, ◌⊎◌, ◌↔◌, ℕ, Bool, true, false, ◌||◌, if◌then◌else◌, cond, List, [], ◌∷◌}
use Rattle.std.proofs.Common.{Option, Some, None, refl, sym, ap, ◌∙◌, inl, inr}
use Rattle.std.specs.Prelude.{ℤ, fold, option_map}
use Rattle.std.specs.List.{list_any}
use Rattle.std.specs.Option.{option_map_or}
use Rattle.std.specs.FinMap.{get-remove, nat_cmp-IsAntisymmetric}
use Rattle.std.specs.Cmp.{nat_cmp_total, signed_Decides, tied_itself, int_eq_equiv}
use Rattle.std.specs.Ordering.{nat_cmp, int_eq, eq_by_cmp, is_eq}
use Rattle.std.specs.declared.cmp.Ordering.TheVariants.{Less, Equal, Greater}
use Rattle.std.proofs.lemmas.List.Sums.{fold-append}
use Rattle.watch_table.specs.declared.watch.Watch.{Watch}
use Rattle.watch_table.specs.Watching.{IsSound, Watching, dropped, watched_by, removed, watch_of, wd_of}
use Rattle.watch_table.proofs.Watched.{has_wd, without}
use Rattle.event_rules.specs.declared.notice.Notice.{Notice}
use Rattle.event_rules.specs.Raised.{told_number, ends_watch, ended, ended_by, left, raised_at, watches_after, wds_ended}
use Rattle.record_codec.specs.declared.event.Event.{Event}
use Rattle.event_rules.specs.Laws.{watch_without}

-- ---- parts of definitions

-- the events that a notice raises
abbrev pub raised : Watching → Notice → List Event
raised w n = raised_at n (watch_of w (told_number n))

-- the watches that it leaves, where its file has this one
abbrev pub left_by : Watching → Notice → Option Watch → Watching
left_by w n o = option_map_or (λ watch. if ends_watch n watch then dropped w (told_number n) else w) o w

-- ---- the watches without that of a file

pub same_or_not : (n m : ℕ) → ((n ≡ m) × (eq_by_cmp nat_cmp n m ≡ true)) ⊎ ((n ≢ m) × (eq_by_cmp nat_cmp n m ≡ false))
same_or_not n m =
    elim (nat_cmp n m) as (λ o. nat_cmp n m ≡ o → ((n ≡ m) × (is_eq o ≡ true)) ⊎ ((n ≢ m) × (is_eq o ≡ false))) [
      | Less ↦ λ e. inr (λ is. let same : nat_cmp n m ≡ Equal = ap (nat_cmp n) (sym is) ∙ tied_itself nat_cmp_total n in cc, refl)
      | Equal ↦ λ e. inl (nat_cmp-IsAntisymmetric n m e, refl)
      | Greater ↦ λ e. inr (λ is. let same : nat_cmp n m ≡ Equal = ap (nat_cmp n) (sym is) ∙ tied_itself nat_cmp_total n in cc, refl)
    ] refl

module _ (w : Watching) (number : ℕ) where
  dropped-by : (n : ℕ) → watch_of (dropped w number) n ≡ cond (eq_by_cmp nat_cmp n number) None (watch_of w n)
  unfolding dropped
  dropped-by n = get-remove nat_cmp_total w.watches number n

  pub dropped-here : watch_of (dropped w number) number ≡ None
  dropped-here = dropped-by number ∙ elim (same_or_not number number) [
    | inl t ↦ ap (λ b. cond b None (watch_of w number)) t.1
    | inr t ↦ absurd (t.0 refl)
  ]

  pub dropped-other : (n : ℕ) → n ≢ number → watch_of (dropped w number) n ≡ watch_of w n
  dropped-other n off = dropped-by n ∙ elim (same_or_not n number) [
    | inl t ↦ absurd (off t.0)
    | inr t ↦ ap (λ b. cond b None (watch_of w n)) t.1
  ]

pub some_none : {A : Type 0} {o : Option A} {x : A} → o ≡ None → o ≡ Some x → ⊥
some_none e f = cc

pub same_some : {A : Type 0} {x y : A} → Some x ≡ Some y → x ≡ y
same_some e = cc

-- the watch of a file, or none
pub watched_or_not : (o : Option Watch) → ((watch : Watch) × (o ≡ Some watch)) ⊎ (o ≡ None)
watched_or_not (Some watch) = inl (watch, refl)
watched_or_not None = inr refl

pub test : (b : Bool) → (b ≡ true) ⊎ (b ≡ false)
test true = inl refl
test false = inr refl

-- what stays after a drop was there before
pub dropped-was : (w : Watching) (number n : ℕ) (watch : Watch) → watch_of (dropped w number) n ≡ Some watch → (n ≢ number) × (watch_of w n ≡ Some watch)
dropped-was w number n watch h =
    elim (same_or_not n number) [
      | inl t ↦ absurd (some_none (ap (watch_of (dropped w number)) t.0 ∙ dropped-here w number) h)
      | inr t ↦ (t.0, sym (dropped-other w number n t.0) ∙ h)
    ]

pub wd-of : (w : Watching) (number : ℕ) (watch : Watch) → watch_of w number ≡ Some watch → wd_of w number ≡ Some watch.wd
wd-of w number watch there = ap (option_map (λ (x : Watch). x.wd)) there

-- ---- the watches that a notice leaves

-- all of them, or all but that of its file
module _ (P : Watching → Type 0) (w : Watching) (n : Notice) (all : P w) (others : P (dropped w (told_number n))) where
  either-by : (o : Option Watch) → P (left_by w n o)
  either-by None = all
  either-by (Some watch) = by (ends_watch n watch)
    where
      by : (b : Bool) → P (if b then dropped w (told_number n) else w)
      by true = others
      by false = all

  pub left-either : P (left w n)
  unfolding left
  left-either = either-by (watch_of w (told_number n))

-- ---- a watch of a descriptor, by the laws on descriptors

-- what is known of sound watches
pub record Known : Type 0 where
  pub tells : (w : Watching) (wd : ℤ) (number : ℕ) → IsSound w → (watched_by w wd ≡ Some number) ↔ (wd_of w number ≡ Some wd)
  pub after_removed : (w : Watching) (wd : ℤ) → IsSound w → IsSound (removed w wd)
  pub after_dropped : (w : Watching) (number : ℕ) → IsSound w → IsSound (dropped w number)

has_wd-none : (wd : ℤ) (o : Option Watch) → option_map (λ (x : Watch). x.wd) o ≢ Some wd → has_wd wd o ≡ false
has_wd-none wd None h = refl
has_wd-none wd (Some watch) h = elim (test (int_eq watch.wd wd)) [
  | inl t ↦ absurd (h (ap Some ((signed_Decides watch.wd wd).0 t)))
  | inr t ↦ t
]

-- the watch, where it has another descriptor
abbrev unless_of : ℤ → Option Watch → Option Watch
unless_of wd o = if has_wd wd o then None else o

watch_without-cons : (wd : ℤ) (wds : List ℤ) (o : Option Watch) → watch_without wds (unless_of wd o) ≡ watch_without (wd ∷ wds) o
watch_without-cons wd wds None = refl
watch_without-cons wd wds (Some watch) =
    by (int_eq watch.wd wd) ∙ ap (λ b. if b || list_any (λ x. int_eq x watch.wd) wds then None else Some watch) (int_eq_equiv.symm watch.wd wd)
  where
    by : (b : Bool) → watch_without wds (if b then None else Some watch) ≡ (if b || list_any (λ x. int_eq x watch.wd) wds then None else Some watch)
    by true = refl
    by false = refl

watch_without-none : (o : Option Watch) → watch_without [] o ≡ o
watch_without-none None = refl
watch_without-none (Some watch) = refl

module _ (known : Known) where
  -- the descriptor of a file that is watched
  pub removed-dropped : (w : Watching) (number : ℕ) (watch : Watch) → IsSound w → watch_of w number ≡ Some watch → removed w watch.wd ≡ dropped w number
  removed-dropped w number watch sound there = ap (without w) ((known.tells w watch.wd number sound).1 (wd-of w number watch there))

  watch-removed-by : (w : Watching) (wd : ℤ) (n : ℕ) (o : Option ℕ) → IsSound w → watched_by w wd ≡ o → watch_of (without w o) n ≡ unless_of wd (watch_of w n)
  watch-removed-by w wd n None sound is =
      let off : has_wd wd (watch_of w n) ≡ false = has_wd-none wd (watch_of w n) (λ h. some_none is ((known.tells w wd n sound).1 h)) in
      ap (λ b. if b then None else watch_of w n) (sym off)
  watch-removed-by w wd n (Some number) sound is =
      elim (same_or_not n number) [
        | inl t ↦ elim (watched_or_not (watch_of w n)) [
          | inl there ↦
              let same : Some there.0.wd ≡ Some wd = sym (wd-of w n there.0 there.1) ∙ ap (wd_of w) t.0 ∙ (known.tells w wd number sound).0 is in
              let has : has_wd wd (watch_of w n) ≡ true = ap (has_wd wd) there.1 ∙ (signed_Decides there.0.wd wd).1 (same_some same) in
              ap (watch_of (dropped w number)) t.0 ∙ dropped-here w number ∙ ap (λ b. if b then None else watch_of w n) (sym has)
          | inr none ↦ absurd (some_none (ap (option_map (λ (x : Watch). x.wd)) none) (ap (wd_of w) t.0 ∙ (known.tells w wd number sound).0 is))
        ]
        | inr t ↦
            let off : has_wd wd (watch_of w n) ≡ false = has_wd-none wd (watch_of w n) (λ h. t.0 (same_some (sym ((known.tells w wd n sound).1 h) ∙ is))) in
            dropped-other w number n t.0 ∙ ap (λ b. if b then None else watch_of w n) (sym off)
      ]

  pub watch-removed : (w : Watching) (wds : List ℤ) (n : ℕ) → IsSound w → watch_of (fold removed w wds) n ≡ watch_without wds (watch_of w n)
  watch-removed w [] n sound = sym (watch_without-none (watch_of w n))
  watch-removed w (wd ∷ wds) n sound =
      watch-removed (removed w wd) wds n (known.after_removed w wd sound)
      ∙ ap (watch_without wds) (watch-removed-by w wd n (watched_by w wd) sound refl)
      ∙ watch_without-cons wd wds (watch_of w n)

  -- ---- the watches that notices leave

  pub left-IsSound : (w : Watching) (n : Notice) → IsSound w → IsSound (left w n)
  left-IsSound w n sound = left-either IsSound w n sound (known.after_dropped w (told_number n) sound)

  left-by : (w : Watching) (n : Notice) (o : Option Watch) → IsSound w → watch_of w (told_number n) ≡ o → fold removed w (ended_by n o) ≡ left_by w n o
  left-by w n None sound is = refl
  left-by w n (Some watch) sound is = by (ends_watch n watch)
    where
      by : (b : Bool) → fold removed w (if b then watch.wd ∷ [] else []) ≡ (if b then dropped w (told_number n) else w)
      by true = removed-dropped w (told_number n) watch sound is
      by false = refl

  pub left-removed : (w : Watching) (n : Notice) → IsSound w → fold removed w (ended w n) ≡ left w n
  unfolding left ended
  left-removed w n sound = left-by w n (watch_of w (told_number n)) sound refl

  pub removed-ended : (w : Watching) (ns : List Notice) → IsSound w → fold removed w (wds_ended w ns) ≡ watches_after w ns
  removed-ended w [] sound = refl
  removed-ended w (n ∷ ns) sound =
      fold-append removed w (ended w n) (wds_ended (left w n) ns)
      ∙ ap (λ x. fold removed x (wds_ended (left w n) ns)) (left-removed w n sound)
      ∙ removed-ended (left w n) ns (left-IsSound w n sound)
