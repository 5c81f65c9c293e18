-- What each call makes of sound watches, and of descriptors whose watches have ended.
use Rattle.std.proofs.Common.{◌≡◌, ◌≢◌, ◌⊎◌, ℕ, Bool, true, false, Option, Some, None, refl, sym, ap, ◌∙◌, subst, inl, inr, arith}
use Rattle.std.specs.Prelude.{ℤ, pos, ◌≤ℤ◌, ◌<ℤ◌, option_map}
use Rattle.std.proofs.lemmas.Int.{ints}
use Rattle.watch_table.specs.Masks.{stored}
use Rattle.watch_table.specs.declared.watch.Watch.{Watch}
use Rattle.watch_table.specs.Watching.{HasEnded, IsSound, Watching, added, add_refusal, dropped, is_barred}
use Rattle.watch_table.specs.Watching.{is_full, next_bits, watched_by, removed, watch_of, wd_of}
use Rattle.watch_table.specs.Watching.{with_new_watch}
use Rattle.watch_table.proofs.Watched.{with_bits, without}
use Rattle.watch_table.proofs.Watched.{added-new, added-watched, dropped-IsSound, kept-IsSound, new-IsSound}
use Rattle.watch_table.proofs.Watched.{watched_by-none, watched_by-some, watched_by-unwatched, refused_as_barred}
use Rattle.watch_table.proofs.Watched.{refused_as_full, room_of, some_none, wd_of-dropped, wd_of-kept, wd_of-new}

-- the watch of a file, or none
watched_or_not : (o : Option Watch) → ((watch : Watch) × (o ≡ Some watch)) ⊎ (o ≡ None)
watched_or_not (Some watch) = inl (watch, refl)
watched_or_not None = inr refl

test : (b : Bool) → (b ≡ true) ⊎ (b ≡ false)
test true = inl refl
test false = inr refl

module _ (w : Watching) (number mask : ℕ) (is_directory : Bool) where
  -- a new watch is accepted only if the table is not full
  room_accepted : add_refusal w number mask is_directory ≡ None → wd_of w number ≡ None → is_full w ≡ false
  room_accepted accepted none =
      elim (test (is_barred mask is_directory)) [
        | inl barred ↦ absurd (some_none accepted (refused_as_barred w number mask is_directory barred))
        | inr may ↦ elim (test (is_full w)) [
          | inl full ↦ absurd (some_none accepted (refused_as_full w number mask is_directory may none full))
          | inr room ↦ room
        ]
      ]

  pub added-IsSound : IsSound w → add_refusal w number mask is_directory ≡ None → IsSound (added w number mask)
  added-IsSound sound accepted =
      elim (watched_or_not (watch_of w number)) [
        | inl found ↦
            subst IsSound (sym (added-watched w number mask found.0 found.1))
            (kept-IsSound w number found.0.wd (next_bits mask found.0.mask) sound found.0 found.1 refl)
        | inr none ↦
            let unwatched : wd_of w number ≡ None = ap (option_map (λ (x : Watch). x.wd)) none in
            let room = room_of w (room_accepted accepted unwatched) in
            subst IsSound (sym (added-new w number mask unwatched)) (new-IsSound w number (stored mask) sound none room.0 room.1)
      ]

without-by : (P : Watching → Type 0) (w : Watching) (o : Option ℕ) → P w → ((number : ℕ) → P (dropped w number)) → P (without w o)
without-by P w None here there = here
without-by P w (Some number) here there = there number

pub removed-IsSound : (w : Watching) (wd : ℤ) → IsSound w → IsSound (removed w wd)
removed-IsSound w wd sound = without-by IsSound w (watched_by w wd) sound (λ number. dropped-IsSound w number sound)

-- ---- descriptors whose watches have ended

-- by the files
ended_by : (w : Watching) (wd : ℤ) → (pos 1 ≤ℤ wd) × (wd <ℤ pos w.next_wd) → ((n : ℕ) → wd_of w n ≢ Some wd) → HasEnded w wd
ended_by w wd given none = record { given = given; unwatched = watched_by-unwatched w wd none }

dropped-next : (w : Watching) (number : ℕ) → (dropped w number).next_wd ≡ w.next_wd
unfolding dropped
dropped-next w number = refl

still_given : (w : Watching) (number : ℕ) (wd : ℤ) → (pos 1 ≤ℤ wd) × (wd <ℤ pos w.next_wd) → (pos 1 ≤ℤ wd) × (wd <ℤ pos (dropped w number).next_wd)
still_given w number wd given = (given.0, subst (λ n. wd <ℤ pos n) (sym (dropped-next w number)) given.1)

pub ends_by_drop : (w : Watching) (wd : ℤ) (number : ℕ) → IsSound w → wd_of w number ≡ Some wd → HasEnded (dropped w number) wd
ends_by_drop w wd number sound was =
    ended_by (dropped w number) wd (still_given w number wd (sound.given number wd was)) (λ n h.
    let there = wd_of-dropped w number n wd h in
    there.0 (sound.apart n number wd there.1 was))

pub ends_by_remove : (w : Watching) (wd : ℤ) (number : ℕ) → IsSound w → watched_by w wd ≡ Some number → HasEnded (removed w wd) wd
ends_by_remove w wd number sound found =
    subst (λ o. HasEnded (without w o) wd) (sym found) (ends_by_drop w wd number sound (watched_by-some w wd number found))

pub HasEnded-dropped : (w : Watching) (wd : ℤ) (number : ℕ) → HasEnded w wd → HasEnded (dropped w number) wd
HasEnded-dropped w wd number ended =
    ended_by (dropped w number) wd (still_given w number wd ended.given) (λ n h. watched_by-none w wd n ended.unwatched (wd_of-dropped w number n wd h).1)

pub HasEnded-removed : (w : Watching) (wd other : ℤ) → HasEnded w wd → HasEnded (removed w other) wd
HasEnded-removed w wd other ended = without-by (λ x. HasEnded x wd) w (watched_by w other) ended (λ number. HasEnded-dropped w wd number ended)

pub HasEnded-added : (w : Watching) (wd : ℤ) (number mask : ℕ) → HasEnded w wd → HasEnded (added w number mask) wd
HasEnded-added w wd number mask ended =
    elim (watched_or_not (watch_of w number)) [
      | inl found ↦
          let kept = with_bits w number found.0.wd (next_bits mask found.0.mask) in
          let stays = wd_of-kept w number found.0.wd (next_bits mask found.0.mask) (ap (option_map (λ (x : Watch). x.wd)) found.1) in
          subst (λ x. HasEnded x wd) (sym (added-watched w number mask found.0 found.1))
          (ended_by kept wd ended.given (λ n h. watched_by-none w wd n ended.unwatched (sym (stays n) ∙ h)))
      | inr none ↦
          let made = with_new_watch w number (stored mask) in
          let given = ended.given.1 in
          subst (λ x. HasEnded x wd) (sym (added-new w number mask (ap (option_map (λ (x : Watch). x.wd)) none)))
          (ended_by made wd (ended.given.0, omega (arith, ints)) (λ n h. elim (wd_of-new w number (stored mask) n wd h) [
            | inl t ↦
                let below : pos w.next_wd <ℤ pos w.next_wd = subst (λ z. z <ℤ pos w.next_wd) t.1 given in
                absurd (omega (arith, ints))
            | inr t ↦ watched_by-none w wd n ended.unwatched t.1
          ]))
    ]
