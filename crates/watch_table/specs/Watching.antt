-- The watches of one instance: inotify_add_watch(2) and inotify_rm_watch(2).
use Rattle.std.specs.Prelude.{◌≡◌, ℕ, ◌+◌, ◌^◌, ◌<◌, ◌≤◌, ℤ, pos, ◌≤ℤ◌, ◌<ℤ◌, Bool, false, not, ◌&&◌, ◌||◌, [], ◌∷◌}
use Rattle.std.specs.Prelude.{Option, Some, None, option_map, is_none, is_some, unwrap_or, bit_or, nat_le, nat_lt}
use Rattle.std.specs.Prelude.{refl, if◌then◌else◌}
use Rattle.std.specs.Coded.{Coded, code_by, coded×, coded_ℕ, coded_ℤ}
use Rattle.std.specs.FinMap as map
use Rattle.std.specs.List.{find}
use Rattle.std.specs.Option.{option_map_or}
use Rattle.std.specs.Ordering.{nat_cmp, int_eq}
use Rattle.record_codec.specs.declared.bits.TheConstants.{IN_ONLYDIR, IN_MASK_CREATE, IN_MASK_ADD}
use Rattle.tree_paths.specs.declared.limits.Limits.{Limits}
use Rattle.tree_paths.specs.declared.refusal.Refusal.{Refusal}
use Rattle.tree_paths.specs.declared.refusal.Refusal.TheVariants.{Eexist, Enotdir, Enospc}
use Rattle.watch_table.specs.declared.watch.Watch.{Watch}
use Rattle.watch_table.specs.Masks.{has_any, stored}
use Rattle.tree_paths.specs.Rows.{row, first_row}

-- what an instance watches, by the numbers of the files; the descriptor that the next new watch gets; and how many
-- watches there may be at a time, and ever
pub record Watching : Type 0 where
  pub watches : map.FinMap nat_cmp Watch
  pub next_wd : ℕ
  pub most_watches : ℕ
  pub last_wd : ℕ

abbrev pub watch_code : Coded Watch
watch_code =
    code_by (ℤ × ℕ) (coded× coded_ℤ coded_ℕ) (λ watch. (watch.wd, watch.mask)) (λ p. record { wd = p.0; mask = p.1 })
    (λ _. refl)

abbrev pub watching_code : Coded Watching
watching_code =
    code_by (map.FinMap nat_cmp Watch × (ℕ × (ℕ × ℕ)))
    (coded× (map.code coded_ℕ watch_code) (coded× coded_ℕ (coded× coded_ℕ coded_ℕ)))
    (λ w. (w.watches, (w.next_wd, (w.most_watches, w.last_wd))))
    (λ p. record { watches = p.0; next_wd = p.1.0; most_watches = p.1.1.0; last_wd = p.1.1.1 }) (λ _. refl)

-- an instance that watches nothing. Descriptors are given in turn, from 1 on
abbrev pub no_watches : Limits → Watching
no_watches limits = record { watches = map.empty; next_wd = 1; most_watches = limits.watches; last_wd = limits.wds }

-- the watch of a file
abbrev pub watch_of : Watching → ℕ → Option Watch
watch_of w number = map.get w.watches number

-- the descriptor of a file's watch
abbrev pub wd_of : Watching → ℕ → Option ℤ
wd_of w number = option_map (λ watch. watch.wd) (watch_of w number)

-- the number of the file that is watched under a descriptor
unfoldable pub watched_by : Watching → ℤ → Option ℕ
watched_by w wd =
    find (λ number. option_map_or (λ watch. int_eq watch.wd wd) (watch_of w number) false) (map.keys w.watches)

-- the bits that a watch keeps after another call for its file: the call's, joined under IN_MASK_ADD with those it had
abbrev pub next_bits : ℕ → ℕ → ℕ
next_bits mask bits = if has_any mask IN_MASK_ADD then bit_or bits (stored mask) else stored mask

-- the watches with a new one, which gets the next descriptor
abbrev pub with_new_watch : Watching → ℕ → ℕ → Watching
with_new_watch w number bits =
    record w {
      watches = map.insert w.watches number (record { wd = pos w.next_wd; mask = bits });
      next_wd = w.next_wd + 1;
    }

-- the watches after a call to watch a file: its watch has other bits, or it has a new one
unfoldable pub added : Watching → ℕ → ℕ → Watching
added w number mask =
    option_map_or
    (λ watch. record w { watches = map.insert w.watches number (record watch { mask = next_bits mask watch.mask }) })
    (watch_of w number)
    (with_new_watch w number (stored mask))

-- the descriptor that a call to watch a file answers: that of its watch, which is the next one where it had none
unfoldable pub wd_added : Watching → ℕ → ℤ
wd_added w number = unwrap_or (wd_of w number) (pos w.next_wd)

-- whether no new watch can be made: there are as many as there may be at a time, or all descriptors were given
abbrev pub is_full : Watching → Bool
is_full w = nat_le w.most_watches (map.len w.watches) || nat_lt w.last_wd w.next_wd

-- whether a mask asks for a directory, and it is none
abbrev pub is_barred : ℕ → Bool → Bool
is_barred mask is_directory = has_any mask IN_ONLYDIR && not is_directory

-- whether a mask asks for a new watch, and the file has one
abbrev pub is_taken : ℕ → Option Watch → Bool
is_taken mask watch = has_any mask IN_MASK_CREATE && is_some watch

-- why a call to watch a file is refused, where its mask has no fault: inotify_add_watch(2), "ERRORS"
unfoldable pub add_refusal : Watching → ℕ → ℕ → Bool → Option Refusal
add_refusal w number mask is_directory =
    first_row (row (is_barred mask is_directory) Enotdir
    ∷ row (is_taken mask (watch_of w number)) Eexist
    ∷ row (is_none (watch_of w number) && is_full w) Enospc
    ∷ [])

-- the watches without that of a file
unfoldable pub dropped : Watching → ℕ → Watching
dropped w number = record w { watches = map.remove w.watches number }

-- the watches without that of a descriptor
abbrev pub removed : Watching → ℤ → Watching
removed w wd = option_map_or (dropped w) (watched_by w wd) w

-- what is true of the watches of each instance
pub record IsSound (w : Watching) : Type 0 where
  -- the descriptors of watches were given in turn
  pub given : (number : ℕ) (wd : ℤ) → wd_of w number ≡ Some wd → (pos 1 ≤ℤ wd) × (wd <ℤ pos w.next_wd)
  -- a descriptor is of one file
  pub apart : (m n : ℕ) (wd : ℤ) → wd_of w m ≡ Some wd → wd_of w n ≡ Some wd → m ≡ n
  -- the limits are kept
  pub first : 1 ≤ w.next_wd
  pub last : w.next_wd ≤ w.last_wd + 1
  pub small : w.last_wd < 2 ^ 31
  pub held : map.len w.watches ≤ w.most_watches

-- a descriptor was given, and its watch has ended
pub record HasEnded (w : Watching) (wd : ℤ) : Type 0 where
  pub given : (pos 1 ≤ℤ wd) × (wd <ℤ pos w.next_wd)
  pub unwatched : watched_by w wd ≡ None
