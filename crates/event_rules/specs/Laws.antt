-- What is true of the notices of every call, and of the events that notices raise.
use Rattle.std.specs.Prelude.{◌≡◌, ◌≢◌, ◌⊎◌, ℕ, ℤ, zero, suc, ◌+◌, Bool, false, ◌==◌, ◌||◌, List, [], ◌∷◌, Option, Some}
use Rattle.std.specs.Prelude.{None, All, Contains, map, if◌then◌else◌}
use Rattle.std.specs.List.{list_any}
use Rattle.std.specs.Ordering.{int_eq}
use Rattle.record_codec.specs.declared.bits.TheConstants.{IN_IGNORED, IN_MOVED_FROM, IN_MOVED_TO}
use Rattle.record_codec.specs.declared.event.Event.{Event}
use Rattle.record_codec.specs.Bits.{event_bits}
use Rattle.watch_table.specs.declared.watch.Watch.{Watch}
use Rattle.watch_table.specs.Watching.{Watching, watch_of, wd_of}
use Rattle.event_rules.specs.declared.notice.TheConstants.{NO_COOKIE}
use Rattle.event_rules.specs.declared.notice.Notice.{Notice}
use Rattle.event_rules.specs.declared.notice.Notice.TheVariants.{Told, Gone}
use Rattle.event_rules.specs.Raised.{event_bit}

-- ---- of notices

-- a notice is of one event
abbrev pub HasOneEvent : Notice → Type 0
HasOneEvent (Told number bits cookie name) = Contains event_bits (event_bit bits)
HasOneEvent (Gone number) = Unit {0}

-- ---- of moves

-- bits, and a cookie
abbrev pub Mark : Type 0
Mark = ℕ × ℕ

abbrev pub marks_told : List Notice → List Mark
marks_told [] = []
marks_told (Told number bits cookie name ∷ ns) = (bits, cookie) ∷ marks_told ns
marks_told (Gone number ∷ ns) = marks_told ns

abbrev pub marks_of : List Event → List Mark
marks_of events = map (λ (e : Event). (e.mask, e.cookie)) events

abbrev pub is_move : Mark → Bool
is_move m = (event_bit m.0 == IN_MOVED_FROM) || (event_bit m.0 == IN_MOVED_TO)

-- the events of moves among these, each with its cookie
abbrev pub moves_in : List Mark → List Mark
moves_in [] = []
moves_in (m ∷ ms) = if is_move m then (event_bit m.0, m.1) ∷ moves_in ms else moves_in ms

-- a given number of cookies, from `cookie` on
abbrev pub cookies_from : ℕ → ℕ → List ℕ
cookies_from cookie zero = []
cookies_from cookie (suc n) = cookie ∷ cookies_from (cookie + 1) n

-- what one move after another raises: the i-th pair of events has the i-th of the cookies
abbrev pub moves_with : List ℕ → List Mark
moves_with [] = []
moves_with (cookie ∷ cookies) = (IN_MOVED_FROM, cookie) ∷ (IN_MOVED_TO, cookie) ∷ moves_with cookies

-- these are some of the others, in their order
abbrev pub IsSubsequence : List Mark → List Mark → Type 0
IsSubsequence [] ys = Unit {0}
IsSubsequence (x ∷ xs) [] = ⊥
IsSubsequence (x ∷ xs) (y ∷ ys) = ((x ≡ y) × IsSubsequence xs ys) ⊎ IsSubsequence (x ∷ xs) ys

-- the events of moves are some of these, in their order, and all other events have no cookie
pub record AreTied (moves ms : List Mark) : Type 0 where
  pub among : IsSubsequence (moves_in ms) moves
  pub others : All (λ m. is_move m ≡ false → m.1 ≡ NO_COOKIE) ms

-- ---- of events

-- the descriptor is that of a watch
abbrev pub HasWatch : Watching → ℤ → Type 0
HasWatch w wd = (number : ℕ) × (wd_of w number ≡ Some wd)

-- the event says that a watch has ended
abbrev pub says_ended : Event → Bool
says_ended e = e.mask == IN_IGNORED

-- no event is of the descriptor
abbrev pub TellsNothing : ℤ → List Event → Type 0
TellsNothing wd events = All (λ e. e.wd ≢ wd) events

-- ---- of watches

-- the watch, where its descriptor is not among these
abbrev pub watch_without : List ℤ → Option Watch → Option Watch
watch_without wds None = None
watch_without wds (Some watch) = if list_any (λ wd. int_eq wd watch.wd) wds then None else Some watch

-- no watch is other than before, and the counts are as they were
pub record IsPartOf (part w : Watching) : Type 0 where
  pub watches : (number : ℕ) (watch : Watch) → watch_of part number ≡ Some watch → watch_of w number ≡ Some watch
  pub next_wd : part.next_wd ≡ w.next_wd
  pub most_watches : part.most_watches ≡ w.most_watches
  pub last_wd : part.last_wd ≡ w.last_wd
