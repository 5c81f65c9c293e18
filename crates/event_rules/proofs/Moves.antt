-- The cookies of the notices of calls.
use Rattle.std.proofs.Common.{◌≡◌, inl, inr, ℕ, ◌+◌, Bool, true, false, ◌==◌, take, drop, if◌then◌else◌, List, [], ◌∷◌, ◌++◌, Option, Some, None}
use Rattle.std.proofs.Common.{refl, sym, ap, ◌∙◌, subst}
use Rattle.std.specs.Prelude.{All}
use Rattle.std.specs.List.{last_or}
use Rattle.std.proofs.lemmas.List.Elements.{All-nil, All-cons, All-append, All-head, All-tail}
use Rattle.record_codec.specs.declared.bits.TheConstants.{IN_MOVED_FROM, IN_MOVED_TO, IN_MOVE_SELF}
use Rattle.inode_table.specs.declared.seen.Kind.{Kind}
use Rattle.inode_table.specs.declared.seen.Kind.TheVariants.{Regular, Directory}
use Rattle.inode_table.specs.declared.seen.Seen.{Seen}
use Rattle.inode_table.specs.Refusals.{Look, parent_of}
use Rattle.inode_table.specs.World.{World, look}
use Rattle.tree_ops.specs.declared.call.TheConstants.{RENAME_EXCHANGE}
use Rattle.tree_ops.specs.declared.call.FileCall.{FileCall}
use Rattle.tree_ops.specs.declared.call.FileCall.TheVariants.{Create, Write, ReadFile, Truncate, Chmod, Mkdir, Link}
use Rattle.tree_ops.specs.declared.call.FileCall.TheVariants.{Unlink, Rmdir, Rename, Rename2, Stat, List as Listed}
use Rattle.tree_ops.specs.After.{bytes_at}
use Rattle.tree_ops.specs.declared.moves.Moves.TheVariants.{Nothing, Move, Exchange}
use Rattle.tree_ops.specs.Moves.{cookies_for, cookies_of}
use Rattle.tree_ops.specs.Refused.{are_same_seen}
use Rattle.event_rules.specs.declared.notice.TheConstants.{NO_COOKIE}
use Rattle.event_rules.specs.declared.notice.Notice.{Notice}
use Rattle.event_rules.specs.declared.notice.Notice.TheVariants.{Told, Gone}
use Rattle.event_rules.specs.Table.{about, kind_seen, move_told}
use Rattle.event_rules.specs.Table.{notices_of, path_lost, rename_told, swap_told, to_dir, to_self, told_in}
use Rattle.event_rules.proofs.EveryCall.{exchange_told, has_byte}
use Rattle.event_rules.specs.Raised.{event_bit}
use Rattle.event_rules.specs.Laws.{IsSubsequence, AreTied, Mark, cookies_from, is_move, marks_told, moves_in, moves_with}
use Rattle.event_rules.proofs.EveryCall as every

-- the event is that of a move, or has no cookie
abbrev pub IsTied : Mark → Type 0
IsTied m = is_move m ≡ false → m.1 ≡ NO_COOKIE

-- ---- some of a list, in order

none-among : (ys : List Mark) → IsSubsequence [] ys
none-among ys = tt

pub among-append : (xs us ys vs : List Mark) → IsSubsequence xs ys → IsSubsequence us vs → IsSubsequence (xs ++ us) (ys ++ vs)
among-append [] us [] vs h k = k
among-append [] us (y ∷ ys) vs h k = more us y (ys ++ vs) (among-append [] us ys vs tt k)
  where
    more : (us : List Mark) (y : Mark) (zs : List Mark) → IsSubsequence us zs → IsSubsequence us (y ∷ zs)
    more [] y zs h = tt
    more (u ∷ us) y zs h = inr h
among-append (x ∷ xs) us [] vs h k = absurd h
among-append (x ∷ xs) us (y ∷ ys) vs (inl here) k = inl (here.0, among-append xs us ys vs here.1 k)
among-append (x ∷ xs) us (y ∷ ys) vs (inr later) k = inr (among-append (x ∷ xs) us ys vs later k)

pub among-itself : (xs : List Mark) → IsSubsequence xs xs
among-itself [] = tt
among-itself (x ∷ xs) = inl (refl, among-itself xs)

pub among-trans : (xs ys zs : List Mark) → IsSubsequence xs ys → IsSubsequence ys zs → IsSubsequence xs zs
among-trans [] ys zs h k = tt
among-trans (x ∷ xs) [] zs h k = absurd h
among-trans (x ∷ xs) (y ∷ ys) [] h k = absurd k
among-trans (x ∷ xs) (y ∷ ys) (z ∷ zs) (inl here) (inl there) = inl (here.0 ∙ there.0, among-trans xs ys zs here.1 there.1)
among-trans (x ∷ xs) (y ∷ ys) (z ∷ zs) (inr later) (inl there) = inr (among-trans (x ∷ xs) ys zs later there.1)
among-trans (x ∷ xs) (y ∷ ys) (z ∷ zs) h (inr beyond) = inr (among-trans (x ∷ xs) (y ∷ ys) zs h beyond)

-- ---- the moves among marks

pub moves_in-append : (ms ns : List Mark) → moves_in (ms ++ ns) ≡ moves_in ms ++ moves_in ns
moves_in-append [] ns = refl
moves_in-append (m ∷ ms) ns = by (is_move m) (moves_in-append ms ns)
  where
    by : (b : Bool) → moves_in (ms ++ ns) ≡ moves_in ms ++ moves_in ns
        → (if b then (event_bit m.0, m.1) ∷ moves_in (ms ++ ns) else moves_in (ms ++ ns))
        ≡ (if b then (event_bit m.0, m.1) ∷ moves_in ms else moves_in ms) ++ moves_in ns
    by true e = ap (λ (xs : List Mark). (event_bit m.0, m.1) ∷ xs) e
    by false e = e

pub marks_told-append : (ms ns : List Notice) → marks_told (ms ++ ns) ≡ marks_told ms ++ marks_told ns
marks_told-append [] ns = refl
marks_told-append (Told number bits cookie name ∷ ms) ns = ap (λ (xs : List Mark). (bits, cookie) ∷ xs) (marks_told-append ms ns)
marks_told-append (Gone number ∷ ms) ns = marks_told-append ms ns

pub tied-append : (xs ys ms ns : List Mark) → AreTied xs ms → AreTied ys ns → AreTied (xs ++ ys) (ms ++ ns)
tied-append xs ys ms ns h k = record {
  among = subst (λ l. IsSubsequence l (xs ++ ys)) (sym (moves_in-append ms ns)) (among-append (moves_in ms) (moves_in ns) xs ys h.among k.among);
  others = All-append IsTied ms ns h.others k.others;
}

pub tied-both : (xs ys : List Mark) (ms ns : List Notice) → AreTied xs (marks_told ms) → AreTied ys (marks_told ns) → AreTied (xs ++ ys) (marks_told (ms ++ ns))
tied-both xs ys ms ns h k = subst (AreTied (xs ++ ys)) (sym (marks_told-append ms ns)) (tied-append xs ys (marks_told ms) (marks_told ns) h k)

tied-none : AreTied [] []
tied-none = record { among = tt; others = All-nil IsTied }

-- ---- notices that are of no move

abbrev IsStill : Notice → Type 0
IsStill (Told number bits cookie name) = (is_move (bits, cookie) ≡ false) × (cookie ≡ NO_COOKIE)
IsStill (Gone number) = Unit {0}

pub tied-still : (ns : List Notice) → All IsStill ns → AreTied [] (marks_told ns)
tied-still [] h = tied-none
tied-still (Told number bits cookie name ∷ ns) h =
    let here = All-head IsStill (Told number bits cookie name) ns h in
    let rest = tied-still ns (All-tail IsStill (Told number bits cookie name) ns h) in
    record {
      among = subst (λ b. IsSubsequence (if b then (event_bit bits, cookie) ∷ moves_in (marks_told ns) else moves_in (marks_told ns)) [])
          (sym here.0) rest.among;
      others = All-cons IsTied (bits, cookie) (marks_told ns) (λ _. here.1) rest.others;
    }
tied-still (Gone number ∷ ns) h = tied-still ns (All-tail IsStill (Gone number) ns h)

by-kind : (P : Kind → Type 0) → P Regular → P Directory → (kind : Kind) → P kind
by-kind P r d Regular = r
by-kind P r d Directory = d

still_lines : every.HoldsOfLines IsStill
still_lines = record {
  access = λ kind number name. by-kind (λ k. IsStill (Told number (about k _) NO_COOKIE name)) (refl, refl) (refl, refl) kind;
  modify = λ kind number name. by-kind (λ k. IsStill (Told number (about k _) NO_COOKIE name)) (refl, refl) (refl, refl) kind;
  attrib = λ kind number name. by-kind (λ k. IsStill (Told number (about k _) NO_COOKIE name)) (refl, refl) (refl, refl) kind;
  close_write = λ kind number name. by-kind (λ k. IsStill (Told number (about k _) NO_COOKIE name)) (refl, refl) (refl, refl) kind;
  close_nowrite = λ kind number name. by-kind (λ k. IsStill (Told number (about k _) NO_COOKIE name)) (refl, refl) (refl, refl) kind;
  opened = λ kind number name. by-kind (λ k. IsStill (Told number (about k _) NO_COOKIE name)) (refl, refl) (refl, refl) kind;
  create = λ kind number name. by-kind (λ k. IsStill (Told number (about k _) NO_COOKIE name)) (refl, refl) (refl, refl) kind;
  delete = λ kind number name. by-kind (λ k. IsStill (Told number (about k _) NO_COOKIE name)) (refl, refl) (refl, refl) kind;
  delete_self = λ kind number name. by-kind (λ k. IsStill (Told number (about k _) NO_COOKIE name)) (refl, refl) (refl, refl) kind;
  move_self = λ kind number name. by-kind (λ k. IsStill (Told number (about k _) NO_COOKIE name)) (refl, refl) (refl, refl) kind;
  gone = λ number. tt;
}

self-tied : (s : Option Seen) → AreTied [] (marks_told (to_self s IN_MOVE_SELF))
self-tied s = tied-still (to_self s IN_MOVE_SELF) (every.self IsStill still_lines s Regular IN_MOVE_SELF still_lines.move_self)

lost-tied : (s : Option Seen) → AreTied [] (marks_told (path_lost s))
lost-tied s = tied-still (path_lost s) (every.lost IsStill still_lines s)

-- ---- notices that are of a move

-- one event of a move
from-one : (kind : Kind) (cookie : ℕ) → AreTied ((IN_MOVED_FROM, cookie) ∷ []) ((about kind IN_MOVED_FROM, cookie) ∷ [])
from-one Regular cookie = record { among = inl (refl, tt); others = All-cons IsTied (IN_MOVED_FROM, cookie) [] (λ e. absurd (cc)) (All-nil IsTied) }
from-one Directory cookie =
    record { among = inl (refl, tt); others = All-cons IsTied (about Directory IN_MOVED_FROM, cookie) [] (λ e. absurd (cc)) (All-nil IsTied) }

to-one : (kind : Kind) (cookie : ℕ) → AreTied ((IN_MOVED_TO, cookie) ∷ []) ((about kind IN_MOVED_TO, cookie) ∷ [])
to-one Regular cookie = record { among = inl (refl, tt); others = All-cons IsTied (IN_MOVED_TO, cookie) [] (λ e. absurd (cc)) (All-nil IsTied) }
to-one Directory cookie =
    record { among = inl (refl, tt); others = All-cons IsTied (about Directory IN_MOVED_TO, cookie) [] (λ e. absurd (cc)) (All-nil IsTied) }

-- its directory is notified of it, if there is one
dir-tied : (at : Look) (p : List (List ℕ)) (kind : Kind) (event cookie : ℕ) (moves : List Mark)
    → AreTied moves ((about kind event, cookie) ∷ []) → AreTied moves (marks_told (to_dir at p kind event cookie))
unfolding to_dir
dir-tied at p kind event cookie moves h = by (at (parent_of p)) (last_or None p)
  where
    nothing : AreTied moves []
    nothing = record { among = none-among moves; others = All-nil IsTied }

    by : (d : Option Seen) (name : Option (List ℕ)) → AreTied moves (marks_told (told_in d name (about kind event) cookie))
    by (Some d) (Some name) = h
    by (Some d) None = nothing
    by None name = nothing

move-tied : (at : Look) (old new : List (List ℕ)) (cookie : ℕ) → AreTied (moves_with (cookies_from cookie 1)) (marks_told (move_told at old new cookie))
unfolding move_told
move-tied at old new cookie =
    let kind = kind_seen (at old) in
    let from = to_dir at old kind IN_MOVED_FROM cookie in
    let to = to_dir at new kind IN_MOVED_TO cookie in
    let m : List Mark = (IN_MOVED_FROM, cookie) ∷ [] in
    let n : List Mark = (IN_MOVED_TO, cookie) ∷ [] in
    tied-both ((m ++ n) ++ []) [] (from ++ to ++ path_lost (at new)) (to_self (at old) IN_MOVE_SELF)
    (tied-both (m ++ n) [] (from ++ to) (path_lost (at new))
    (tied-both m n from to (dir-tied at old kind IN_MOVED_FROM cookie m (from-one kind cookie))
    (dir-tied at new kind IN_MOVED_TO cookie n (to-one kind cookie)))
    (lost-tied (at new)))
    (self-tied (at old))

swap-tied : (at : Look) (old new : List (List ℕ)) (cookie : ℕ) → AreTied (moves_with (cookies_from cookie 2)) (marks_told (swap_told at old new cookie))
unfolding swap_told
swap-tied at old new cookie =
    let one = kind_seen (at old) in
    let other = kind_seen (at new) in
    let from = to_dir at old one IN_MOVED_FROM cookie in
    let to = to_dir at new one IN_MOVED_TO cookie in
    let itself = to_self (at old) IN_MOVE_SELF in
    let back_from = to_dir at new other IN_MOVED_FROM (cookie + 1) in
    let back_to = to_dir at old other IN_MOVED_TO (cookie + 1) in
    let m : List Mark = (IN_MOVED_FROM, cookie) ∷ [] in
    let n : List Mark = (IN_MOVED_TO, cookie) ∷ [] in
    let k : List Mark = (IN_MOVED_FROM, cookie + 1) ∷ [] in
    let l : List Mark = (IN_MOVED_TO, cookie + 1) ∷ [] in
    tied-both ((((m ++ n) ++ []) ++ k) ++ l) [] (from ++ to ++ itself ++ back_from ++ back_to) (to_self (at new) IN_MOVE_SELF)
    (tied-both (((m ++ n) ++ []) ++ k) l (from ++ to ++ itself ++ back_from) back_to
    (tied-both ((m ++ n) ++ []) k (from ++ to ++ itself) back_from
    (tied-both (m ++ n) [] (from ++ to) itself
    (tied-both m n from to (dir-tied at old one IN_MOVED_FROM cookie m (from-one one cookie)) (dir-tied at new one IN_MOVED_TO cookie n (to-one one cookie)))
    (self-tied (at old)))
    (dir-tied at new other IN_MOVED_FROM (cookie + 1) k (from-one other (cookie + 1))))
    (dir-tied at old other IN_MOVED_TO (cookie + 1) l (to-one other (cookie + 1))))
    (self-tied (at new))

rename-tied : (b : Bool) (at : Look) (old new : List (List ℕ)) (cookie : ℕ)
    → AreTied (moves_with (cookies_from cookie (cookies_for (if b then Nothing else Move)))) (marks_told (if b then [] else move_told at old new cookie))
rename-tied true at old new cookie = tied-none
rename-tied false at old new cookie = move-tied at old new cookie

exchange-tied : (b : Bool) (at : Look) (old new : List (List ℕ)) (cookie : ℕ)
    → AreTied (moves_with (cookies_from cookie (cookies_for (if b then Nothing else Exchange)))) (marks_told (if b then [] else swap_told at old new cookie))
exchange-tied true at old new cookie = tied-none
exchange-tied false at old new cookie = swap-tied at old new cookie

rename2-tied : (exchanges : Bool) (at : Look) (old new : List (List ℕ)) (cookie : ℕ)
    → AreTied (moves_with (cookies_from cookie (cookies_for (if are_same_seen (at old) (at new) then Nothing else (if exchanges then Exchange else Move)))))
    (marks_told (if exchanges then exchange_told at old new cookie else rename_told at old new cookie))
unfolding rename_told
rename2-tied true at old new cookie = exchange-tied (are_same_seen (at old) (at new)) at old new cookie
rename2-tied false at old new cookie = rename-tied (are_same_seen (at old) (at new)) at old new cookie

-- ---- every call

pub notices-tied : (w : World) (call : FileCall) (cookie : ℕ)
    → AreTied (moves_with (cookies_from cookie (cookies_of w call))) (marks_told (notices_of w call cookie))
unfolding rename_told
notices-tied w (Create p mode) cookie = tied-still _ (every.create IsStill still_lines (look w) p)
notices-tied w (Mkdir p mode) cookie = tied-still _ (every.mkdir IsStill still_lines (look w) p)
notices-tied w (Write p offset bytes) cookie = tied-still _ (every.write IsStill still_lines (look w) p (has_byte bytes))
notices-tied w (ReadFile p offset count) cookie =
    tied-still _ (every.read IsStill still_lines (look w) p (has_byte (take count (drop offset (bytes_at w p)))))
notices-tied w (Truncate p len) cookie = tied-still _ (every.truncate IsStill still_lines (look w) p)
notices-tied w (Chmod p mode) cookie = tied-still _ (every.chmod IsStill still_lines (look w) p)
notices-tied w (Link old new) cookie = tied-still _ (every.link IsStill still_lines (look w) old new)
notices-tied w (Unlink p) cookie = tied-still _ (every.unlink IsStill still_lines (look w) p)
notices-tied w (Rmdir p) cookie = tied-still _ (every.rmdir IsStill still_lines (look w) p)
notices-tied w (Rename old new) cookie = rename-tied (are_same_seen (look w old) (look w new)) (look w) old new cookie
notices-tied w (Rename2 old new flags) cookie = rename2-tied (flags == RENAME_EXCHANGE) (look w) old new cookie
notices-tied w (Stat p) cookie = tied-none
notices-tied w (Listed p) cookie = tied-none
