-- The numbers that come next stay within the limits, where a call on files is accepted.
use Rattle.std.proofs.Common.{◌≡◌, ◌⊎◌, inl, inr, ℕ, ◌+◌, ◌≤◌, ◌^◌, ◌==◌, ◌||◌, nat_lt, nat_le, Bool, true, false, cond}
use Rattle.std.proofs.Common.{if◌then◌else◌, List, [], ◌∷◌, map, Option, Some, None, IsSome, option_map, refl, sym, ap}
use Rattle.std.proofs.Common.{subst, ◌∙◌, arith}
use Rattle.std.proofs.lemmas.Bool.{or_parts, eqb-true, leb-true, ltb-false, true≢false}
use Rattle.std.specs.FinMap as finmap
use Rattle.std.specs.FinMap.{find, get-from_entries, get-entries}
use Rattle.std.specs.Ordering.{nat_cmp, eq_by_cmp}
use Rattle.std.specs.Cmp.{nat_cmp_total}
use Rattle.tree_paths.specs.Greatest.{most}
use Rattle.tree_paths.specs.Rows.{row, first_row}
use Rattle.tree_paths.specs.declared.limits.Limits.{Limits}
use Rattle.tree_paths.specs.declared.refusal.Refusal.{Refusal}
use Rattle.tree_paths.specs.declared.refusal.Refusal.TheVariants.{CookiesSpent, Einval, NumbersSpent}
use Rattle.inode_table.specs.declared.seen.Seen.{Seen}
use Rattle.inode_table.specs.World.{World, look}
use Rattle.inode_table.specs.Refusals.{Look}
use Rattle.tree_ops.specs.declared.call.Counts.{Counts}
use Rattle.tree_ops.specs.declared.call.TheConstants.{RENAME_EXCHANGE, RENAME_NOREPLACE}
use Rattle.tree_ops.specs.declared.call.FileCall.{FileCall}
use Rattle.tree_ops.specs.declared.call.FileCall.TheVariants.{Create, Write, ReadFile, Truncate, Chmod, Mkdir, Link}
use Rattle.tree_ops.specs.declared.call.FileCall.TheVariants.{Unlink, Rmdir, Rename, Rename2, Stat as Status}
use Rattle.tree_ops.specs.declared.call.FileCall.TheVariants.{List as Listed}
use Rattle.tree_ops.specs.declared.moves.Moves.{Moves}
use Rattle.tree_ops.specs.declared.moves.Moves.TheVariants.{Nothing, Move, Exchange}
use Rattle.tree_ops.specs.Moves.{cookies_for, cookies_of, moves_for}
use Rattle.tree_ops.specs.Refused.{refused, refusal_seen, cookies_row, two_cookies_row, are_same_seen, make_rows}
use Rattle.tree_ops.specs.Refused.{rename_rows, move_rows, noreplace_rows, swap_rows, exchange_rows, rename2_rows}
use Rattle.tree_ops.specs.After.{numbers_of}
use Rattle.event_rules.specs.Table.{notices_of}
use Rattle.instance_table.specs.declared.instance.Instance.{Instance}
use Rattle.instance_table.specs.Instances.{Instances, instance_of, all_changed, told}
use Rattle.tree_core.specs.Tree.{Tree, cookie_now, counts_of, after_file}
use Rattle.tree_core.specs.Sound.{IsCounted}

-- ---- where no row answers, none holds

abbrev pub Each : List (Option Refusal) → Type 0
Each [] = Unit {0}
Each (o ∷ rows) = (o ≡ None) × Each rows

pub first-passes : (o : Option Refusal) (rows : List (Option Refusal)) → first_row (o ∷ rows) ≡ None → (o ≡ None) × (first_row rows ≡ None)
first-passes None rows e = (refl, e)
first-passes (Some r) rows e = absurd (cc)

pub each-passes : (rows : List (Option Refusal)) → first_row rows ≡ None → Each rows
each-passes [] e = tt
each-passes (o ∷ rows) e = let w = first-passes o rows e in (w.0, each-passes rows w.1)

pub row-passes : (b : Bool) (r : Refusal) → row b r ≡ None → b ≡ false
row-passes true r e = absurd (cc)
row-passes false r e = refl

-- ---- numbers of files

make-left : (at : Look) (limits : Limits) (counts : Counts) (p : List (List ℕ)) (mode : ℕ)
    → first_row (make_rows at limits counts p mode) ≡ None → counts.next_number ≤ limits.numbers
unfolding make_rows
make-left at limits counts p mode none =
    let each = each-passes (make_rows at limits counts p mode) none in
    ltb-false limits.numbers counts.next_number (row-passes (nat_lt limits.numbers counts.next_number) NumbersSpent each.1.1.1.1.0)

numbers-left : (t : Tree) (f : FileCall) → refused t.world t.limits (counts_of t) f ≡ None → t.next_number ≤ t.limits.numbers + 1
    → t.next_number + numbers_of f ≤ t.limits.numbers + 1
unfolding refusal_seen
numbers-left t (Create p mode) none few =
    let last : t.next_number ≤ t.limits.numbers = make-left (look t.world) t.limits (counts_of t) p mode none in omega arith
numbers-left t (Mkdir p mode) none few =
    let last : t.next_number ≤ t.limits.numbers = make-left (look t.world) t.limits (counts_of t) p mode none in omega arith
numbers-left t (Write p offset bytes) none few = omega arith
numbers-left t (ReadFile p offset count) none few = omega arith
numbers-left t (Truncate p len) none few = omega arith
numbers-left t (Chmod p mode) none few = omega arith
numbers-left t (Link old new) none few = omega arith
numbers-left t (Unlink p) none few = omega arith
numbers-left t (Rmdir p) none few = omega arith
numbers-left t (Rename old new) none few = omega arith
numbers-left t (Rename2 old new flags) none few = omega arith
numbers-left t (Status p) none few = omega arith
numbers-left t (Listed p) none few = omega arith

-- ---- cookies

-- no cookie is used, or all that are used are there
abbrev pub HasRoom : Limits → ℕ → ℕ → Type 0
HasRoom limits next used = (used ≡ 0) ⊎ ((next + used ≤ limits.cookies + 1) × (cookie_now next ≡ next))

one-room : (limits : Limits) (counts : Counts) (next : ℕ) → counts.next_cookie ≡ cookie_now next → cookies_row limits counts ≡ None → HasRoom limits next 1
one-room limits counts next now none =
    inr (by (nat_le next most.cookies)
    (ap (λ (c : ℕ). (c == 0) || nat_lt limits.cookies c) (sym now)
    ∙ row-passes ((counts.next_cookie == 0) || nat_lt limits.cookies counts.next_cookie) CookiesSpent none))
  where
    by : (b : Bool) → (((if b then next else 0) == 0) || nat_lt limits.cookies (if b then next else 0)) ≡ false
        → (next + 1 ≤ limits.cookies + 1) × ((if b then next else 0) ≡ next)
    by true e = (let last : next ≤ limits.cookies = ltb-false limits.cookies next (or_parts (next == 0) (nat_lt limits.cookies next) e).1 in omega arith, refl)
    by false e = absurd (true≢false e)

two-room : (limits : Limits) (counts : Counts) (next : ℕ) → counts.next_cookie ≡ cookie_now next → two_cookies_row limits counts ≡ None → HasRoom limits next 2
two-room limits counts next now none =
    inr (by (nat_le next most.cookies)
    (ap (λ (c : ℕ). (c == 0) || nat_lt limits.cookies (c + 1)) (sym now)
    ∙ row-passes ((counts.next_cookie == 0) || nat_lt limits.cookies (counts.next_cookie + 1)) CookiesSpent none))
  where
    by : (b : Bool) → (((if b then next else 0) == 0) || nat_lt limits.cookies ((if b then next else 0) + 1)) ≡ false
        → (next + 2 ≤ limits.cookies + 1) × ((if b then next else 0) ≡ next)
    by true e = (
      let last : next + 1 ≤ limits.cookies = ltb-false limits.cookies (next + 1) (or_parts (next == 0) (nat_lt limits.cookies (next + 1)) e).1 in
          omega arith,
      refl,
    )
    by false e = absurd (true≢false e)

move-left : (limits : Limits) (counts : Counts) (old new : Option Seen) → Each (move_rows limits counts old new) → cookies_row limits counts ≡ None
unfolding move_rows
move-left limits counts old new each = each.1.1.1.0

swap-left : (limits : Limits) (counts : Counts) (old new : List (List ℕ)) (one other : Option Seen)
    → Each (swap_rows limits counts old new one other) → two_cookies_row limits counts ≡ None
unfolding swap_rows
swap-left limits counts old new one other each = each.1.0

module _ (at : Look) (limits : Limits) (counts : Counts) (next : ℕ) (now : counts.next_cookie ≡ cookie_now next) (old new : List (List ℕ)) where
  -- where both paths are of one file no cookie is used
  room-else : (b : Bool) (made : Moves) → (b ≡ false → HasRoom limits next (cookies_for made)) → HasRoom limits next (cookies_for (if b then Nothing else made))
  room-else true made h = inl refl
  room-else false made h = h refl

  rename-room : first_row (rename_rows at limits counts old new) ≡ None
      → HasRoom limits next (cookies_for (if are_same_seen (at old) (at new) then Nothing else Move))
  unfolding rename_rows
  rename-room none = by (are_same_seen (at old) (at new)) (each-passes (rename_rows at limits counts old new) none).1.1.1.1
    where
      by : (b : Bool) → Each (if b then [] else move_rows limits counts (at old) (at new)) → HasRoom limits next (cookies_for (if b then Nothing else Move))
      by true each = inl refl
      by false each = one-room limits counts next now (move-left limits counts (at old) (at new) each)

  noreplace-room : first_row (noreplace_rows at limits counts old new) ≡ None
      → HasRoom limits next (cookies_for (if are_same_seen (at old) (at new) then Nothing else Move))
  unfolding noreplace_rows
  noreplace-room none =
      room-else (are_same_seen (at old) (at new)) Move
      (λ _. one-room limits counts next now (each-passes (noreplace_rows at limits counts old new) none).1.1.1.1.1.0)

  exchange-room : first_row (exchange_rows at limits counts old new) ≡ None
      → HasRoom limits next (cookies_for (if are_same_seen (at old) (at new) then Nothing else Exchange))
  unfolding exchange_rows
  exchange-room none = by (are_same_seen (at old) (at new)) (each-passes (exchange_rows at limits counts old new) none).1.1.1
    where
      by : (b : Bool) → Each (if b then [] else swap_rows limits counts old new (at old) (at new))
          → HasRoom limits next (cookies_for (if b then Nothing else Exchange))
      by true each = inl refl
      by false each = two-room limits counts next now (swap-left limits counts old new (at old) (at new) each)

  -- the rows by what the tests of the flags say
  abbrev rows_if : Bool → Bool → Bool → List (Option Refusal)
  rows_if plain noreplace exchange =
      if plain then rename_rows at limits counts old new
      else if noreplace then noreplace_rows at limits counts old new
      else if exchange then exchange_rows at limits counts old new
      else Some Einval ∷ []

  no-exchange : (plain noreplace : Bool) → first_row (rows_if plain noreplace false) ≡ None
      → HasRoom limits next (cookies_for (if are_same_seen (at old) (at new) then Nothing else Move))
  no-exchange true noreplace none = rename-room none
  no-exchange false true none = noreplace-room none
  no-exchange false false none = absurd (cc)

  rename2-room : (flags : ℕ) → first_row (rename2_rows at limits counts old new flags) ≡ None
      → HasRoom limits next (cookies_for (if are_same_seen (at old) (at new) then Nothing else moves_for flags))
  unfolding rename2_rows
  rename2-room flags none =
      elim (flags == RENAME_EXCHANGE) as (λ b. (flags == RENAME_EXCHANGE) ≡ b
      → HasRoom limits next (cookies_for (if are_same_seen (at old) (at new) then Nothing else (if b then Exchange else Move)))) [
        | true ↦ λ e.
            let two : flags ≡ RENAME_EXCHANGE = eqb-true flags RENAME_EXCHANGE e in
            exchange-room (sym (ap (λ (n : ℕ). first_row (rows_if (n == 0) (n == RENAME_NOREPLACE) (n == RENAME_EXCHANGE))) two) ∙ none)
        | false ↦
            λ e. no-exchange (flags == 0) (flags == RENAME_NOREPLACE)
            (sym (ap (λ b. first_row (rows_if (flags == 0) (flags == RENAME_NOREPLACE) b)) e) ∙ none)
      ] refl

-- the cookies that an accepted call uses are there
pub cookies-there : (w : World) (limits : Limits) (counts : Counts) (next : ℕ) → counts.next_cookie ≡ cookie_now next
    → (f : FileCall) → refused w limits counts f ≡ None → HasRoom limits next (cookies_of w f)
unfolding refusal_seen
cookies-there w limits counts next now (Create p mode) none = inl refl
cookies-there w limits counts next now (Mkdir p mode) none = inl refl
cookies-there w limits counts next now (Write p offset bytes) none = inl refl
cookies-there w limits counts next now (ReadFile p offset count) none = inl refl
cookies-there w limits counts next now (Truncate p len) none = inl refl
cookies-there w limits counts next now (Chmod p mode) none = inl refl
cookies-there w limits counts next now (Link old new) none = inl refl
cookies-there w limits counts next now (Unlink p) none = inl refl
cookies-there w limits counts next now (Rmdir p) none = inl refl
cookies-there w limits counts next now (Rename old new) none = rename-room (look w) limits counts next now old new none
cookies-there w limits counts next now (Rename2 old new flags) none = rename2-room (look w) limits counts next now old new flags none
cookies-there w limits counts next now (Status p) none = inl refl
cookies-there w limits counts next now (Listed p) none = inl refl

cookies-left : (t : Tree) (f : FileCall) → refused t.world t.limits (counts_of t) f ≡ None → t.next_cookie ≤ t.limits.cookies + 1
    → t.next_cookie + cookies_of t.world f ≤ t.limits.cookies + 1
cookies-left t f none few = by (cookies-there t.world t.limits (counts_of t) t.next_cookie refl f none)
  where
    by : HasRoom t.limits t.next_cookie (cookies_of t.world f) → t.next_cookie + cookies_of t.world f ≤ t.limits.cookies + 1
    by (inl unused) = omega (arith, unused, few)
    by (inr room) = room.0

-- each of them fits the cookie field of a record
pub cookies-fit : (limits : Limits) (next used : ℕ) → HasRoom limits next used → cookie_now next + used ≤ 2 ^ 32
cookies-fit limits next used (inl unused) = by (nat_le next most.cookies) refl
  where
    by : (b : Bool) → nat_le next most.cookies ≡ b → (if b then next else 0) + used ≤ 2 ^ 32
    by true e = let few : next ≤ most.cookies = leb-true next most.cookies e in omega (arith, unused, few)
    by false e = omega (arith, unused)
cookies-fit limits next used (inr room) = let most = limits.cookies_in.1 in omega (arith, room.0, room.1, most)

-- ---- open instances

find-mapped : (change : Instance → Instance) (es : List (ℕ × Instance)) (q : ℕ)
    → find nat_cmp q (map (λ (e : ℕ × Instance). (e.0, change e.1)) es) ≡ option_map change (find nat_cmp q es)
find-mapped change [] q = refl
find-mapped change (e ∷ es) q =
    elim (eq_by_cmp nat_cmp q e.0) as (λ t. cond t (Some (change e.1)) (find nat_cmp q (map (λ (e : ℕ × Instance). (e.0, change e.1)) es))
    ≡ option_map change (cond t (Some e.1) (find nat_cmp q es))) [
      | true ↦ refl
      | false ↦ find-mapped change es q
    ]

-- a change of all leaves each instance open
pub instance_of-all_changed : (m : Instances) (change : Instance → Instance) (id : ℕ)
    → instance_of (all_changed m change) id ≡ option_map change (instance_of m id)
unfolding all_changed
instance_of-all_changed m change id =
    get-from_entries nat_cmp_total (map (λ (e : ℕ × Instance). (e.0, change e.1)) (finmap.entries m)) id
    ∙ find-mapped change (finmap.entries m) id ∙ ap (option_map change) (sym (get-entries m id))

was-open : (m : Instances) (change : Instance → Instance) (id : ℕ) → IsSome (instance_of (all_changed m change) id) → IsSome (instance_of m id)
was-open m change id there = by (instance_of m id) (subst (λ (o : Option Instance). IsSome o) (instance_of-all_changed m change id) there)
  where
    by : (o : Option Instance) → IsSome (option_map change o) → IsSome o
    by None h = h
    by (Some i) h = refl

-- ---- all of them

pub IsCounted-filed : (t : Tree) (f : FileCall) → IsCounted t → refused t.world t.limits (counts_of t) f ≡ None → IsCounted (after_file t f)
unfolding after_file
IsCounted-filed t f is none = record {
  numbers = numbers-left t f none is.numbers;
  cookies = cookies-left t f none is.cookies;
  ids = is.ids;
  opened = λ id there. is.opened id (was-open t.instances (told (notices_of t.world f (cookie_now t.next_cookie))) id there);
}
