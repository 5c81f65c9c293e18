-- Which refusals a tree gives: none is out of memory, a full journal or a full pipe.
use Rattle.std.specs.Prelude.{ℤ}
use Rattle.std.proofs.Common.{◌≡◌, ℕ, Bool, true, false, if◌then◌else◌, List, [], ◌∷◌, Option, Some, None, is_none}
use Rattle.std.proofs.Common.{is_some, not, ◌&&◌, ◌==◌, length, refl, sym, ap, subst, ◌∙◌}
use Rattle.tree_paths.specs.Rows.{row, first_row}
use Rattle.tree_paths.specs.declared.limits.Limits.{Limits}
use Rattle.tree_paths.specs.declared.refusal.Refusal.{Refusal}
use Rattle.tree_paths.specs.declared.refusal.Refusal.TheVariants.{Ebadf, Eexist, Einval, Enoent, Enospc, Enotdir, Enomem, JournalFull, PipeFull}
use Rattle.inode_table.specs.declared.seen.Seen.{Seen}
use Rattle.inode_table.specs.World.{look}
use Rattle.inode_table.specs.Refusals.{Look, find, is_directory_kind, is_directory_seen, longest_there, parent, parent_of}
use Rattle.tree_ops.specs.declared.call.Counts.{Counts}
use Rattle.tree_ops.specs.declared.call.FileCall.{FileCall}
use Rattle.tree_ops.specs.declared.call.FileCall.TheVariants.{Create, Write, ReadFile, Truncate, Chmod, Mkdir, Link}
use Rattle.tree_ops.specs.declared.call.FileCall.TheVariants.{Unlink, Rmdir, Rename, Rename2, Stat as Status}
use Rattle.tree_ops.specs.declared.call.FileCall.TheVariants.{List as Listed}
use Rattle.tree_ops.specs.Refused as ops
use Rattle.tree_ops.specs.declared.call.TheConstants.{RENAME_EXCHANGE, RENAME_NOREPLACE}
use Rattle.record_codec.specs.declared.bits.TheConstants.{IN_ALL_EVENTS, IN_MASK_ADD, IN_MASK_CREATE}
use Rattle.watch_table.specs.Masks.{has_any, known}
use Rattle.watch_table.specs.Watching.{add_refusal, is_barred, is_full, is_taken, watch_of}
use Rattle.instance_table.specs.declared.instance.Instance.{Instance}
use Rattle.instance_table.specs.Instances.{instance_of}
use Rattle.tree_core.specs.declared.call.Call.{Call}
use Rattle.tree_core.specs.declared.call.Call.TheVariants as call
use Rattle.tree_core.specs.Tree.{Tree, add_watch_rows, counts_of, init_rows, read_rows, refusal_of, rm_watch_rows}
use Rattle.tree_core.specs.TurnLaws.{IsOfTree}
use Rattle.tree_core.proofs.Parts.{seen_fault}

abbrev is_outside : Refusal → Bool
is_outside Enomem = true
is_outside JournalFull = true
is_outside PipeFull = true
is_outside _ = false

-- the refusal, if there is one, is one of a tree
abbrev Fits : Option Refusal → Type 0
Fits None = Unit {0}
Fits (Some r) = is_outside r ≡ false

abbrev Each : List (Option Refusal) → Type 0
Each [] = Unit {0}
Each (o ∷ rows) = Fits o × Each rows

one : (b : Bool) (r : Refusal) → is_outside r ≡ false → Fits (row b r)
one true r h = h
one false r h = tt

first : (rows : List (Option Refusal)) → Each rows → Fits (first_row rows)
first [] h = tt
first (None ∷ rows) h = first rows h.1
first (Some r ∷ rows) h = h.0

two : (b c : Bool) (r s : Refusal) → is_outside r ≡ false → is_outside s ≡ false → Fits (first_row (row b r ∷ row c s ∷ []))
two b c r s h g = first (row b r ∷ row c s ∷ []) (one b r h, (one c s g, tt))

-- ---- rows of calls on files

find-fits : (at : Look) (p : List (List ℕ)) → Fits (find at p)
unfolding find
find-fits at p = by (is_some (at p)) (is_directory_seen (at (longest_there at p (length p))))
  where
    by : (b c : Bool) → Fits (if b then None else (if c then Some Enoent else Some Enotdir))
    by true c = tt
    by false true = refl
    by false false = refl

parent-fits : (at : Look) (p : List (List ℕ)) → Fits (parent at p)
unfolding parent
parent-fits at p =
    first (find at (parent_of p) ∷ row (not (is_directory_seen (at (parent_of p)))) Enotdir ∷ []) (find-fits at (parent_of p), (one _ _ refl, tt))

move-fits : (limits : Limits) (counts : Counts) (old new : Option Seen) → Each (ops.move_rows limits counts old new)
unfolding ops.move_rows
move-fits limits counts old new = (one _ _ refl, (one _ _ refl, (one _ _ refl, (one _ _ refl, tt))))

tail-fits : (b : Bool) (rows : List (Option Refusal)) → Each rows → Each (if b then [] else rows)
tail-fits true rows h = tt
tail-fits false rows h = h

rename-rows-fit : (at : Look) (limits : Limits) (counts : Counts) (old new : List (List ℕ)) → Each (ops.rename_rows at limits counts old new)
unfolding ops.rename_rows
rename-rows-fit at limits counts old new = (
  one _ _ refl,
  (
    find-fits at old,
    (one _ _ refl, (parent-fits at new, tail-fits (ops.are_same_seen (at old) (at new)) _ (move-fits limits counts (at old) (at new)))),
  ),
)

noreplace-rows-fit : (at : Look) (limits : Limits) (counts : Counts) (old new : List (List ℕ)) → Each (ops.noreplace_rows at limits counts old new)
unfolding ops.noreplace_rows
noreplace-rows-fit at limits counts old new = (one _ _ refl, (find-fits at old, (one _ _ refl, (parent-fits at new, (one _ _ refl, (one _ _ refl, tt))))))

swap-fits : (limits : Limits) (counts : Counts) (old new : List (List ℕ)) (one_seen other : Option Seen)
    → Each (ops.swap_rows limits counts old new one_seen other)
unfolding ops.swap_rows
swap-fits limits counts old new one_seen other = (one _ _ refl, (one _ _ refl, tt))

exchange-rows-fit : (at : Look) (limits : Limits) (counts : Counts) (old new : List (List ℕ)) → Each (ops.exchange_rows at limits counts old new)
unfolding ops.exchange_rows
exchange-rows-fit at limits counts old new = (
  one _ _ refl,
  (find-fits at old, (find-fits at new, tail-fits (ops.are_same_seen (at old) (at new)) _ (swap-fits limits counts old new (at old) (at new)))),
)

either-fits : (b : Bool) (rows others : List (Option Refusal)) → Each rows → Each others → Each (if b then rows else others)
either-fits true rows others h g = h
either-fits false rows others h g = g

rename2-rows-fit : (at : Look) (limits : Limits) (counts : Counts) (old new : List (List ℕ)) (flags : ℕ)
    → Each (ops.rename2_rows at limits counts old new flags)
unfolding ops.rename2_rows
rename2-rows-fit at limits counts old new flags =
    either-fits (flags == 0) _ _ (rename-rows-fit at limits counts old new)
    (either-fits (flags == RENAME_NOREPLACE) _ _ (noreplace-rows-fit at limits counts old new)
    (either-fits (flags == RENAME_EXCHANGE) _ _ (exchange-rows-fit at limits counts old new) (refl, tt)))

rows-fit : (at : Look) (limits : Limits) (counts : Counts) (f : FileCall) → Each (ops.rows_of at limits counts f)
unfolding ops.make_rows ops.write_rows ops.read_rows ops.truncate_rows ops.chmod_rows ops.link_rows ops.unlink_rows ops.rmdir_rows ops.list_rows
rows-fit at limits counts (Create p mode) = (one _ _ refl, (one _ _ refl, (parent-fits at p, (one _ _ refl, (one _ _ refl, tt)))))
rows-fit at limits counts (Mkdir p mode) = (one _ _ refl, (one _ _ refl, (parent-fits at p, (one _ _ refl, (one _ _ refl, tt)))))
rows-fit at limits counts (Write p offset bytes) = (find-fits at p, (one _ _ refl, (one _ _ refl, tt)))
rows-fit at limits counts (ReadFile p offset count) = (find-fits at p, (one _ _ refl, tt))
rows-fit at limits counts (Truncate p len) = (find-fits at p, (one _ _ refl, (one _ _ refl, tt)))
rows-fit at limits counts (Chmod p mode) = (one _ _ refl, (find-fits at p, tt))
rows-fit at limits counts (Link old new) = (find-fits at old, (one _ _ refl, (one _ _ refl, (parent-fits at new, (one _ _ refl, (one _ _ refl, tt))))))
rows-fit at limits counts (Unlink p) = (find-fits at p, (one _ _ refl, tt))
rows-fit at limits counts (Rmdir p) = (one _ _ refl, (find-fits at p, (one _ _ refl, (one _ _ refl, tt))))
rows-fit at limits counts (Rename old new) = rename-rows-fit at limits counts old new
rows-fit at limits counts (Rename2 old new flags) = rename2-rows-fit at limits counts old new flags
rows-fit at limits counts (Status p) = (find-fits at p, tt)
rows-fit at limits counts (Listed p) = (find-fits at p, (one _ _ refl, tt))

-- ---- rows of calls on instances

seen-fits : (i : Instance) (mask : ℕ) (o : Option Seen) → Fits (seen_fault i mask o)
unfolding add_refusal
seen-fits i mask None = tt
seen-fits i mask (Some s) =
    first (row (is_barred mask (is_directory_kind s.kind)) Enotdir
    ∷ row (is_taken mask (watch_of i.watches s.number)) Eexist
    ∷ row (is_none (watch_of i.watches s.number) && is_full i.watches) Enospc
    ∷ []) (one _ _ refl, (one _ _ refl, (one _ _ refl, tt)))

watch-fits : (at : Look) (p : List (List ℕ)) (mask : ℕ) (o : Option Instance) → Fits (first_row (add_watch_rows at p mask o))
unfolding add_watch_rows
watch-fits at p mask None = refl
watch-fits at p mask (Some i) =
    first (add_watch_rows at p mask (Some i)) (
      two (has_any mask IN_MASK_CREATE && has_any mask IN_MASK_ADD) (not (has_any mask IN_ALL_EVENTS)) Einval Einval refl refl,
      (find-fits at p, (seen-fits i mask (at p), tt)),
    )

unwatch-fits : (wd : ℤ) (o : Option Instance) → Fits (first_row (rm_watch_rows wd o))
unfolding rm_watch_rows
unwatch-fits wd None = refl
unwatch-fits wd (Some i) = first (rm_watch_rows wd (Some i)) (one _ _ refl, tt)

read-fits : (pumps : Bool) (bytes : ℕ) (o : Option Instance) → Fits (first_row (read_rows pumps bytes o))
unfolding read_rows
read-fits pumps bytes None = refl
read-fits pumps bytes (Some i) = first (read_rows pumps bytes (Some i)) (one _ _ refl, (one _ _ refl, (one _ _ refl, (one _ _ refl, tt))))

init-fits : (t : Tree) (limit : ℕ) → Fits (first_row (init_rows t.limits t.instances t.next_id limit))
unfolding init_rows
init-fits t limit = first (init_rows t.limits t.instances t.next_id limit) (one _ _ refl, (one _ _ refl, (one _ _ refl, tt)))

close-fits : (o : Option Instance) → Fits (first_row (row (is_none o) Ebadf ∷ []))
close-fits o = first (row (is_none o) Ebadf ∷ []) (one _ _ refl, tt)

refusal-fits : (t : Tree) (c : Call) → Fits (refusal_of t c)
unfolding ops.refusal_seen
refusal-fits t (call.File f) = first (ops.rows_of (look t.world) t.limits (counts_of t) f) (rows-fit (look t.world) t.limits (counts_of t) f)
refusal-fits t (call.Init limit is_piped) = init-fits t limit
refusal-fits t (call.AddWatch id p mask) = watch-fits (look t.world) p (known mask) (instance_of t.instances id)
refusal-fits t (call.RmWatch id wd) = unwatch-fits wd (instance_of t.instances id)
refusal-fits t (call.Read id bytes) = read-fits false bytes (instance_of t.instances id)
refusal-fits t (call.Pump id bytes) = read-fits true bytes (instance_of t.instances id)
refusal-fits t (call.Close id) = close-fits (instance_of t.instances id)

inside-other : (r other : Refusal) → is_outside r ≡ false → is_outside other ≡ true → r ≡ other → ⊥
inside-other r other h g e = let same : false ≡ true = sym h ∙ ap is_outside e ∙ g in cc

-- a refusal that a tree gives is one of its own
pub of-tree : (t : Tree) (c : Call) (r : Refusal) → refusal_of t c ≡ Some r → IsOfTree r
of-tree t c r e =
    let fits : is_outside r ≡ false = subst Fits e (refusal-fits t c) in
    (inside-other r Enomem fits refl, (inside-other r JournalFull fits refl), (inside-other r PipeFull fits refl))
