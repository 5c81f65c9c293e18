-- The watches of open instances are sound, from the opening on, after each call.
use Rattle.std.proofs.Common.{◌≡◌, ℕ, Bool, true, false, cond, if◌then◌else◌, eqb, List, [], ◌∷◌, length, Option, Some}
use Rattle.std.proofs.Common.{None, is_some, refl, sym, ap, subst, ◌∙◌}
use Rattle.std.proofs.lemmas.Bool.{eqb-true}
use Rattle.std.specs.Prelude.{ℤ, IfSome, IsSome, option_map}
use Rattle.std.specs.FinMap.{get-empty}
use Rattle.std.specs.Ordering.{nat_cmp}
use Rattle.tree_paths.specs.Rows.{first_row}
use Rattle.tree_paths.specs.declared.limits.Limits.{Limits}
use Rattle.tree_paths.specs.declared.refusal.Refusal.{Refusal}
use Rattle.tree_paths.specs.declared.refusal.Refusal.TheVariants.{Enoent, Enotdir}
use Rattle.inode_table.specs.declared.seen.Seen.{Seen}
use Rattle.inode_table.specs.World.{look}
use Rattle.inode_table.specs.Refusals.{Look, find, longest_there, is_directory_seen, is_directory_kind}
use Rattle.inode_table.specs.Rows.{Label}
use Rattle.watch_table.specs.Masks.{known, mask_fault}
use Rattle.watch_table.specs.Watching.{Watching, IsSound, no_watches, added, add_refusal, removed}
use Rattle.event_rules.specs.declared.notice.Notice.{Notice}
use Rattle.event_rules.specs.Raised.{watches_after}
use Rattle.event_rules.specs.Table.{notices_of}
use Rattle.instance_table.specs.declared.instance.Instance.{Instance}
use Rattle.instance_table.specs.Instances.{instance_of, new_instance, watching, unwatching}
use Rattle.tree_core.specs.declared.call.Call.{Call}
use Rattle.tree_core.specs.declared.call.Call.TheVariants as call
use Rattle.tree_core.specs.declared.reply.Entry.{Entry}
use Rattle.tree_core.specs.Tree.{Tree, opening, refusal_of, accepted, after, add_watch_rows, cookie_now}
use Rattle.tree_core.specs.Journal.{tree_after}
use Rattle.tree_core.proofs.Parts.{tree_by, seen_fault, after_reading, number_seen}
use Rattle.tree_core.proofs.Opened.{left_of, instance_of-accepted}

-- the laws of the crates of watches and of events, as far as they keep watches sound
pub record WatchLaws : Type 0 where
  pub opened : (limits : Limits) → IsSound (no_watches limits)
  pub added : (w : Watching) (number mask : ℕ) (is_directory : Bool) → IsSound w → add_refusal w number mask is_directory ≡ None → IsSound (added w number mask)
  pub removed : (w : Watching) (wd : ℤ) → IsSound w → IsSound (removed w wd)
  pub told : (w : Watching) (ns : List Notice) → IsSound w → IsSound (watches_after w ns)

abbrev pub HasSoundWatches : Option Instance → Type 0
HasSoundWatches o = IfSome o (λ i. IsSound i.watches)

-- the watches of each open instance are sound
abbrev pub WatchesAreSound : Tree → Type 0
WatchesAreSound t = (id : ℕ) → HasSoundWatches (instance_of t.instances id)

-- ---- what is watched is there, and is not refused

-- no row of a list holds that none of its rows holds
first-none : (o : Option Refusal) (rows : List (Option Refusal)) → first_row (o ∷ rows) ≡ None → (o ≡ None) × (first_row rows ≡ None)
first-none None rows e = (refl, e)
first-none (Some r) rows e = absurd (cc)

some-missing : (b c : Bool) → (if b then None else (if c then Some Enoent else Some Enotdir)) ≡ None → b ≡ true
some-missing true c e = refl
some-missing false true e = absurd (cc)
some-missing false false e = absurd (cc)

-- something stands at a path where nothing says why it is not found
pub found-there : (at : Look) (p : List Label) → find at p ≡ None → IsSome (at p)
unfolding find
found-there at p e = some-missing (is_some (at p)) (is_directory_seen (at (longest_there at p (length p)))) e

-- an accepted call to watch a file has a file, and the watches take it
module _ (laws : WatchLaws) (at : Look) (p : List Label) (mask : ℕ) (i : Instance) (sound : IsSound i.watches) where
  seen-sound : (o : Option Seen) → IsSome o → seen_fault i mask o ≡ None → IsSound (watching (number_seen o) mask i).watches
  seen-sound None there e = absurd (cc)
  seen-sound (Some seen) there e = laws.added i.watches seen.number mask (is_directory_kind seen.kind) sound e

  pub watching-sound : first_row (add_watch_rows at p mask (Some i)) ≡ None → IsSound (watching (number_seen (at p)) mask i).watches
  unfolding add_watch_rows
  watching-sound e =
      let mask_passes = first-none (mask_fault mask) (find at p ∷ seen_fault i mask (at p) ∷ []) e in
      let path_passes = first-none (find at p) (seen_fault i mask (at p) ∷ []) mask_passes.1 in
      seen-sound (at p) (found-there at p path_passes.0) (first-none (seen_fault i mask (at p)) [] path_passes.1).0

-- ---- one call

kept-if : (b : Bool) (change : Instance → Instance) → (b ≡ true → (i : Instance) → IsSound i.watches → IsSound (change i).watches)
    → (o : Option Instance) → HasSoundWatches o → HasSoundWatches (cond b (option_map change o) o)
kept-if true change keeps None sound = tt
kept-if true change keeps (Some i) sound = keeps refl i sound
kept-if false change keeps o sound = sound

module _ (laws : WatchLaws) (t : Tree) (id : ℕ) where
  watched : (from : ℕ) (p : List Label) (mask : ℕ) (b : Bool) (o : Option Instance) → eqb id from ≡ b
      → instance_of t.instances id ≡ o → refusal_of t (call.AddWatch from p mask) ≡ None → HasSoundWatches o
      → HasSoundWatches (cond b (option_map (watching (number_seen (look t.world p)) (known mask)) o) o)
  watched from p mask true None same is e sound = tt
  watched from p mask true (Some i) same is e sound =
      let there : instance_of t.instances from ≡ Some i = ap (instance_of t.instances) (sym (eqb-true id from same)) ∙ is in
      watching-sound laws (look t.world) p (known mask) i sound
      (ap (λ (x : Option Instance). first_row (add_watch_rows (look t.world) p (known mask) x)) (sym there) ∙ e)
  watched from p mask false o same is e sound = sound

  left-sound : (c : Call) (o : Option Instance) → instance_of t.instances id ≡ o → refusal_of t c ≡ None → HasSoundWatches o
      → HasSoundWatches (left_of t c id o)
  left-sound (call.File f) None is e sound = tt
  left-sound (call.File f) (Some i) is e sound = laws.told i.watches (notices_of t.world f (cookie_now t.next_cookie)) sound
  left-sound (call.Init limit is_piped) o is e sound = opened (eqb id t.next_id)
    where
      opened : (b : Bool) → HasSoundWatches (cond b (Some (new_instance t.limits limit is_piped)) o)
      opened true = laws.opened t.limits
      opened false = sound
  left-sound (call.AddWatch from p mask) o is e sound = watched from p mask (eqb id from) o refl is e sound
  left-sound (call.RmWatch from wd) o is e sound = kept-if (eqb id from) (unwatching wd) (λ _ i h. laws.removed i.watches wd h) o sound
  left-sound (call.Read from bytes) o is e sound = kept-if (eqb id from) (after_reading bytes) (λ _ i h. h) o sound
  left-sound (call.Pump from bytes) o is e sound = kept-if (eqb id from) (after_reading bytes) (λ _ i h. h) o sound
  left-sound (call.Close from) o is e sound = closed (eqb id from)
    where
      closed : (b : Bool) → HasSoundWatches (cond b None o)
      closed true = tt
      closed false = sound

-- ---- a tree after a call, and after a journal

module _ (laws : WatchLaws) where
  by-refusal : (t : Tree) (c : Call) (o : Option Refusal) → refusal_of t c ≡ o → WatchesAreSound t → WatchesAreSound (tree_by o t (accepted t c))
  by-refusal t c (Some r) e sound = sound
  by-refusal t c None e sound =
      λ id. subst HasSoundWatches (sym (instance_of-accepted t c id)) (left-sound laws t id c (instance_of t.instances id) refl e (sound id))

  pub WatchesAreSound-after : (t : Tree) (c : Call) → WatchesAreSound t → WatchesAreSound (after t c)
  WatchesAreSound-after t c sound = by-refusal t c (refusal_of t c) refl sound

  pub WatchesAreSound-tree_after : (t : Tree) (es : List Entry) → WatchesAreSound t → WatchesAreSound (tree_after t es)
  WatchesAreSound-tree_after t [] sound = sound
  WatchesAreSound-tree_after t (e ∷ es) sound = WatchesAreSound-tree_after (after t e.call) es (WatchesAreSound-after t e.call sound)

pub WatchesAreSound-opening : (limits : Limits) → WatchesAreSound (opening limits)
unfolding opening
WatchesAreSound-opening limits = λ id. subst HasSoundWatches (sym (get-empty {X = Instance} nat_cmp id)) tt
