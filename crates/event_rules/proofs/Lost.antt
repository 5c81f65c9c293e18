-- A file that a call deletes is notified that it is gone, and no watch of it is left.
use Rattle.std.proofs.Common.{◌≡◌, inl, inr, ℕ, ◌==◌, if◌then◌else◌, List, [], ◌∷◌, ◌++◌, Some, None, refl, sym, ap, ◌∙◌, subst, lit<, arith}
use Rattle.std.specs.Prelude.{Contains}
use Rattle.std.proofs.lemmas.List.Elements.{Contains-append_left, Contains-append_right, Contains-append_cases, Contains-push_cases}
use Rattle.record_codec.specs.declared.bits.TheConstants.{IN_ATTRIB, IN_DELETE, IN_MOVED_FROM, IN_MOVED_TO, IN_MOVE_SELF}
use Rattle.inode_table.specs.declared.seen.Kind.{Kind}
use Rattle.inode_table.specs.declared.seen.Kind.TheVariants.{Regular, Directory}
use Rattle.inode_table.specs.Rows.{Label}
use Rattle.inode_table.specs.World.{World, look, links}
use Rattle.inode_table.proofs.SeenLemmas.{is_value}
use Rattle.tree_ops.specs.declared.call.FileCall.{FileCall}
use Rattle.tree_ops.specs.declared.call.FileCall.TheVariants.{Create, Write, ReadFile, Truncate, Chmod, Mkdir, Link}
use Rattle.tree_ops.specs.declared.call.FileCall.TheVariants.{Unlink, Rmdir, Rename, Rename2, Stat, List as Listed}
use Rattle.tree_ops.proofs.Worlds.{look-is}
use Rattle.tree_ops.proofs.FilesAfter.{IsThere, IsAlone, Goes}
use Rattle.watch_table.specs.Watching.{Watching, watch_of}
use Rattle.event_rules.specs.declared.notice.TheConstants.{NO_COOKIE}
use Rattle.event_rules.specs.declared.notice.Notice.{Notice}
use Rattle.event_rules.specs.declared.notice.Notice.TheVariants.{Told, Gone}
use Rattle.event_rules.specs.Table.{kind_seen, move_told, notices_of, path_lost}
use Rattle.event_rules.specs.Table.{rename_told, to_dir, to_self}
use Rattle.event_rules.proofs.EveryCall.{deleted_told, exchange_told, lost_told}
use Rattle.event_rules.specs.Raised.{left, watches_after}
use Rattle.event_rules.proofs.Removals.{left_by, dropped-here, some_none}
use Rattle.event_rules.proofs.Others.{part-after}

-- ---- the notices

lost-told : (kind : Kind) (number count : ℕ) → count ≡ 1 → Contains (lost_told kind number count) (Gone number)
lost-told Regular number count e =
    subst (λ b. Contains (Told number IN_ATTRIB NO_COOKIE None ∷ (if b then deleted_told number else [])) (Gone number))
    (sym (ap (λ k. k == 1) e)) (2, lit< tt, refl)
lost-told Directory number count e = (1, lit< tt, refl)

path-lost : (w : World) (p : List Label) (n : ℕ) → IsThere w n → IsAlone w p n → Contains (path_lost (look w p)) (Gone n)
unfolding path_lost
path-lost w p n h is =
    let f = is_value _ h in
    subst (λ o. Contains (path_lost o) (Gone n)) (sym (look-is w p n f.0 is.there f.1)) (lost-told f.0.kind n (links w n) is.links)

removed-told : (w : World) (p : List Label) (kind : Kind) (n : ℕ) → IsThere w n → IsAlone w p n
    → Contains (path_lost (look w p) ++ to_dir (look w) p kind IN_DELETE NO_COOKIE) (Gone n)
removed-told w p kind n h is = Contains-append_left (path_lost (look w p)) (to_dir (look w) p kind IN_DELETE NO_COOKIE) (Gone n) (path-lost w p n h is)

moved-told : (w : World) (old new : List Label) (cookie n : ℕ) → IsThere w n → IsAlone w new n → Contains (move_told (look w) old new cookie) (Gone n)
unfolding move_told
moved-told w old new cookie n h is =
    let kind = kind_seen (look w old) in
    let dirs = to_dir (look w) old kind IN_MOVED_FROM cookie ++ to_dir (look w) new kind IN_MOVED_TO cookie in
    Contains-append_left (dirs ++ path_lost (look w new)) (to_self (look w old) IN_MOVE_SELF) (Gone n)
    (Contains-append_right dirs (path_lost (look w new)) (Gone n) (path-lost w new n h is))

pub gone-told : (w : World) (call : FileCall) (cookie n : ℕ) → IsThere w n → Goes w call n → Contains (notices_of w call cookie) (Gone n)
unfolding rename_told
gone-told w (Create p mode) cookie n h goes = absurd goes
gone-told w (Mkdir p mode) cookie n h goes = absurd goes
gone-told w (Write p offset bytes) cookie n h goes = absurd goes
gone-told w (ReadFile p offset count) cookie n h goes = absurd goes
gone-told w (Truncate p len) cookie n h goes = absurd goes
gone-told w (Chmod p mode) cookie n h goes = absurd goes
gone-told w (Link old new) cookie n h goes = absurd goes
gone-told w (Unlink p) cookie n h goes = removed-told w p Regular n h goes
gone-told w (Rmdir p) cookie n h goes = removed-told w p Directory n h goes
gone-told w (Rename old new) cookie n h goes =
    subst (λ b. Contains (if b then [] else move_told (look w) old new cookie) (Gone n)) (sym goes.0) (moved-told w old new cookie n h goes.1)
gone-told w (Rename2 old new flags) cookie n h goes =
    subst (λ b. Contains (if b then exchange_told (look w) old new cookie else rename_told (look w) old new cookie) (Gone n)) (sym goes.0)
    (subst (λ b. Contains (if b then [] else move_told (look w) old new cookie) (Gone n)) (sym goes.1) (moved-told w old new cookie n h goes.2))
gone-told w (Stat p) cookie n h goes = absurd goes
gone-told w (Listed p) cookie n h goes = absurd goes

-- ---- the watches that are left

unwatched-stays : (w : Watching) (ns : List Notice) (number : ℕ) → watch_of w number ≡ None → watch_of (watches_after w ns) number ≡ None
unwatched-stays w ns number none =
    elim (watch_of (watches_after w ns) number) as (λ o. watch_of (watches_after w ns) number ≡ o → o ≡ None) [
      | None ↦ λ _. refl
      | Some watch ↦ λ is. absurd (some_none none ((part-after w ns).watches number watch is))
    ] refl

left-gone : (w : Watching) (number : ℕ) → watch_of (left w (Gone number)) number ≡ None
unfolding left
left-gone w number =
    elim (watch_of w number) as (λ o. watch_of w number ≡ o → watch_of (left_by w (Gone number) o) number ≡ None) [
      | None ↦ λ e. e
      | Some watch ↦ λ _. dropped-here w number
    ] refl

no-element : (n : Notice) → Contains [] n → ⊥
no-element n h = let few = h.1 in omega arith

pub watch-gone : (w : Watching) (ns : List Notice) (number : ℕ) → Contains ns (Gone number) → watch_of (watches_after w ns) number ≡ None
watch-gone w [] number h = absurd (no-element (Gone number) h)
watch-gone w (n ∷ ns) number h =
    elim (Contains-append_cases (n ∷ []) ns (Gone number) h) [
      | inl here ↦ elim (Contains-push_cases [] n (Gone number) here) [
        | inl nowhere ↦ absurd (no-element (Gone number) nowhere)
        | inr is ↦ unwatched-stays (left w n) ns number (ap (λ m. watch_of (left w m) number) is ∙ left-gone w number)
      ]
      | inr later ↦ watch-gone (left w n) ns number later
    ]
