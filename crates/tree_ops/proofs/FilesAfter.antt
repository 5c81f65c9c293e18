-- Which files are there after a call: those that were, but for one that had no other path, and the new one.
use Rattle.std.proofs.Common.{◌≡◌, ◌≢◌, ◌⊎◌, inl, inr, ℕ, ◌==◌, false, List, Option, Some, None, IsSome, refl, sym, ◌∙◌, subst, ap}
use Rattle.std.proofs.lemmas.Bool.{cases_eq}
use Rattle.std.specs.Cmp.{nat_cmp_total}
use Rattle.std.specs.Option.{option_map_or}
use Rattle.std.specs.FinMap as finmap
use Rattle.std.specs.FinMap.{nat_cmp-IsAntisymmetric}
use Rattle.tree_paths.specs.declared.limits.Limits.{Limits}
use Rattle.inode_table.specs.Bytes.{resized, written}
use Rattle.inode_table.specs.Rows.{Label}
use Rattle.inode_table.specs.World.{World, File, IsWorld, links, look, with_file, with_path, without_path, with_move, changed_at}
use Rattle.inode_table.proofs.TreeLemmas.{some_none}
use Rattle.inode_table.proofs.CountLemmas.{IsCount-one, IsCount-more}
use Rattle.inode_table.proofs.MapLemmas.{count-of}
use Rattle.inode_table.proofs.SeenLemmas.{is_value}
use Rattle.inode_table.proofs.WorldLemmas.{decide_path, path_total, path_exact, get-insert_here, get-insert_other}
use Rattle.tree_ops.specs.declared.call.Counts.{Counts}
use Rattle.tree_ops.specs.declared.call.TheConstants.{RENAME_EXCHANGE}
use Rattle.tree_ops.specs.declared.call.FileCall.{FileCall}
use Rattle.tree_ops.specs.declared.call.FileCall.TheVariants.{Create, Write, ReadFile, Truncate, Chmod, Mkdir, Link}
use Rattle.tree_ops.specs.declared.call.FileCall.TheVariants.{Unlink, Rmdir, Rename, Rename2, Stat as Status}
use Rattle.tree_ops.specs.declared.call.FileCall.TheVariants.{List as Listed}
use Rattle.tree_ops.specs.Refused.{refused, refusal_seen, are_same_seen}
use Rattle.tree_ops.specs.After.{after, after_unlink, after_rename, numbers_of}
use Rattle.tree_ops.proofs.Changed.{after_exchange}
use Rattle.tree_ops.proofs.Rows.{RenameKnown, rename-known, move-known}
use Rattle.tree_ops.proofs.WorldChanges.{numbers-changed, dropped-other, files-left, numbers-lost, lost-is, none-counted}
use Rattle.tree_ops.proofs.WorldMoves.{path-moved, moved-files}
use Rattle.tree_ops.proofs.WorldSwaps.{swapped-files}
use Rattle.tree_ops.proofs.WorldsStay.{moving, by-same, by-other, by-flags}

-- ---- no file comes but one of the next number

abbrev pub IsThere : World → ℕ → Type 0
IsThere w n = IsSome (finmap.get w.files n)

new-file : (w : World) (p : List Label) (n : ℕ) (f : File) (k : ℕ) → IsThere (with_file w p n f) k → IsThere w k ⊎ (k ≡ n)
unfolding with_file
new-file w p n f k h =
    elim (cases_eq k n) [
      | inl e ↦ inr e
      | inr off ↦ inl (subst (λ o. IsSome o) (get-insert_other nat_cmp_total nat_cmp-IsAntisymmetric w.files n f k off) h)
    ]

new-path : (w : World) (p : List Label) (o : Option ℕ) (k : ℕ) → IsThere (option_map_or (with_path w p) o w) k → IsThere w k
unfolding with_path
new-path w p None k h = h
new-path w p (Some n) k h = h

after-unlink : (w : World) (p : List Label) (k : ℕ) → IsThere (after_unlink w p) k → IsThere w k
after-unlink w p k h = subst (λ fs. IsSome (finmap.get fs k)) (files-left w p) (numbers-lost (without_path w p) (finmap.get w.paths p) k h)

after-rename : (w : World) (old new : List Label) (k : ℕ) → IsThere (after_rename w old new) k → IsThere w k
after-rename w old new k =
    by-same (λ v. IsThere v k → IsThere w k) w old new (λ h. h)
    (λ _ h. subst (λ fs. IsSome (finmap.get fs k)) (moved-files w old new) (numbers-lost (with_move w old new) (finmap.get w.paths new) k h))

after-exchange : (w : World) (old new : List Label) (k : ℕ) → IsThere (after_exchange w old new) k → IsThere w k
after-exchange w old new k =
    by-other (λ v. IsThere v k → IsThere w k) w old new (λ h. h) (λ _ h. subst (λ fs. IsSome (finmap.get fs k)) (swapped-files w old new) h)

made : (w : World) (p : List Label) (n : ℕ) (f : File) (used : ℕ) (k : ℕ) → used ≡ 1 → IsThere (with_file w p n f) k → IsThere w k ⊎ ((k ≡ n) × (used ≡ 1))
made w p n f used k one h = elim (new-file w p n f k h) [ inl was ↦ inl was | inr e ↦ inr (e, one) ]

changed : (w : World) (p : List Label) (change : File → File) (k : ℕ) → IsThere (changed_at w p change) k → IsThere w k
changed w p change k h = sym (numbers-changed w p change k) ∙ h

pub files-numbered : (w : World) (counts : Counts) (call : FileCall) (k : ℕ) → IsThere (after w counts call) k
    → IsThere w k ⊎ ((k ≡ counts.next_number) × (numbers_of call ≡ 1))
files-numbered w counts (Create p mode) k h = made w p counts.next_number _ (numbers_of (Create p mode)) k refl h
files-numbered w counts (Mkdir p mode) k h = made w p counts.next_number _ (numbers_of (Mkdir p mode)) k refl h
files-numbered w counts (Write p offset bytes) k h = inl (changed w p (λ f. record f { bytes = written offset bytes f.bytes }) k h)
files-numbered w counts (ReadFile p offset count) k h = inl h
files-numbered w counts (Truncate p len) k h = inl (changed w p (λ f. record f { bytes = resized len f.bytes }) k h)
files-numbered w counts (Chmod p mode) k h = inl (changed w p (λ f. record f { mode = mode }) k h)
files-numbered w counts (Link old new) k h = inl (new-path w new (finmap.get w.paths old) k h)
files-numbered w counts (Unlink p) k h = inl (after-unlink w p k h)
files-numbered w counts (Rmdir p) k h = inl (after-unlink w p k h)
files-numbered w counts (Rename old new) k h = inl (after-rename w old new k h)
files-numbered w counts (Rename2 old new flags) k h =
    inl (by-flags (λ v. IsThere v k → IsThere w k) w old new flags (λ _. after-exchange w old new k) (λ _. after-rename w old new k) h)
files-numbered w counts (Status p) k h = inl h
files-numbered w counts (Listed p) k h = inl h

-- ---- a file that goes had one path

-- the one path of a file
pub record IsAlone (w : World) (p : List Label) (n : ℕ) : Type 0 where
  pub there : finmap.get w.paths p ≡ Some n
  pub links : links w n ≡ 1

alone : (w v : World) (p : List Label) (n : ℕ) → finmap.get w.paths p ≡ Some n
    → ((q : List Label) → finmap.get w.paths q ≡ Some n → q ≢ p → (r : List Label) × (finmap.get v.paths r ≡ Some n)) → links v n ≡ 0 → links w n ≡ 1
unfolding links
alone w v p n at others gone =
    let only : (q : List Label) → finmap.get w.paths q ≡ Some n → q ≡ p = λ q to. elim (decide_path q p) [
      | inl e ↦ e
      | inr off ↦ let r = others q to off in absurd (none-counted v n gone r.0 r.1)
    ] in
    IsCount-one decide_path _ 1 (λ q. finmap.get w.paths q ≡ Some n) (count-of path_total path_exact w.paths n)
    (IsCount-more 0 (λ (q : List Label). ⊥) (λ q. finmap.get w.paths q ≡ Some n) p at (λ q h. absurd h) (λ q to off. off (only q to)) (λ q h. h))

pub IsAlone-unlink : (w : World) (p : List Label) (n : ℕ) → IsThere w n → finmap.get (after_unlink w p).files n ≡ None → IsAlone w p n
IsAlone-unlink w p n h gone =
    let lost = lost-is (without_path w p) (finmap.get w.paths p) n (subst (λ fs. IsSome (finmap.get fs n)) (sym (files-left w p)) h) gone in
    record { there = lost.0; links = alone w (without_path w p) p n lost.0 (λ q to off. (q, dropped-other w p q off ∙ to)) lost.1 }

pub IsAlone-rename : (w : World) → IsWorld w → (old new : List Label) (n : ℕ) → RenameKnown (look w) old new → IsThere w n
    → finmap.get (after_rename w old new).files n ≡ None
    → (are_same_seen (look w old) (look w new) ≡ false) × IsAlone w new n
IsAlone-rename w is old new n known h =
    by-same (λ v. finmap.get v.files n ≡ None → (are_same_seen (look w old) (look w new) ≡ false) × IsAlone w new n) w old new
    (λ gone. let f = is_value (finmap.get w.files n) h in absurd (some_none gone f.1))
    (λ off gone.
    let m = moving w is old new known off in
    let lost = lost-is (with_move w old new) (finmap.get w.paths new) n (subst (λ fs. IsSome (finmap.get fs n)) (sym (moved-files w old new)) h) gone in (
      off,
      record { there = lost.0; links = alone w (with_move w old new) new n lost.0 (λ q to other. path-moved w old new m.apart m.below q n to other) lost.1 },
    ))

-- ---- every call that a file goes with

stays-made : (w : World) (p : List Label) (n : ℕ) (f : File) (k : ℕ) → IsThere w k → finmap.get (with_file w p n f).files k ≢ None
unfolding with_file
stays-made w p n f k h gone =
    elim (cases_eq k n) [
      | inl e ↦ some_none gone (ap (finmap.get (finmap.insert w.files n f)) e ∙ get-insert_here nat_cmp_total nat_cmp-IsAntisymmetric w.files n f)
      | inr off ↦
          let g = is_value (finmap.get w.files k) h in some_none (sym (get-insert_other nat_cmp_total nat_cmp-IsAntisymmetric w.files n f k off) ∙ gone) g.1
    ]

there-none : (o : Option File) → IsSome o → o ≢ None
there-none o h e = let f = is_value o h in some_none e f.1

stays-changed : (w : World) (p : List Label) (change : File → File) (k : ℕ) → IsThere w k → finmap.get (changed_at w p change).files k ≢ None
stays-changed w p change k h = there-none (finmap.get (changed_at w p change).files k) (numbers-changed w p change k ∙ h)

stays-linked : (w : World) (p : List Label) (o : Option ℕ) (k : ℕ) → IsThere w k → finmap.get (option_map_or (with_path w p) o w).files k ≢ None
unfolding with_path
stays-linked w p None k h = there-none (finmap.get w.files k) h
stays-linked w p (Some n) k h = there-none (finmap.get w.files k) h

stays-exchanged : (w : World) (old new : List Label) (k : ℕ) → IsThere w k → finmap.get (after_exchange w old new).files k ≢ None
stays-exchanged w old new k h =
    by-other (λ v. finmap.get v.files k ≢ None) w old new (there-none (finmap.get w.files k) h)
    (λ _. subst (λ fs. finmap.get fs k ≢ None) (sym (swapped-files w old new)) (there-none (finmap.get w.files k) h))

-- a file goes with its only path, which is removed or written over
abbrev pub Goes : World → FileCall → ℕ → Type 0
Goes w (Unlink p) n = IsAlone w p n
Goes w (Rmdir p) n = IsAlone w p n
Goes w (Rename old new) n = (are_same_seen (look w old) (look w new) ≡ false) × IsAlone w new n
Goes w (Rename2 old new flags) n = ((flags == RENAME_EXCHANGE) ≡ false) × (are_same_seen (look w old) (look w new) ≡ false) × IsAlone w new n
Goes w _ n = ⊥

pub gone-goes : (w : World) → IsWorld w → (limits : Limits) (counts : Counts) (call : FileCall) (n : ℕ)
    → refused w limits counts call ≡ None → IsThere w n → finmap.get (after w counts call).files n ≡ None → Goes w call n
unfolding refusal_seen
gone-goes w is limits counts (Create p mode) n e h gone = stays-made w p counts.next_number _ n h gone
gone-goes w is limits counts (Mkdir p mode) n e h gone = stays-made w p counts.next_number _ n h gone
gone-goes w is limits counts (Write p offset bytes) n e h gone = stays-changed w p (λ f. record f { bytes = written offset bytes f.bytes }) n h gone
gone-goes w is limits counts (ReadFile p offset count) n e h gone = there-none (finmap.get w.files n) h gone
gone-goes w is limits counts (Truncate p len) n e h gone = stays-changed w p (λ f. record f { bytes = resized len f.bytes }) n h gone
gone-goes w is limits counts (Chmod p mode) n e h gone = stays-changed w p (λ f. record f { mode = mode }) n h gone
gone-goes w is limits counts (Link old new) n e h gone = stays-linked w new (finmap.get w.paths old) n h gone
gone-goes w is limits counts (Unlink p) n e h gone = IsAlone-unlink w p n h gone
gone-goes w is limits counts (Rmdir p) n e h gone = IsAlone-unlink w p n h gone
gone-goes w is limits counts (Rename old new) n e h gone = IsAlone-rename w is old new n (rename-known (look w) limits counts old new e) h gone
gone-goes w is limits counts (Rename2 old new flags) n e h gone =
    by-flags (λ v. finmap.get v.files n ≡ None → Goes w (Rename2 old new flags) n) w old new flags
    (λ _ gone. absurd (stays-exchanged w old new n h gone))
    (λ no gone. let alone = IsAlone-rename w is old new n (move-known (look w) limits counts old new flags e no) h gone in (no, alone.0, alone.1)) gone
gone-goes w is limits counts (Status p) n e h gone = there-none (finmap.get w.files n) h gone
gone-goes w is limits counts (Listed p) n e h gone = there-none (finmap.get w.files n) h gone
