-- The files stay a world over each call that no row refuses, each with a path.
use Rattle.std.proofs.Common.{◌≡◌, ◌≢◌, inl, inr, ℕ, ◌==◌, ◌&&◌, true, false, List, [], ◌∷◌, ◌++◌, Some, None}
use Rattle.std.proofs.Common.{IsSome, is_some, refl, sym, ap, ◌∙◌, subst, if◌then◌else◌, length}
use Rattle.std.proofs.lemmas.Bool.{cases_eq}
use Rattle.std.specs.Option.{option_map_or, IsSomeAnd}
use Rattle.std.specs.Ordering.{nat_cmp}
use Rattle.std.specs.Cmp.{nat_cmp_total}
use Rattle.std.specs.FinMap as finmap
use Rattle.std.specs.FinMap.{nat_cmp-IsAntisymmetric, get-empty}
use Rattle.tree_paths.specs.declared.limits.Limits.{Limits}
use Rattle.inode_table.specs.declared.seen.Kind.TheVariants.{Directory}
use Rattle.inode_table.specs.Bytes.{resized, written}
use Rattle.inode_table.specs.Changes.{Avoids}
use Rattle.inode_table.specs.Rows.{Label}
use Rattle.tree_paths.specs.Paths.{is_below}
use Rattle.inode_table.specs.Paths.{path_cmp}
use Rattle.inode_table.specs.Refusals.{is_directory_seen, parent_of}
use Rattle.inode_table.specs.World.{World, File, IsWorld, IsWhole, IsDirectoryAt, look, with_path, opening_world}
use Rattle.inode_table.specs.World.{root_number, without_path, with_move, with_swap, without_lost, file_at}
use Rattle.inode_table.proofs.TreeLemmas.{some_none, same_some}
use Rattle.inode_table.proofs.SeenLemmas.{is_value}
use Rattle.inode_table.proofs.WorldLemmas.{decide_path, path_total, path_exact, get-insert_here, get-insert_other}
use Rattle.tree_ops.specs.declared.call.Counts.{Counts}
use Rattle.tree_ops.specs.declared.call.TheConstants.{RENAME_EXCHANGE}
use Rattle.tree_ops.specs.declared.call.FileCall.{FileCall}
use Rattle.tree_ops.specs.declared.call.FileCall.TheVariants.{Create, Write, ReadFile, Truncate, Chmod, Mkdir, Link}
use Rattle.tree_ops.specs.declared.call.FileCall.TheVariants.{Unlink, Rmdir, Rename, Rename2, Stat as Status}
use Rattle.tree_ops.specs.declared.call.FileCall.TheVariants.{List as Listed}
use Rattle.tree_ops.specs.Refused.{refused, refusal_seen, are_same_seen}
use Rattle.tree_ops.specs.After.{after, after_unlink, after_rename}
use Rattle.tree_ops.proofs.Changed.{after_exchange, other-paths}
use Rattle.tree_ops.proofs.Rows.{make-known, link-known, unlink-known, rmdir-known, rename-known, move-known}
use Rattle.tree_ops.proofs.Rows.{exchange-known, MakeKnown, LinkKnown, FileKnown, RmdirKnown, RenameKnown}
use Rattle.tree_ops.proofs.Rows.{ExchangeKnown, write-known, truncate-known}
use Rattle.tree_ops.proofs.Worlds.{parted, directory-of, directory-by, directory-seen, regular-seen, unseen}
use Rattle.tree_ops.proofs.Worlds.{seen-some, nothing-below, nothing-under, apart-from}
use Rattle.tree_ops.proofs.WorldChanges.{IsWorld-with_path, IsWhole-with_path, IsWorld-with_file, IsWhole-with_file}
use Rattle.tree_ops.proofs.WorldChanges.{IsWorld-changed, IsWhole-changed, dropped-other, files-left}
use Rattle.tree_ops.proofs.WorldChanges.{IsWorld-without_path, IsWorld-lost, IsWhole-lost}
use Rattle.tree_ops.proofs.WorldMoves.{IsWorld-with_move, path-moved, moved-files}
use Rattle.tree_ops.proofs.WorldSwaps.{IsWorld-with_swap, IsWhole-with_swap}

-- ---- the root alone

abbrev root_file : File
root_file = record { kind = Directory; mode = 493; bytes = [] }

opening-root : finmap.get opening_world.paths [] ≡ Some root_number
unfolding opening_world
opening-root = get-insert_here path_total path_exact finmap.empty [] root_number

opening-path : (p : List Label) → p ≢ [] → finmap.get opening_world.paths p ≡ None
unfolding opening_world
opening-path p off = get-insert_other path_total path_exact finmap.empty [] root_number p off ∙ get-empty path_cmp p

opening-file : finmap.get opening_world.files root_number ≡ Some root_file
unfolding opening_world
opening-file = get-insert_here nat_cmp_total nat_cmp-IsAntisymmetric finmap.empty root_number root_file

opening-no_file : (n : ℕ) → n ≢ root_number → finmap.get opening_world.files n ≡ None
unfolding opening_world
opening-no_file n off = get-insert_other nat_cmp_total nat_cmp-IsAntisymmetric finmap.empty root_number root_file n off ∙ get-empty nat_cmp n

at-root : (p : List Label) (n : ℕ) → finmap.get opening_world.paths p ≡ Some n → p ≡ []
at-root p n at = elim (decide_path p []) [ inl e ↦ e | inr off ↦ absurd (some_none (opening-path p off) at) ]

only-root : (p : List Label) (l : Label) (s : List Label) → p ++ l ∷ s ≢ []
only-root [] l s e = cc
only-root (m ∷ p) l s e = cc

pub IsWorld-opening : IsWorld opening_world
IsWorld-opening = record {
  root = opening-root;
  root_directory = directory-by opening_world [] root_number root_file opening-root opening-file refl;
  files = λ p n at.
      let e : root_number ≡ n = same_some root_number n (sym opening-root ∙ sym (ap (finmap.get opening_world.paths) (at-root p n at)) ∙ at) in
      ap is_some (ap (finmap.get opening_world.files) (sym e) ∙ opening-file);
  fronts = λ p l s h. let n = is_value (finmap.get opening_world.paths (p ++ l ∷ s)) h in absurd (only-root p l s (at-root (p ++ l ∷ s) n.0 n.1));
  one_path = λ p q h e. let d = directory-of opening_world p h in at-root p d.number d.there ∙ sym (at-root q d.number (sym e ∙ d.there));
  no_bytes = λ n f at kind. elim (cases_eq n root_number) [
    | inl e ↦ sym (ap (λ (g : File). g.bytes) (same_some root_file f (sym opening-file ∙ sym (ap (finmap.get opening_world.files) e) ∙ at)))
    | inr off ↦ absurd (some_none (opening-no_file n off) at)
  ];
}

pub IsWhole-opening : IsWhole opening_world
IsWhole-opening n h =
    elim (cases_eq n root_number) [
      | inl e ↦ ([], opening-root ∙ ap Some (sym e))
      | inr off ↦ let f = is_value (finmap.get opening_world.files n) h in absurd (some_none (opening-no_file n off) f.1)
    ]

-- ---- what is known of an accepted call

pub record NewPath (w : World) (p : List Label) : Type 0 where
  pub free : finmap.get w.paths p ≡ None
  pub name : Label
  pub parts : p ≡ parent_of p ++ name ∷ []
  pub directory : IsDirectoryAt w (parent_of p)

new-path : (w : World) → IsWorld w → (p : List Label) → MakeKnown (look w) p → NewPath w p
new-path w is p known =
    let m = parted p known.named in
    record { free = unseen w is p known.free; name = m.0; parts = m.1; directory = directory-seen w (parent_of p) known.directory }

link-path : (w : World) → IsWorld w → (limits : Limits) (old new : List Label) → LinkKnown (look w) limits old new → NewPath w new
link-path w is limits old new known =
    let m = parted new known.named in
    record { free = unseen w is new known.free; name = m.0; parts = m.1; directory = directory-seen w (parent_of new) known.directory }

-- a path that goes, and what it led to
pub record Going (w : World) (p : List Label) : Type 0 where
  pub named : p ≢ []
  pub below : (l : Label) (s : List Label) → finmap.get w.paths (p ++ l ∷ s) ≡ None

unlinked : (w : World) → IsWorld w → (p : List Label) → FileKnown (look w) p → Going w p
unlinked w is p known = record {
  named = λ e. regular-seen w p known.regular (subst (IsDirectoryAt w) (sym e) is.root_directory);
  below = nothing-under w is p (regular-seen w p known.regular);
}

rmdir-going : (w : World) → IsWorld w → (p : List Label) → RmdirKnown (look w) p → Going w p
rmdir-going w is p known = record { named = known.named; below = nothing-below w is p known.empty }

-- ---- a path that goes

module _ (w : World) (is : IsWorld w) (p : List Label) (going : Going w p) where
  IsWorld-going : IsWorld (after_unlink w p)
  IsWorld-going = IsWorld-lost (without_path w p) (finmap.get w.paths p) (IsWorld-without_path w p is going.named going.below)

  IsWhole-going : IsWhole w → IsWhole (after_unlink w p)
  IsWhole-going whole =
      IsWhole-lost (without_path w p) (finmap.get w.paths p) (λ k h off.
      let x = whole k (subst (λ fs. IsSome (finmap.get fs k)) (files-left w p) h) in
      (x.0, dropped-other w p x.0 (λ e. off (sym (ap (finmap.get w.paths) e) ∙ x.1)) ∙ x.1))

-- ---- a rename that moves something

-- what moves, and what it moves to
pub record Moving (w : World) (old new : List Label) : Type 0 where
  pub named : old ≢ []
  pub other_named : new ≢ []
  pub apart : Avoids old new
  pub below : (l : Label) (s : List Label) → finmap.get w.paths (new ++ l ∷ s) ≡ None
  pub name : Label
  pub parts : new ≡ parent_of new ++ name ∷ []
  pub directory : IsDirectoryAt w (parent_of new)

pub moving : (w : World) → IsWorld w → (old new : List Label) → RenameKnown (look w) old new
    → are_same_seen (look w old) (look w new) ≡ false → Moving w old new
moving w is old new known off =
    let m = parted new known.other_named in
    let directory = directory-seen w (parent_of new) known.directory in
    record {
      named = known.named;
      other_named = known.other_named;
      apart = apart-from w is old new (parent_of new) m.0 m.1 directory (other-paths (look w) old new known.there off) known.below;
      below = nothing-below w is new (known.empty off);
      name = m.0;
      parts = m.1;
      directory = directory;
    }

-- what a rename leaves: the same world, or the one after a move
pub by-same : (P : World → Type 0) (w : World) (old new : List Label) → P w
    → (are_same_seen (look w old) (look w new) ≡ false → P (without_lost (with_move w old new) (finmap.get w.paths new)))
    → P (after_rename w old new)
unfolding after_rename
by-same P w old new here moved =
    elim (are_same_seen (look w old) (look w new))
    as (λ b. are_same_seen (look w old) (look w new) ≡ b
    → P (if b then w else without_lost (with_move w old new) (finmap.get w.paths new))) [
      | true ↦ λ _. here
      | false ↦ λ e. moved e
    ] refl

IsWorld-renamed : (w : World) → IsWorld w → (old new : List Label) → RenameKnown (look w) old new → IsWorld (after_rename w old new)
IsWorld-renamed w is old new known =
    by-same IsWorld w old new is (λ off.
    let m = moving w is old new known off in
    IsWorld-lost (with_move w old new) (finmap.get w.paths new)
    (IsWorld-with_move w old new m.apart m.below is m.named m.other_named (parent_of new) m.name m.parts m.directory))

IsWhole-renamed : (w : World) → IsWorld w → IsWhole w → (old new : List Label) → RenameKnown (look w) old new → IsWhole (after_rename w old new)
IsWhole-renamed w is whole old new known =
    by-same IsWhole w old new whole (λ off.
    let m = moving w is old new known off in
    IsWhole-lost (with_move w old new) (finmap.get w.paths new) (λ k h other.
    let x = whole k (subst (λ fs. IsSome (finmap.get fs k)) (moved-files w old new) h) in
    path-moved w old new m.apart m.below x.0 k x.1 (λ e. other (sym (ap (finmap.get w.paths) e) ∙ x.1))))

-- ---- an exchange of two files

-- something stands at both paths, and neither begins with the other
record Swapping (w : World) (old new : List Label) : Type 0 where
  apart : Avoids old new
  above : Avoids new old
  there : IsSome (finmap.get w.paths old)
  other_there : IsSome (finmap.get w.paths new)

-- a path in a directory avoids one that stands elsewhere, and is no directory above it
avoiding : (w : World) → IsWorld w → (old new : List Label) → new ≢ [] → IsSome (finmap.get w.paths new) → old ≢ new
    → (is_directory_seen (look w old) && is_below new old) ≡ false → Avoids old new
avoiding w is old new named there other below =
    let m = parted new named in
    apart-from w is old new (parent_of new) m.0 m.1 (is.fronts (parent_of new) m.0 [] (subst (λ p. IsSome (finmap.get w.paths p)) m.1 there)) other below

swapping : (w : World) → IsWorld w → (old new : List Label) → ExchangeKnown (look w) old new
    → are_same_seen (look w old) (look w new) ≡ false → Swapping w old new
swapping w is old new known off =
    let there = ap is_some (seen-some w old known.there).1.there in
    let other_there = ap is_some (seen-some w new known.other_there).1.there in
    let other = other-paths (look w) old new known.there off in
    record {
      apart = avoiding w is old new known.other_named other_there other (known.below off);
      above = avoiding w is new old known.named there (λ e. other (sym e)) (known.above off);
      there = there;
      other_there = other_there;
    }

-- what an exchange leaves: the same world, or the one after it
pub by-other : (P : World → Type 0) (w : World) (old new : List Label) → P w
    → (are_same_seen (look w old) (look w new) ≡ false → P (with_swap w old new)) → P (after_exchange w old new)
by-other P w old new here swapped =
    elim (are_same_seen (look w old) (look w new))
    as (λ b. are_same_seen (look w old) (look w new) ≡ b → P (if b then w else with_swap w old new)) [
      | true ↦ λ _. here
      | false ↦ λ e. swapped e
    ] refl

IsWorld-exchanged : (w : World) → IsWorld w → (old new : List Label) → ExchangeKnown (look w) old new → IsWorld (after_exchange w old new)
IsWorld-exchanged w is old new known =
    by-other IsWorld w old new is (λ off.
    let s = swapping w is old new known off in
    IsWorld-with_swap w old new s.apart s.above is known.named known.other_named s.there s.other_there)

IsWhole-exchanged : (w : World) → IsWorld w → IsWhole w → (old new : List Label) → ExchangeKnown (look w) old new → IsWhole (after_exchange w old new)
IsWhole-exchanged w is whole old new known =
    by-other IsWhole w old new whole (λ off.
    let s = swapping w is old new known off in
    IsWhole-with_swap w old new s.apart s.above whole)

-- a rename by flags is an exchange, or moves as a rename does
pub by-flags : (P : World → Type 0) (w : World) (old new : List Label) (flags : ℕ)
    → ((flags == RENAME_EXCHANGE) ≡ true → P (after_exchange w old new)) → ((flags == RENAME_EXCHANGE) ≡ false → P (after_rename w old new))
    → P (if flags == RENAME_EXCHANGE then after_exchange w old new else after_rename w old new)
by-flags P w old new flags exchange move =
    elim (flags == RENAME_EXCHANGE) as (λ b. (flags == RENAME_EXCHANGE) ≡ b → P (if b then after_exchange w old new else after_rename w old new)) [
      | true ↦ exchange
      | false ↦ move
    ] refl

-- ---- one path more

linking : (w : World) → IsWorld w → (limits : Limits) (old new : List Label) → LinkKnown (look w) limits old new
    → IsWorld (option_map_or (with_path w new) (finmap.get w.paths old) w)
linking w is limits old new known =
    let s = (seen-some w old known.file.there).1 in
    let path = link-path w is limits old new known in
    subst (λ o. IsWorld (option_map_or (with_path w new) o w)) (sym s.there)
    (IsWorld-with_path w new s.number is path.free (parent_of new) path.name path.parts path.directory (ap is_some s.is)
    (λ f at kind. absurd (regular-seen w old known.file.regular (directory-by w old s.number f s.there at kind))))

linking-whole : (w : World) → IsWorld w → IsWhole w → (limits : Limits) (old new : List Label) → LinkKnown (look w) limits old new
    → IsWhole (option_map_or (with_path w new) (finmap.get w.paths old) w)
linking-whole w is whole limits old new known =
    let s = (seen-some w old known.file.there).1 in
    subst (λ o. IsWhole (option_map_or (with_path w new) o w)) (sym s.there)
    (IsWhole-with_path w new s.number (link-path w is limits old new known).free (λ k h off. whole k h))

-- ---- another content

-- a file that is no directory may get bytes
writing : (w : World) (p : List Label) → FileKnown (look w) p → (change : File → File) (f : File) → file_at w p ≡ Some f
    → f.kind ≡ Directory → (change f).bytes ≡ []
writing w p known change f at kind = absurd (regular-seen w p known.regular (subst (λ o. IsSomeAnd o (λ (g : File). g.kind ≡ Directory)) (sym at) kind))

-- ---- every call

module _ (w : World) (limits : Limits) (counts : Counts) (is : IsWorld w) where
  pub IsWorld-after : (call : FileCall) → refused w limits counts call ≡ None → finmap.get w.files counts.next_number ≡ None → IsWorld (after w counts call)
  unfolding refusal_seen
  IsWorld-after (Create p mode) e unused =
      let k = new-path w is p (make-known (look w) limits counts p mode e) in
      IsWorld-with_file w is counts.next_number unused _ (λ _. refl) p k.free (parent_of p) k.name k.parts k.directory
  IsWorld-after (Mkdir p mode) e unused =
      let k = new-path w is p (make-known (look w) limits counts p mode e) in
      IsWorld-with_file w is counts.next_number unused _ (λ _. refl) p k.free (parent_of p) k.name k.parts k.directory
  IsWorld-after (Write p offset bytes) e unused =
      IsWorld-changed w is p (λ f. record f { bytes = written offset bytes f.bytes }) (λ f. refl)
      (λ f at _. writing w p (write-known (look w) limits p offset (length bytes) e).0 (λ f. record f { bytes = written offset bytes f.bytes }) f at)
  IsWorld-after (ReadFile p offset count) e unused = is
  IsWorld-after (Truncate p len) e unused =
      IsWorld-changed w is p (λ f. record f { bytes = resized len f.bytes }) (λ f. refl)
      (λ f at _. writing w p (truncate-known (look w) limits p len e) (λ f. record f { bytes = resized len f.bytes }) f at)
  IsWorld-after (Chmod p mode) e unused = IsWorld-changed w is p (λ f. record f { mode = mode }) (λ f. refl) (λ f at blank. blank)
  IsWorld-after (Link old new) e unused = linking w is limits old new (link-known (look w) limits old new e)
  IsWorld-after (Unlink p) e unused = IsWorld-going w is p (unlinked w is p (unlink-known (look w) p e))
  IsWorld-after (Rmdir p) e unused = IsWorld-going w is p (rmdir-going w is p (rmdir-known (look w) p e))
  IsWorld-after (Rename old new) e unused = IsWorld-renamed w is old new (rename-known (look w) limits counts old new e)
  IsWorld-after (Rename2 old new flags) e unused =
      by-flags IsWorld w old new flags
      (λ yes. IsWorld-exchanged w is old new (exchange-known (look w) limits counts old new flags e yes))
      (λ no. IsWorld-renamed w is old new (move-known (look w) limits counts old new flags e no))
  IsWorld-after (Status p) e unused = is
  IsWorld-after (Listed p) e unused = is

  pub IsWhole-after : IsWhole w → (call : FileCall) → refused w limits counts call ≡ None
      → finmap.get w.files counts.next_number ≡ None → IsWhole (after w counts call)
  unfolding refusal_seen
  IsWhole-after whole (Create p mode) e unused =
      IsWhole-with_file w is counts.next_number unused _ whole p (new-path w is p (make-known (look w) limits counts p mode e)).free
  IsWhole-after whole (Mkdir p mode) e unused =
      IsWhole-with_file w is counts.next_number unused _ whole p (new-path w is p (make-known (look w) limits counts p mode e)).free
  IsWhole-after whole (Write p offset bytes) e unused = IsWhole-changed w whole p (λ f. record f { bytes = written offset bytes f.bytes })
  IsWhole-after whole (ReadFile p offset count) e unused = whole
  IsWhole-after whole (Truncate p len) e unused = IsWhole-changed w whole p (λ f. record f { bytes = resized len f.bytes })
  IsWhole-after whole (Chmod p mode) e unused = IsWhole-changed w whole p (λ f. record f { mode = mode })
  IsWhole-after whole (Link old new) e unused = linking-whole w is whole limits old new (link-known (look w) limits old new e)
  IsWhole-after whole (Unlink p) e unused = IsWhole-going w is p (unlinked w is p (unlink-known (look w) p e)) whole
  IsWhole-after whole (Rmdir p) e unused = IsWhole-going w is p (rmdir-going w is p (rmdir-known (look w) p e)) whole
  IsWhole-after whole (Rename old new) e unused = IsWhole-renamed w is whole old new (rename-known (look w) limits counts old new e)
  IsWhole-after whole (Rename2 old new flags) e unused =
      by-flags IsWhole w old new flags
      (λ yes. IsWhole-exchanged w is whole old new (exchange-known (look w) limits counts old new flags e yes))
      (λ no. IsWhole-renamed w is whole old new (move-known (look w) limits counts old new flags e no))
  IsWhole-after whole (Status p) e unused = whole
  IsWhole-after whole (Listed p) e unused = whole
