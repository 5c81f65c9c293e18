-- From whole paths to keys.
use Rattle.std.proofs.Common.{◌≡◌, ◌≢◌, ℕ, true, false, List, [], ◌∷◌, ◌++◌, Option, Some, None, Result, Ok, Err}
use Rattle.std.proofs.Common.{IsSome, IfSome, IfOk, IfErr, is_none, is_some, ◌&&◌, refl, sym, ap, ◌∙◌, subst}
use Rattle.std.specs.Option.{option_and_then, option_map, unwrap_or}
use Rattle.std.specs.Result.{result_ok}
use Rattle.inode_table.specs.Changes.{Avoids, IsOpen, LosesLink, with_bytes}
use Rattle.inode_table.specs.Rows.{Label, What, row_under, child}
use Rattle.inode_table.specs.Kept.{is_directory, IsTable}
use Rattle.inode_table.specs.Tree.{TableValue, at, what_at}
use Rattle.tree_paths.specs.Paths.{is_below}
use Rattle.inode_table.specs.World as world
use Rattle.inode_table.specs.Refusals.{is_directory_seen, parent_of}
use Rattle.inode_table.specs.TableWorld.{kind_of, file_of}
use Rattle.inode_table.specs.Stands.{seen_row, look_in}
use Rattle.inode_table.specs.declared.seen.Seen.{Seen}
use Rattle.inode_table.proofs.PathLemmas.{is_below-rest}
use Rattle.inode_table.proofs.ChangeLemmas.{live-what, loses-live, regular-what, walk_end}
use Rattle.inode_table.proofs.FindLemmas.{seen_directory, there-seen}
use Rattle.inode_table.proofs.SeenLemmas.{is_value, NodeAt, node-at, parent-seen, open-parent, child-there, avoids-seen, avoids-any, root-directory}

some-from : {A : Type 0} (o : Option A) → o ≢ None → IsSome o
some-from None h = absurd (h refl)
some-from (Some x) h = refl

-- a path's last name, as it is handed over
pub named : (path : List Label) (last name : Label) → path ≡ parent_of path ++ last ∷ [] → name ≡ last → path ≡ parent_of path ++ name ∷ []
named path last name parts same = parts ∙ ap (λ (l : Label). parent_of path ++ l ∷ []) (sym same)

module _ (t : TableValue) (table : IsTable t.rows) where
  -- a path that is there, cut at its last name
  module _ (path parent : List Label) (name : Label) (parts : path ≡ parent ++ name ∷ []) (there : IsSome (look_in t path)) where
    pub node-of : (s : Seen) × NodeAt t (parent ++ name ∷ []) s
    node-of = let s = is_value (look_in t path) there in (s.0, node-at t (parent ++ name ∷ []) s.0 (ap (look_in t) (sym parts) ∙ s.1))

    pub parent-there : IsSome (look_in t parent)
    parent-there =
        let s = is_value (look_in t path) there in some-from (look_in t parent) (parent-seen t table parent name s.0 (ap (look_in t) (sym parts) ∙ s.1))

    pub parent-open : (k : ℕ) → at t parent ≡ Some k → IsOpen t k
    parent-open k found = open-parent t table parent name k node-of.0 found node-of.1

    pub child-key : (k : ℕ) → at t parent ≡ Some k → child t.rows k name ≡ Some node-of.1.key
    child-key k found = child-there t table parent name k node-of.0 found node-of.1

    pub child-some : (k : ℕ) → at t parent ≡ Some k → IsSome (child t.rows k name)
    child-some k found = subst (λ o. is_some o ≡ true) (sym (child-key k found)) refl

  -- a directory is seen at its path
  open-seen : (p : List Label) (k : ℕ) → at t p ≡ Some k → is_directory t.rows k ≡ true → is_directory_seen (look_in t p) ≡ true
  open-seen p k there dir =
      ap (λ o. is_directory_seen (option_and_then (λ k. option_map seen_row (row_under t.rows k)) o)) there ∙ seen_directory (row_under t.rows k) ∙ dir

  -- of two names of which neither is below the other, none is the root's
  pub swap-named : (one other : List Label) → one ≢ other → (is_directory_seen (look_in t one) && is_below other one) ≡ false → one ≢ []
  swap-named one [] apart below is = apart is
  swap-named one (l ∷ s) apart below is =
      let d : is_directory_seen (look_in t one) ≡ true = ap (λ p. is_directory_seen (look_in t p)) is ∙ root-directory t table in
      let b : is_below (l ∷ s) one ≡ true = is_below-rest one (l ∷ s) l s (ap (λ p. p ++ l ∷ s) (sym is)) in
      let e : true ≡ false = (λ i. sym d i && sym b i) ∙ below in
      cc

  -- and they begin with one another at no path of their directories
  pub swap-apart : (one parent : List Label) (name : Label) → one ≡ parent ++ name ∷ [] → IsSome (look_in t one)
      → (other other_parent : List Label) (other_name : Label) → other ≡ other_parent ++ other_name ∷ [] → IsSome (look_in t other)
      → (k j : ℕ) → at t parent ≡ Some k → at t other_parent ≡ Some j
      → one ≢ other → (is_directory_seen (look_in t one) && is_below other one) ≡ false
      → (p q : List Label) → at t p ≡ Some k → at t q ≡ Some j → Avoids (p ++ name ∷ []) (q ++ other_name ∷ [])
  swap-apart one parent name parts there other other_parent other_name other_parts other_there k j found other_found apart below p q to_p to_q =
      let from = parent-open one parent name parts there k found in
      let to = parent-open other other_parent other_name other_parts other_there j other_found in
      let off = avoids-seen t table one other other_parent other_name other_parts there (open-seen other_parent j other_found to.kind) apart below in
      avoids-any t table k j parent other_parent p q name other_name found other_found from.kind to.kind to_p to_q
      (subst (λ x. Avoids x (other_parent ++ other_name ∷ [])) parts (subst (Avoids one) other_parts off))

  -- the key at a path, if there is one
  pub ok-at : {E : Type 0} (path : List Label) (r : Result ℕ E) → IfOk r (λ k. at t path ≡ Some k)
      → IfErr r (λ _. look_in t path ≡ None) → result_ok r ≡ at t path
  ok-at path (Ok k) found absent = sym found
  ok-at path (Err e) found absent = sym (there-seen t table path absent)

-- the key at a path, which is under its last name
pub key-under : (t : TableValue) (path parent : List Label) (name : Label) → path ≡ parent ++ name ∷ [] → (k : ℕ) → at t parent ≡ Some k
    → (found : Option ℕ) → at t path ≡ found → child t.rows k name ≡ found
key-under t path parent name parts k there found is = sym (walk_end (child t.rows) k parent name there) ∙ ap (at t) (sym parts) ∙ is

-- a node stays where it loses a link
pub kept-there : (old new : TableValue) (node : Option ℕ) → LosesLink old.rows new.rows node → (k : ℕ) → IsSome (what_at old k) → IsSome (what_at new k)
kept-there old new node loses k there = sym (live-what new.rows k) ∙ sym (loses-live loses k) ∙ live-what old.rows k ∙ there

pub if-some : (P : ℕ → Type 0) (o : Option ℕ) → ((k : ℕ) → o ≡ Some k → P k) → IfSome o P
if-some P None h = tt
if-some P (Some k) h = h k refl

-- ---- the contents of a file

pub file-regular : (t : TableValue) (p : List Label) (k : ℕ) (v : What) → at t p ≡ Some k → what_at t k ≡ Some v
    → is_directory_seen (look_in t p) ≡ false → is_none v.bytes ≡ false
file-regular t p k v found is regular =
    regular-what t.rows k v is
    (sym (seen_directory (row_under t.rows k))
    ∙ sym (ap (λ o. is_directory_seen (option_and_then (λ k. option_map seen_row (row_under t.rows k)) o)) found) ∙ regular)

abbrev file : List ℕ → ℕ → Option (List ℕ) → world.File
file bytes mode kind = record { kind = kind_of kind; mode = mode; bytes = bytes }

pub file-mapped : (f : List ℕ → List ℕ) (v : What) → is_none v.bytes ≡ false
    → file_of (record v { bytes = option_map f v.bytes }) ≡ file (f (file_of v).bytes) v.mode v.bytes
file-mapped f v regular = by v.bytes regular
  where
    by : (o : Option (List ℕ)) → is_none o ≡ false → file (unwrap_or (option_map f o) []) v.mode (option_map f o) ≡ file (f (unwrap_or o [])) v.mode o
    by None e = absurd (cc)
    by (Some bytes) e = refl

pub file-set : (bytes : List ℕ) (v : What) → is_none v.bytes ≡ false → file_of (with_bytes bytes v) ≡ file bytes v.mode v.bytes
file-set bytes v regular = by v.bytes regular
  where
    by : (o : Option (List ℕ)) → is_none o ≡ false → file bytes v.mode (Some bytes) ≡ file bytes v.mode o
    by None e = absurd (cc)
    by (Some old) e = refl
