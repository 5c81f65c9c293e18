-- What is true of the world of a table.
use Rattle.std.proofs.Common.{◌≡◌, ◌↔◌, ℕ, true, false, List, [], ◌∷◌, ◌++◌, Option, Some, None, IsSome, is_some, is_none, unwrap_or, refl, sym, ap, ◌∙◌, subst}
use Rattle.std.specs.Option.{option_and_then, option_map, option_map_or, IsSomeAnd}
use Rattle.std.specs.FinMap as finmap
use Rattle.inode_table.specs.Walk.{walk}
use Rattle.inode_table.specs.Rows.{Label, Row, row_under, child, shown, bytes_in}
use Rattle.inode_table.specs.Kept.{is_directory, is_directory_row}
use Rattle.inode_table.specs.Tree.{TableValue, at, what_at}
use Rattle.inode_table.specs.World as world
use Rattle.inode_table.specs.World.{World, IsWorld, IsDirectoryAt, file_at}
use Rattle.inode_table.specs.TableWorld.{IsNodeOf, kind_of, file_of}
use Rattle.inode_table.specs.Stands.{Stands}
use Rattle.inode_table.specs.declared.seen.Kind.TheVariants.{Directory}
use Rattle.inode_table.proofs.TreeLemmas.{some_none, same_some}
use Rattle.inode_table.proofs.WalkLemmas.{walk-append}
use Rattle.inode_table.proofs.StandsLemmas.{node_at, number-at, absent-at, there-of, key_of}
use Rattle.inode_table.proofs.SeenLemmas.{file-of-row}

kind-directory : (o : Option (List ℕ)) → is_none o ≡ true → kind_of o ≡ Directory
kind-directory None e = refl
kind-directory (Some x) e = absurd (cc)

directory-kind : (o : Option (List ℕ)) → kind_of o ≡ Directory → is_none o ≡ true
directory-kind None e = refl
directory-kind (Some x) e = absurd (cc)

module _ {t : TableValue} {w : World} (stands : Stands t w) where
  row-directory : (k : ℕ) (r : Row) → row_under t.rows k ≡ Some r → is_directory t.rows k ≡ is_none (bytes_in r.body)
  row-directory k r is = ap (λ o. option_map_or is_directory_row o false) is

  directory-at : (p : List Label) (k : ℕ) → at t p ≡ Some k → is_directory t.rows k ≡ true → IsDirectoryAt w p
  directory-at p k there dir =
      let n = node_at stands p k there in
      subst (λ o. IsSomeAnd o (λ (f : world.File). f.kind ≡ Directory)) (sym (file-of-row stands p k n.0 there n.1))
      (kind-directory (bytes_in n.0.body) (sym (row-directory k n.0 n.1) ∙ dir))

  fronts-of : (p : List Label) (l : Label) (s : List Label) → IsSome (finmap.get w.paths (p ++ l ∷ s)) → IsDirectoryAt w p
  fronts-of p l s is =
      let k = there-of stands (p ++ l ∷ s) is in
      let led : option_and_then (λ j. walk (child t.rows) j (l ∷ s)) (at t p) ≡ Some k.0 = sym (walk-append (child t.rows) 0 p (l ∷ s)) ∙ k.1 in
      elim (at t p) as (λ o. at t p ≡ o → option_and_then (λ j. walk (child t.rows) j (l ∷ s)) o ≡ Some k.0 → IsDirectoryAt w p) [
        | None ↦ λ _ e. absurd (some_none refl e)
        | Some j ↦ λ there e.
            elim (child t.rows j l) as (λ o. child t.rows j l ≡ o → option_and_then (λ i. walk (child t.rows) i s) o ≡ Some k.0 → IsDirectoryAt w p) [
              | None ↦ λ _ f. absurd (some_none refl f)
              | Some i ↦ λ edge _. directory-at p j there (stands.table.tree.parents j i l edge)
            ] refl e
      ] refl led

  one_path-of : (p q : List Label) → IsDirectoryAt w p → finmap.get w.paths p ≡ finmap.get w.paths q → p ≡ q
  one_path-of p q dir same =
      elim (at t p) as (λ o. at t p ≡ o → p ≡ q) [
        | None ↦ λ e. absurd (none_at (finmap.get w.paths p) (absent-at stands p e) dir)
        | Some k ↦ λ there.
            let n = node_at stands p k there in
            let v = shown n.0 in
            let is : what_at t k ≡ Some v = ap (option_map shown) n.1 in
            let kind : kind_of (bytes_in n.0.body) ≡ Directory = kind_at (file_at w p) (file_of v) (file-of-row stands p k n.0 there n.1) dir in
            let to_q = key_of stands q k v is (sym same ∙ number-at stands p k v there is) in
            stands.table.tree.one_path k p q (row-directory k n.0 n.1 ∙ directory-kind (bytes_in n.0.body) kind) there to_q
      ] refl
    where
      none_at : (o : Option ℕ) → o ≡ None → IsSomeAnd (option_and_then (finmap.get w.files) o) (λ (f : world.File). f.kind ≡ Directory) → ⊥
      none_at None e h = h
      none_at (Some n) e h = absurd (cc)

      kind_at : (o : Option world.File) (f : world.File) → o ≡ Some f → IsSomeAnd o (λ (f : world.File). f.kind ≡ Directory) → f.kind ≡ Directory
      kind_at None f e h = absurd h
      kind_at (Some g) f e h = let same : g ≡ f = same_some g f e in sym (ap (λ (x : world.File). x.kind) same) ∙ h

  files-of : (p : List Label) (n : ℕ) → finmap.get w.paths p ≡ Some n → IsSome (finmap.get w.files n)
  files-of p n is =
      let k = there-of stands p (ap is_some is) in
      let r = node_at stands p k.0 k.1 in
      let v = shown r.0 in
      let there : what_at t k.0 ≡ Some v = ap (option_map shown) r.1 in
      let number : v.number ≡ n = same_some v.number n (sym (number-at stands p k.0 v k.1 there) ∙ is) in
      ap is_some (ap (finmap.get w.files) (sym number) ∙ stands.files k.0 v there)

  no_bytes-of : (n : ℕ) (f : world.File) → finmap.get w.files n ≡ Some f → f.kind ≡ Directory → f.bytes ≡ []
  no_bytes-of n f is kind =
      let found = stands.no_more n f is in
      let same : file_of found.1 ≡ f = same_some (file_of found.1) f (sym (stands.files found.0 found.1 found.2) ∙ ap (finmap.get w.files) found.3 ∙ is) in
      sym (ap (λ (g : world.File). g.bytes) same) ∙ bytes-none found.1.bytes (ap (λ (g : world.File). g.kind) same ∙ kind)
    where
      bytes-none : (o : Option (List ℕ)) → kind_of o ≡ Directory → unwrap_or o [] ≡ []
      bytes-none None e = refl
      bytes-none (Some x) e = absurd (cc)

  pub IsWorld-of : IsWorld w
  IsWorld-of = record {
    root = stands.paths [] ∙ stands.table.root;
    root_directory = directory-at [] 0 refl stands.table.tree.root;
    files = files-of;
    fronts = fronts-of;
    one_path = one_path-of;
    no_bytes = no_bytes-of;
  }

  pub files-are-nodes : (n : ℕ) (f : world.File) → (finmap.get w.files n ≡ Some f) ↔ IsNodeOf t n f
  files-are-nodes n f = (to_node, of_node)
    where
      to_node : finmap.get w.files n ≡ Some f → IsNodeOf t n f
      to_node is =
          let found = stands.no_more n f is in (
            found.0,
            found.1,
            found.2,
            found.3,
            same_some (file_of found.1) f (sym (stands.files found.0 found.1 found.2) ∙ ap (finmap.get w.files) found.3 ∙ is),
          )

      of_node : IsNodeOf t n f → finmap.get w.files n ≡ Some f
      of_node node = ap (finmap.get w.files) (sym node.3) ∙ stands.files node.0 node.1 node.2 ∙ ap Some node.4
