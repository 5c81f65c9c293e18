-- What is known of a world, and what is seen of it.
use Rattle.std.proofs.Common.{◌≡◌, ◌≢◌, ℕ, ◌-◌, length, take, true, false, ◌&&◌, List, [], ◌∷◌, ◌++◌, append-nil, Some}
use Rattle.std.proofs.Common.{None, IsSome, is_some, refl, sym, ap, ◌∙◌, subst, arith, length-append}
use Rattle.std.specs.Option.{option_and_then, option_map, IsSomeAnd}
use Rattle.std.specs.FinMap as finmap
use Rattle.inode_table.specs.declared.seen.Kind.{Kind}
use Rattle.inode_table.specs.declared.seen.Kind.TheVariants.{Regular, Directory}
use Rattle.inode_table.specs.declared.seen.Seen.{Seen}
use Rattle.inode_table.specs.Changes.{Avoids}
use Rattle.inode_table.specs.Rows.{Label}
use Rattle.tree_paths.specs.Paths.{is_below}
use Rattle.inode_table.specs.Refusals.{is_directory_kind, is_directory_seen, parent_of}
use Rattle.inode_table.specs.World.{World, File, IsWorld, IsDirectoryAt, look}
use Rattle.inode_table.proofs.TreeLemmas.{some_none, same_some}
use Rattle.inode_table.proofs.FindLemmas.{take-front}
use Rattle.inode_table.proofs.MapLemmas.{keys-any}
use Rattle.inode_table.proofs.PathLemmas.{is_below-rest}
use Rattle.inode_table.proofs.SeenLemmas.{is_value, front-past}
use Rattle.inode_table.proofs.WorldLemmas.{seen_as, path_total, path_exact}
use Rattle.tree_ops.specs.Refused.{has_names_seen}

-- ---- paths

last-of : (l : Label) (p : List Label) → (q : List Label) × (m : Label) × (l ∷ p ≡ q ++ m ∷ [])
last-of l [] = ([], l, refl)
last-of l (k ∷ p) = let w = last-of k p in (l ∷ w.0, w.1, ap (λ x. l ∷ x) w.2)

cut-last : (q : List Label) (m : Label) → parent_of (q ++ m ∷ []) ≡ q
cut-last q m =
    let e : length (q ++ m ∷ []) - 1 ≡ length q = omega (arith, length-append q (m ∷ [])) in
    ap (λ n. take n (q ++ m ∷ [])) e ∙ take-front q (m ∷ [])

-- a path with a name is that of its directory and the name
pub parted : (p : List Label) → p ≢ [] → (m : Label) × (p ≡ parent_of p ++ m ∷ [])
parted [] named = absurd (named refl)
parted (l ∷ p) named = let w = last-of l p in (w.1, w.2 ∙ ap (λ x. x ++ w.1 ∷ []) (sym (ap parent_of w.2 ∙ cut-last w.0 w.1)))

-- ---- directories

-- a directory at a path, and its number
pub record DirectoryAt (w : World) (p : List Label) : Type 0 where
  pub number : ℕ
  pub file : File
  pub there : finmap.get w.paths p ≡ Some number
  pub is : finmap.get w.files number ≡ Some file
  pub kind : file.kind ≡ Directory

pub directory-of : (w : World) (p : List Label) → IsDirectoryAt w p → DirectoryAt w p
directory-of w p h =
    elim (finmap.get w.paths p) as (λ o. finmap.get w.paths p ≡ o
    → IsSomeAnd (option_and_then (finmap.get w.files) o) (λ (f : File). f.kind ≡ Directory) → DirectoryAt w p) [
      | None ↦ λ _ g. absurd g
      | Some n ↦ λ there g. elim (finmap.get w.files n) as (λ o. finmap.get w.files n ≡ o → IsSomeAnd o (λ (f : File). f.kind ≡ Directory) → DirectoryAt w p) [
        | None ↦ λ _ k. absurd k
        | Some f ↦ λ is k. record { number = n; file = f; there = there; is = is; kind = k }
      ] refl g
    ] refl h

pub directory-by : (w : World) (p : List Label) (n : ℕ) (f : File) → finmap.get w.paths p ≡ Some n → finmap.get w.files n ≡ Some f
    → f.kind ≡ Directory → IsDirectoryAt w p
directory-by w p n f there is kind =
    subst (λ o. IsSomeAnd o (λ (g : File). g.kind ≡ Directory)) (sym (ap (option_and_then (finmap.get w.files)) there ∙ is)) kind

pub directory-there : (w : World) (p : List Label) → IsDirectoryAt w p → finmap.get w.paths p ≢ None
directory-there w p h none = some_none none (directory-of w p h).there

-- each front of a directory's path is a directory's path
pub directory-front : (w : World) → IsWorld w → (q x r : List Label) → IsDirectoryAt w q → q ≡ x ++ r → IsDirectoryAt w x
directory-front w is q x [] h e = subst (IsDirectoryAt w) (e ∙ append-nil x) h
directory-front w is q x (l ∷ r) h e = is.fronts x l r (ap is_some (sym (ap (finmap.get w.paths) e) ∙ (directory-of w q h).there))

-- ---- what is seen

-- what stands at a path
pub record StandsAt (w : World) (p : List Label) (s : Seen) : Type 0 where
  pub number : ℕ
  pub file : File
  pub there : finmap.get w.paths p ≡ Some number
  pub is : finmap.get w.files number ≡ Some file
  pub seen : seen_as w p number file ≡ s

pub standing : (w : World) (p : List Label) (s : Seen) → look w p ≡ Some s → StandsAt w p s
unfolding look
standing w p s h =
    elim (finmap.get w.paths p) as (λ o. finmap.get w.paths p ≡ o
    → option_and_then (λ n. option_map (seen_as w p n) (finmap.get w.files n)) o ≡ Some s → StandsAt w p s) [
      | None ↦ λ _ g. absurd (some_none refl g)
      | Some n ↦ λ there g. elim (finmap.get w.files n) as (λ o. finmap.get w.files n ≡ o → option_map (seen_as w p n) o ≡ Some s → StandsAt w p s) [
        | None ↦ λ _ k. absurd (some_none refl k)
        | Some f ↦ λ is k. record { number = n; file = f; there = there; is = is; seen = same_some (seen_as w p n f) s k }
      ] refl g
    ] refl h

pub look-is : (w : World) (p : List Label) (n : ℕ) (f : File) → finmap.get w.paths p ≡ Some n → finmap.get w.files n ≡ Some f
    → look w p ≡ Some (seen_as w p n f)
unfolding look
look-is w p n f there is = ap (option_and_then (λ n. option_map (seen_as w p n) (finmap.get w.files n))) there ∙ ap (option_map (seen_as w p n)) is

-- nothing is there where nothing is seen
pub unseen : (w : World) → IsWorld w → (p : List Label) → look w p ≡ None → finmap.get w.paths p ≡ None
unseen w is p none =
    elim (finmap.get w.paths p) as (λ o. finmap.get w.paths p ≡ o → o ≡ None) [
      | None ↦ λ _. refl
      | Some n ↦ λ there. let f = is_value (finmap.get w.files n) (is.files p n there) in absurd (some_none none (look-is w p n f.0 there f.1))
    ] refl

pub seen-some : (w : World) (p : List Label) → IsSome (look w p) → (s : Seen) × StandsAt w p s
seen-some w p there = let s = is_value (look w p) there in (s.0, standing w p s.0 s.1)

directory-kind : (k : Kind) → is_directory_kind k ≡ true → k ≡ Directory
directory-kind Regular e = absurd (cc)
directory-kind Directory e = refl

kind-directory : (k : Kind) → k ≡ Directory → is_directory_kind k ≡ true
kind-directory k e = ap is_directory_kind e

-- a directory is at a path where one is seen, and nowhere else
pub directory-seen : (w : World) (p : List Label) → is_directory_seen (look w p) ≡ true → IsDirectoryAt w p
directory-seen w p e =
    elim (look w p) as (λ o. look w p ≡ o → is_directory_seen o ≡ true → IsDirectoryAt w p) [
      | None ↦ λ _ g. absurd (cc)
      | Some s ↦ λ at g.
          let a = standing w p s at in
          directory-by w p a.number a.file a.there a.is (directory-kind a.file.kind (ap (λ (x : Seen). is_directory_kind x.kind) a.seen ∙ g))
    ] refl e

pub seen-directory : (w : World) (p : List Label) → IsDirectoryAt w p → is_directory_seen (look w p) ≡ true
seen-directory w p h =
    let d = directory-of w p h in
    ap is_directory_seen (look-is w p d.number d.file d.there d.is) ∙ kind-directory d.file.kind d.kind

pub regular-seen : (w : World) (p : List Label) → is_directory_seen (look w p) ≡ false → IsDirectoryAt w p → ⊥
regular-seen w p e h = let yes = seen-directory w p h in cc

-- nothing is below what has no names
pub nothing-below : (w : World) → IsWorld w → (p : List Label) → has_names_seen (look w p) ≡ false → (l : Label) (s : List Label)
    → finmap.get w.paths (p ++ l ∷ s) ≡ None
nothing-below w is p none l s =
    elim (finmap.get w.paths (p ++ l ∷ s)) as (λ o. finmap.get w.paths (p ++ l ∷ s) ≡ o → o ≡ None) [
      | None ↦ λ _. refl
      | Some n ↦ λ there.
          let d = directory-of w p (is.fronts p l s (ap is_some there)) in
          let yes : has_names_seen (look w p) ≡ true =
          ap has_names_seen (look-is w p d.number d.file d.there d.is)
          ∙ keys-any path_total path_exact (λ q. is_below q p) w.paths (p ++ l ∷ s) (ap is_some there) (is_below-rest p (p ++ l ∷ s) l s refl) in
          absurd (cc)
    ] refl

-- nothing is below what is no directory
pub nothing-under : (w : World) → IsWorld w → (p : List Label) → (IsDirectoryAt w p → ⊥) → (l : Label) (s : List Label) → finmap.get w.paths (p ++ l ∷ s) ≡ None
nothing-under w is p off l s =
    elim (finmap.get w.paths (p ++ l ∷ s)) as (λ o. finmap.get w.paths (p ++ l ∷ s) ≡ o → o ≡ None) [
      | None ↦ λ _. refl
      | Some n ↦ λ there. absurd (off (is.fronts p l s (ap is_some there)))
    ] refl

-- a path in a directory does not begin with another path that it is not, but for a directory above it
pub apart-from : (w : World) → IsWorld w → (old new q : List Label) (l : Label) → new ≡ q ++ l ∷ [] → IsDirectoryAt w q
    → old ≢ new → (is_directory_seen (look w old) && is_below new old) ≡ false → Avoids old new
apart-from w is old new q l parts directory other below [] e = other (sym (e ∙ append-nil old))
apart-from w is old new q l parts directory other below (m ∷ s) e =
    let r = front-past q old l m s (sym parts ∙ e) in
    let above = seen-directory w old (directory-front w is q old r.0 directory r.1) in
    let under : is_below new old ≡ true = is_below-rest old new m s e in
    let clash : true ≡ false = (λ i. sym above i && sym under i) ∙ below in
    cc
