-- A move of all paths of a front leaves a world one, where what it moves to is no front of what moves and has nothing below it.
use Rattle.std.proofs.Common.{◌≡◌, ◌≢◌, ◌⊎◌, inl, inr, ℕ, List, [], ◌∷◌, ◌++◌, append-nil, append_assoc, Option, Some}
use Rattle.std.proofs.Common.{None, IsSome, is_some, refl, sym, ap, ◌∙◌, subst}
use Rattle.std.specs.Option.{option_and_then, IsSomeAnd}
use Rattle.std.specs.FinMap as finmap
use Rattle.inode_table.specs.declared.seen.Kind.TheVariants.{Directory}
use Rattle.inode_table.specs.Changes.{Avoids, MovesPath}
use Rattle.inode_table.specs.Rows.{Label}
use Rattle.inode_table.specs.World.{World, File, IsWorld, IsDirectoryAt, with_move}
use Rattle.inode_table.proofs.TreeLemmas.{some_none, origin}
use Rattle.inode_table.proofs.ChangeLemmas.{decide_label}
use Rattle.inode_table.proofs.PathLemmas.{begins, append-cancel}
use Rattle.inode_table.proofs.PathMoves.{MovesPath-with_move}
use Rattle.inode_table.proofs.SeenLemmas.{is_value, front-past}
use Rattle.tree_ops.proofs.Worlds.{directory-of, directory-by, directory-front}

pub moved-files : (w : World) (from to : List Label) → (with_move w from to).files ≡ w.files
unfolding with_move
moved-files w from to = refl

pub no-front : (y s : List Label) → y ≢ [] → [] ≢ y ++ s
no-front [] s named e = named refl
no-front (l ∷ y) s named e = cc

-- a path that does not begin with a front, but goes on to one that does, is above the front
pub under : (x y : List Label) (l : Label) (s t : List Label) → Avoids y x → x ++ l ∷ s ≡ y ++ t → (m : Label) × (r : List Label) × (y ≡ x ++ m ∷ r)
under [] [] l s t off e = absurd (off [] refl)
under [] (m ∷ y) l s t off e = (m, y, refl)
under (m ∷ x) [] l s t off e = absurd (off (m ∷ x) refl)
under (m ∷ x) (k ∷ y) l s t off e =
    let head : k ≡ m = cc in
    let w = under x y l s t (λ r g. off r (λ i. sym head i ∷ g i)) (cc) in
    (w.0, w.1, λ i. head i ∷ w.2 i)

module _ (w : World) (from to : List Label) (apart : Avoids from to) (empty : (l : Label) (s : List Label) → finmap.get w.paths (to ++ l ∷ s) ≡ None) where
  moves : MovesPath (finmap.get w.paths) (finmap.get (with_move w from to).paths) from to
  moves = MovesPath-with_move w from to apart empty

  abbrev now : List Label → Option ℕ
  now = finmap.get (with_move w from to).paths

  directory-moved : (x y : List Label) → now x ≡ finmap.get w.paths y → IsDirectoryAt w y → IsDirectoryAt (with_move w from to) x
  unfolding with_move
  directory-moved x y e h = subst (λ o. IsSomeAnd (option_and_then (finmap.get w.files) o) (λ (f : File). f.kind ≡ Directory)) (sym e) h

  came : (x : List Label) (n : ℕ) → now x ≡ Some n
      → ((s : List Label) × (x ≡ to ++ s) × (finmap.get w.paths (from ++ s) ≡ Some n)) ⊎ (Avoids from x × (finmap.get w.paths x ≡ Some n))
  came x n at = origin decide_label moves x n at

  -- a file that is not written over has a path still
  pub path-moved : (x : List Label) (n : ℕ) → finmap.get w.paths x ≡ Some n → x ≢ to → (y : List Label) × (now y ≡ Some n)
  path-moved x n at off =
      elim (begins from x) [
        | inl c ↦ (to ++ c.0, moves.moved c.0 ∙ sym (ap (finmap.get w.paths) c.1) ∙ at)
        | inr off_from ↦ (x, moves.others x off_from (λ s e. past s e) ∙ at)
      ]
    where
      past : (s : List Label) → x ≢ to ++ s
      past [] e = off (e ∙ append-nil to)
      past (l ∷ s) e = some_none (ap (finmap.get w.paths) e ∙ empty l s) at

  module _ (is : IsWorld w) (from_named : from ≢ []) (to_named : to ≢ []) (q : List Label) (k : Label) (parts : to ≡ q ++ k ∷ [])
      (directory : IsDirectoryAt w q) where
    -- a directory that is above what moves and what it moves to stays where it is
    stays : (x : List Label) → IsDirectoryAt w x → Avoids from x → Avoids to x → IsDirectoryAt (with_move w from to) x
    stays x h off_from off_to = directory-moved x x (moves.others x off_from off_to) h

    longer-off : (front x : List Label) (l : Label) (s : List Label) → Avoids front (x ++ l ∷ s) → Avoids front x
    longer-off front x l s off r e = off (r ++ l ∷ s) (ap (λ y. y ++ l ∷ s) e ∙ append_assoc front r (l ∷ s))

    fronts-to : (x : List Label) (l : Label) (s t : List Label) (n : ℕ) → x ++ l ∷ s ≡ to ++ t
        → finmap.get w.paths (from ++ t) ≡ Some n → IsDirectoryAt (with_move w from to) x
    fronts-to x l s t n e at =
        elim (begins to x) [
          | inl c ↦
              let rest : c.0 ++ l ∷ s ≡ t = append-cancel to (c.0 ++ l ∷ s) t (sym (append_assoc to c.0 (l ∷ s)) ∙ sym (ap (λ y. y ++ l ∷ s) c.1) ∙ e) in
              let there : finmap.get w.paths ((from ++ c.0) ++ l ∷ s) ≡ Some n =
              ap (finmap.get w.paths) (append_assoc from c.0 (l ∷ s) ∙ ap (λ y. from ++ y) rest) ∙ at in
              directory-moved x (from ++ c.0) (ap now c.1 ∙ moves.moved c.0) (is.fronts (from ++ c.0) l s (ap is_some there))
          | inr off ↦ above x l s t off e
        ]
      where
        above : (x : List Label) (l : Label) (s t : List Label) → Avoids to x → x ++ l ∷ s ≡ to ++ t → IsDirectoryAt (with_move w from to) x
        above x l s t off e =
            let u = under x to l s t off e in
            let r = front-past q x k u.0 u.1 (sym parts ∙ u.2) in
            stays x (directory-front w is q x r.0 directory r.1)
            (λ v g. apart (v ++ u.0 ∷ u.1) (u.2 ∙ ap (λ y. y ++ u.0 ∷ u.1) g ∙ append_assoc from v (u.0 ∷ u.1))) off

    fronts : (x : List Label) (l : Label) (s : List Label) → IsSome (now (x ++ l ∷ s)) → IsDirectoryAt (with_move w from to) x
    fronts x l s h =
        let n = is_value (now (x ++ l ∷ s)) h in
        elim (came (x ++ l ∷ s) n.0 n.1) [
          | inl c ↦ fronts-to x l s c.0 n.0 c.1 c.2
          | inr c ↦ stays x (is.fronts x l s (ap is_some c.1)) (longer-off from x l s c.0) (λ r e.
              some_none (ap (finmap.get w.paths) (ap (λ y. y ++ l ∷ s) e) ∙ beyond r l s) c.1)
        ]
      where
        beyond : (r : List Label) (l : Label) (s : List Label) → finmap.get w.paths ((to ++ r) ++ l ∷ s) ≡ None
        beyond [] l s = ap (λ y. finmap.get w.paths (y ++ l ∷ s)) (append-nil to) ∙ empty l s
        beyond (m ∷ r) l s = ap (finmap.get w.paths) (append_assoc to (m ∷ r) (l ∷ s)) ∙ empty m (r ++ l ∷ s)

    -- a directory had one path
    one : (n : ℕ) (f : File) → finmap.get w.files n ≡ Some f → f.kind ≡ Directory → (x y : List Label)
        → finmap.get w.paths x ≡ Some n → finmap.get w.paths y ≡ Some n → x ≡ y
    one n f file kind x y at_x at_y = is.one_path x y (directory-by w x n f at_x file kind) (at_x ∙ sym at_y)

    one_path : (x y : List Label) → IsDirectoryAt (with_move w from to) x → now x ≡ now y → x ≡ y
    one_path x y h e =
        let d = directory-of (with_move w from to) x h in
        let file : finmap.get w.files d.number ≡ Some d.file = ap (λ fs. finmap.get fs d.number) (sym (moved-files w from to)) ∙ d.is in
        elim (came x d.number d.there) [
          | inl a ↦ elim (came y d.number (sym e ∙ d.there)) [
            | inl b ↦ a.1 ∙ ap (λ s. to ++ s) (append-cancel from a.0 b.0 (one d.number d.file file d.kind (from ++ a.0) (from ++ b.0) a.2 b.2)) ∙ sym b.1
            | inr b ↦ absurd (b.0 a.0 (one d.number d.file file d.kind y (from ++ a.0) b.1 a.2))
          ]
          | inr a ↦ elim (came y d.number (sym e ∙ d.there)) [
            | inl b ↦ absurd (a.0 b.0 (one d.number d.file file d.kind x (from ++ b.0) a.1 b.2))
            | inr b ↦ one d.number d.file file d.kind x y a.1 b.1
          ]
        ]

    files-there : (x : List Label) (n : ℕ) → now x ≡ Some n → IsSome (finmap.get w.files n)
    files-there x n at =
        elim (came x n at) [
          | inl c ↦ is.files (from ++ c.0) n c.2
          | inr c ↦ is.files x n c.1
        ]

    pub IsWorld-with_move : IsWorld (with_move w from to)
    IsWorld-with_move = record {
      root = moves.others [] (λ s. no-front from s from_named) (λ s. no-front to s to_named) ∙ is.root;
      root_directory = stays [] is.root_directory (λ s. no-front from s from_named) (λ s. no-front to s to_named);
      files = λ x n at. subst (λ fs. IsSome (finmap.get fs n)) (sym (moved-files w from to)) (files-there x n at);
      fronts = fronts;
      one_path = one_path;
      no_bytes = λ k f at. is.no_bytes k f (ap (λ fs. finmap.get fs k) (sym (moved-files w from to)) ∙ at);
    }
