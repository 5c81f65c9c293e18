-- Each change of a world leaves it one, where nothing is lost below the path that changes.
use Rattle.std.proofs.Common.{◌≡◌, ◌≢◌, inl, inr, ℕ, zero, suc, ◌==◌, List, [], ◌∷◌, ◌++◌, Option, Some, None, IsSome}
use Rattle.std.proofs.Common.{is_some, refl, sym, ap, ◌∙◌, subst, if◌then◌else◌}
use Rattle.std.proofs.lemmas.Bool.{cases_eq}
use borrow.Author.Tests.{ne_eqb}
use Rattle.std.specs.Option.{option_and_then, option_map, option_map_or, IsSomeAnd}
use Rattle.std.specs.Ordering.{nat_cmp}
use Rattle.std.specs.Cmp.{nat_cmp_total}
use Rattle.std.specs.FinMap as finmap
use Rattle.std.specs.FinMap.{FinMap, nat_cmp-IsAntisymmetric}
use Rattle.inode_table.specs.declared.seen.Kind.{Kind}
use Rattle.inode_table.specs.declared.seen.Kind.TheVariants.{Directory}
use Rattle.inode_table.specs.Count.{IsCount}
use Rattle.inode_table.specs.Rows.{Label}
use Rattle.inode_table.specs.World.{World, File, IsWorld, IsWhole, IsDirectoryAt, file_at, links, with_file, with_path}
use Rattle.inode_table.specs.World.{without_path, with_content, without_file, without_lost, changed_at}
use Rattle.inode_table.proofs.TreeLemmas.{some_none, same_some}
use Rattle.inode_table.proofs.MapLemmas.{count-of, get-remove_here, get-remove_other}
use Rattle.inode_table.proofs.SeenLemmas.{is_value, front-past}
use Rattle.inode_table.proofs.WorldLemmas.{decide_path, path_total, path_exact, get-insert_here, get-insert_other}
use Rattle.tree_ops.proofs.Worlds.{directory-of, directory-by, directory-there, directory-front}

abbrev kind_in : Option File → Option Kind
kind_in o = option_map (λ (f : File). f.kind) o

-- a directory has no bytes
abbrev IsBlank : File → Type 0
IsBlank f = f.kind ≡ Directory → f.bytes ≡ []

-- ---- other files under the same paths

module _ (w : World) (is : IsWorld w) (fs : FinMap nat_cmp File)
    (same : (p : List Label) (n : ℕ) → finmap.get w.paths p ≡ Some n → kind_in (finmap.get fs n) ≡ kind_in (finmap.get w.files n)) where
  abbrev filed : World
  filed = record w { files = fs }

  some-kind : (o q : Option File) → kind_in o ≡ kind_in q → IsSome q → IsSome o
  some-kind None None e h = h
  some-kind None (Some f) e h = absurd (cc)
  some-kind (Some g) q e h = refl

  kind-same : (o q : Option File) → kind_in o ≡ kind_in q → IsSomeAnd q (λ (f : File). f.kind ≡ Directory) → IsSomeAnd o (λ (f : File). f.kind ≡ Directory)
  kind-same o None e h = absurd h
  kind-same None (Some f) e h = absurd (cc)
  kind-same (Some g) (Some f) e h = same_some g.kind f.kind e ∙ h

  at-same : (p : List Label) → (o : Option ℕ) → finmap.get w.paths p ≡ o
      → kind_in (option_and_then (finmap.get fs) o) ≡ kind_in (option_and_then (finmap.get w.files) o)
  at-same p None e = refl
  at-same p (Some n) e = same p n e

  directory-now : (p : List Label) → IsDirectoryAt w p → IsDirectoryAt filed p
  directory-now p h = kind-same (file_at filed p) (file_at w p) (at-same p (finmap.get w.paths p) refl) h

  directory-was : (p : List Label) → IsDirectoryAt filed p → IsDirectoryAt w p
  directory-was p h = kind-same (file_at w p) (file_at filed p) (sym (at-same p (finmap.get w.paths p) refl)) h

  pub IsWorld-files : ((n : ℕ) (f : File) → finmap.get fs n ≡ Some f → IsBlank f) → IsWorld (record w { files = fs })
  IsWorld-files blank = record {
    root = is.root;
    root_directory = directory-now [] is.root_directory;
    files = λ p n there. some-kind (finmap.get fs n) (finmap.get w.files n) (same p n there) (is.files p n there);
    fronts = λ p l s there. directory-now p (is.fronts p l s there);
    one_path = λ p q h e. is.one_path p q (directory-was p h) e;
    no_bytes = blank;
  }

-- ---- one path more

module _ (w : World) (p : List Label) (n : ℕ) where
  at-path : finmap.get (with_path w p n).paths p ≡ Some n
  unfolding with_path
  at-path = get-insert_here path_total path_exact w.paths p n

  off-path : (x : List Label) → x ≢ p → finmap.get (with_path w p n).paths x ≡ finmap.get w.paths x
  unfolding with_path
  off-path x off = get-insert_other path_total path_exact w.paths p n x off

  same-files : (with_path w p n).files ≡ w.files
  unfolding with_path
  same-files = refl

  directory-moved : (x y : List Label) → finmap.get (with_path w p n).paths x ≡ finmap.get w.paths y → IsDirectoryAt w y → IsDirectoryAt (with_path w p n) x
  unfolding with_path
  directory-moved x y e h = subst (λ o. IsSomeAnd (option_and_then (finmap.get w.files) o) (λ (f : File). f.kind ≡ Directory)) (sym e) h

  directory-from : (x y : List Label) → finmap.get (with_path w p n).paths x ≡ finmap.get w.paths y → IsDirectoryAt (with_path w p n) x → IsDirectoryAt w y
  unfolding with_path
  directory-from x y e h = subst (λ o. IsSomeAnd (option_and_then (finmap.get w.files) o) (λ (f : File). f.kind ≡ Directory)) e h

  directory-file : (x : List Label) → finmap.get (with_path w p n).paths x ≡ Some n → IsDirectoryAt (with_path w p n) x
      → (f : File) × (finmap.get w.files n ≡ Some f) × (f.kind ≡ Directory)
  unfolding with_path
  directory-file x at h =
      let d = directory-of (with_path w p n) x h in
      let number : d.number ≡ n = same_some d.number n (sym d.there ∙ at) in
      (d.file, ap (finmap.get w.files) (sym number) ∙ d.is, d.kind)

  module _ (is : IsWorld w) (free : finmap.get w.paths p ≡ None) (q : List Label) (l : Label) (parts : p ≡ q ++ l ∷ [])
      (directory : IsDirectoryAt w q) (there : IsSome (finmap.get w.files n))
      (alone : (f : File) → finmap.get w.files n ≡ Some f → f.kind ≡ Directory → (x : List Label) → finmap.get w.paths x ≢ Some n) where
    kept : (x : List Label) → IsDirectoryAt w x → IsDirectoryAt (with_path w p n) x
    kept x h = directory-moved x x (off-path x (λ e. directory-there w x h (ap (finmap.get w.paths) e ∙ free))) h

    fronts : (x : List Label) (m : Label) (s : List Label) → IsSome (finmap.get (with_path w p n).paths (x ++ m ∷ s)) → IsDirectoryAt (with_path w p n) x
    fronts x m s h =
        elim (decide_path (x ++ m ∷ s) p) [
          | inl e ↦ let r = front-past q x l m s (sym parts ∙ sym e) in kept x (directory-front w is q x r.0 directory r.1)
          | inr off ↦ kept x (is.fronts x m s (subst (λ o. IsSome o) (off-path (x ++ m ∷ s) off) h))
        ]

    no-other : (x y : List Label) → IsDirectoryAt (with_path w p n) x → finmap.get (with_path w p n).paths x ≡ Some n → finmap.get w.paths y ≢ Some n
    no-other x y h at e = let f = directory-file x at h in alone f.0 f.1 f.2 y e

    one_path : (x y : List Label) → IsDirectoryAt (with_path w p n) x → finmap.get (with_path w p n).paths x ≡ finmap.get (with_path w p n).paths y → x ≡ y
    one_path x y h e =
        elim (decide_path x p) [
          | inl here ↦ elim (decide_path y p) [
            | inl too ↦ here ∙ sym too
            | inr off ↦
                let at = ap (finmap.get (with_path w p n).paths) here ∙ at-path in
                absurd (no-other x y h at (sym (off-path y off) ∙ sym e ∙ at))
          ]
          | inr off_x ↦ elim (decide_path y p) [
            | inl here ↦
                let at = e ∙ ap (finmap.get (with_path w p n).paths) here ∙ at-path in
                absurd (no-other x x h at (sym (off-path x off_x) ∙ at))
            | inr off_y ↦ is.one_path x y (directory-from x x (off-path x off_x) h) (sym (off-path x off_x) ∙ e ∙ off-path y off_y)
          ]
        ]

    pub IsWorld-with_path : IsWorld (with_path w p n)
    IsWorld-with_path = record {
      root = off-path [] (λ e. some_none (ap (finmap.get w.paths) e ∙ free) is.root) ∙ is.root;
      root_directory = kept [] is.root_directory;
      files = λ x k at. subst (λ fs. IsSome (finmap.get fs k)) (sym same-files) (elim (decide_path x p) [
        | inl here ↦ subst (λ j. IsSome (finmap.get w.files j)) (same_some n k (sym at-path ∙ sym (ap (finmap.get (with_path w p n).paths) here) ∙ at)) there
        | inr off ↦ is.files x k (sym (off-path x off) ∙ at)
      ]);
      fronts = fronts;
      one_path = one_path;
      no_bytes = λ k f at. is.no_bytes k f (ap (λ fs. finmap.get fs k) (sym same-files) ∙ at);
    }

  pub IsWhole-with_path : finmap.get w.paths p ≡ None
      → ((k : ℕ) → IsSome (finmap.get w.files k) → k ≢ n → (x : List Label) × (finmap.get w.paths x ≡ Some k)) → IsWhole (with_path w p n)
  IsWhole-with_path free whole k h =
      elim (cases_eq k n) [
        | inl here ↦ (p, at-path ∙ ap Some (sym here))
        | inr off ↦
            let x = whole k (subst (λ fs. IsSome (finmap.get fs k)) same-files h) off in
            (x.0, off-path x.0 (λ e. some_none (ap (finmap.get w.paths) e ∙ free) x.1) ∙ x.1)
      ]

-- ---- a new file

module _ (w : World) (is : IsWorld w) (n : ℕ) (unused : finmap.get w.files n ≡ None) (f : File) where
  unled : (x : List Label) → finmap.get w.paths x ≢ Some n
  unled x at = let g = is_value (finmap.get w.files n) (is.files x n at) in some_none unused g.1

  content-here : finmap.get (with_content w n f).files n ≡ Some f
  unfolding with_content
  content-here = get-insert_here nat_cmp_total nat_cmp-IsAntisymmetric w.files n f

  content-other : (k : ℕ) → k ≢ n → finmap.get (with_content w n f).files k ≡ finmap.get w.files k
  unfolding with_content
  content-other k off = get-insert_other nat_cmp_total nat_cmp-IsAntisymmetric w.files n f k off

  filled-blank : IsBlank f → (k : ℕ) (g : File) → finmap.get (with_content w n f).files k ≡ Some g → IsBlank g
  filled-blank blank k g at =
      elim (cases_eq k n) [
        | inl e ↦ subst IsBlank (same_some f g (sym content-here ∙ sym (ap (finmap.get (with_content w n f).files) e) ∙ at)) blank
        | inr off ↦ is.no_bytes k g (sym (content-other k off) ∙ at)
      ]

  filled : IsBlank f → IsWorld (with_content w n f)
  unfolding with_content
  filled blank = IsWorld-files w is (finmap.insert w.files n f) (λ p k at. ap kind_in (content-other k (λ e. unled p (at ∙ ap Some e)))) (filled-blank blank)

  pub IsWorld-with_file : IsBlank f → (p : List Label) → finmap.get w.paths p ≡ None → (q : List Label) (l : Label)
      → p ≡ q ++ l ∷ [] → IsDirectoryAt w q → IsWorld (with_file w p n f)
  unfolding with_file with_path with_content
  IsWorld-with_file blank p free q l parts directory =
      let d = directory-of w q directory in
      IsWorld-with_path (with_content w n f) p n (filled blank) free q l parts
      (directory-by (with_content w n f) q d.number d.file d.there
      (content-other d.number (λ e. some_none unused (ap (finmap.get w.files) (sym e) ∙ d.is)) ∙ d.is) d.kind)
      (ap is_some content-here) (λ g at kind x. unled x)

  pub IsWhole-with_file : IsWhole w → (p : List Label) → finmap.get w.paths p ≡ None → IsWhole (with_file w p n f)
  unfolding with_file with_path with_content
  IsWhole-with_file whole p free =
      IsWhole-with_path (with_content w n f) p n free (λ k h off. whole k (subst (λ o. IsSome o) (content-other k off) h))

-- ---- another content

-- a file changes, if it is there, and so does that of a number, if there is one
abbrev pub content_by : World → (File → File) → ℕ → Option File → World
content_by w change n o = option_map_or (λ f. with_content w n (change f)) o w

abbrev pub changed_by : World → (File → File) → Option ℕ → World
changed_by w change o = option_map_or (λ n. content_by w change n (finmap.get w.files n)) o w

pub IsWorld-changed : (w : World) → IsWorld w → (p : List Label) (change : File → File) → ((f : File) → (change f).kind ≡ f.kind)
    → ((f : File) → file_at w p ≡ Some f → IsBlank f → IsBlank (change f)) → IsWorld (changed_at w p change)
unfolding changed_at with_content
IsWorld-changed w is p change keeps blank =
    elim (finmap.get w.paths p) as (λ o. finmap.get w.paths p ≡ o → IsWorld (changed_by w change o)) [
      | None ↦ λ _. is
      | Some n ↦ λ there. elim (finmap.get w.files n) as (λ o. finmap.get w.files n ≡ o → IsWorld (content_by w change n o)) [
        | None ↦ λ _. is
        | Some f ↦ λ at. IsWorld-files w is (finmap.insert w.files n (change f)) (λ q k _. elim (cases_eq k n) [
          | inl e ↦
              ap kind_in (ap (finmap.get (finmap.insert w.files n (change f))) e ∙ get-insert_here nat_cmp_total nat_cmp-IsAntisymmetric w.files n (change f))
              ∙ ap Some (keeps f) ∙ sym (ap kind_in (ap (finmap.get w.files) e ∙ at))
          | inr off ↦ ap kind_in (get-insert_other nat_cmp_total nat_cmp-IsAntisymmetric w.files n (change f) k off)
        ]) (λ k g is_there. elim (cases_eq k n) [
          | inl e ↦
              subst IsBlank (same_some (change f) g
              (sym (get-insert_here nat_cmp_total nat_cmp-IsAntisymmetric w.files n (change f))
              ∙ sym (ap (finmap.get (finmap.insert w.files n (change f))) e) ∙ is_there))
              (blank f (ap (option_and_then (finmap.get w.files)) there ∙ at) (is.no_bytes n f at))
          | inr off ↦ is.no_bytes k g (sym (get-insert_other nat_cmp_total nat_cmp-IsAntisymmetric w.files n (change f) k off) ∙ is_there)
        ])
      ] refl
    ] refl

-- a change keeps the numbers of files, and all paths
pub numbers-changed : (w : World) (p : List Label) (change : File → File) (k : ℕ)
    → is_some (finmap.get (changed_at w p change).files k) ≡ is_some (finmap.get w.files k)
unfolding changed_at with_content
numbers-changed w p change k =
    elim (finmap.get w.paths p) as (λ o. is_some (finmap.get (changed_by w change o).files k)
    ≡ is_some (finmap.get w.files k)) [
      | None ↦ refl
      | Some n ↦ elim (finmap.get w.files n) as (λ o. finmap.get w.files n ≡ o
          → is_some (finmap.get (content_by w change n o).files k) ≡ is_some (finmap.get w.files k)) [
            | None ↦ λ _. refl
            | Some f ↦ λ at. elim (cases_eq k n) [
              | inl e ↦
                  ap is_some (ap (finmap.get (finmap.insert w.files n (change f))) e
                  ∙ get-insert_here nat_cmp_total nat_cmp-IsAntisymmetric w.files n (change f))
                  ∙ sym (ap is_some (ap (finmap.get w.files) e ∙ at))
              | inr off ↦ ap is_some (get-insert_other nat_cmp_total nat_cmp-IsAntisymmetric w.files n (change f) k off)
            ]
          ] refl
    ]

pub paths-changed : (w : World) (p : List Label) (change : File → File) → (changed_at w p change).paths ≡ w.paths
unfolding changed_at with_content
paths-changed w p change =
    elim (finmap.get w.paths p) as (λ o. (changed_by w change o).paths ≡ w.paths) [
      | None ↦ refl
      | Some n ↦ elim (finmap.get w.files n) as (λ o. (content_by w change n o).paths ≡ w.paths) [
        | None ↦ refl
        | Some f ↦ refl
      ]
    ]

pub IsWhole-changed : (w : World) → IsWhole w → (p : List Label) (change : File → File) → IsWhole (changed_at w p change)
IsWhole-changed w whole p change k h =
    let x = whole k (sym (numbers-changed w p change k) ∙ h) in
    (x.0, ap (λ m. finmap.get m x.0) (paths-changed w p change) ∙ x.1)

-- ---- a path less

module _ (w : World) (p : List Label) where
  pub dropped-here : finmap.get (without_path w p).paths p ≡ None
  unfolding without_path
  dropped-here = get-remove_here path_total path_exact w.paths p

  pub dropped-other : (x : List Label) → x ≢ p → finmap.get (without_path w p).paths x ≡ finmap.get w.paths x
  unfolding without_path
  dropped-other x off = get-remove_other path_total path_exact w.paths p x off

  -- what is there was there
  left-was : (x : List Label) (n : ℕ) → finmap.get (without_path w p).paths x ≡ Some n → (x ≢ p) × (finmap.get w.paths x ≡ Some n)
  left-was x n at =
      let off : x ≢ p = λ e. some_none (ap (finmap.get (without_path w p).paths) e ∙ dropped-here) at in
      (off, sym (dropped-other x off) ∙ at)

  directory-left : (x : List Label) → x ≢ p → IsDirectoryAt w x → IsDirectoryAt (without_path w p) x
  unfolding without_path
  directory-left x off h =
      subst (λ o. IsSomeAnd (option_and_then (finmap.get w.files) o) (λ (f : File). f.kind ≡ Directory))
      (sym (get-remove_other path_total path_exact w.paths p x off)) h

  left-directory : (x : List Label) → x ≢ p → IsDirectoryAt (without_path w p) x → IsDirectoryAt w x
  unfolding without_path
  left-directory x off h =
      subst (λ o. IsSomeAnd (option_and_then (finmap.get w.files) o) (λ (f : File). f.kind ≡ Directory))
      (get-remove_other path_total path_exact w.paths p x off) h

  pub files-left : (without_path w p).files ≡ w.files
  unfolding without_path
  files-left = refl

  pub IsWorld-without_path : IsWorld w → p ≢ [] → ((l : Label) (s : List Label) → finmap.get w.paths (p ++ l ∷ s) ≡ None) → IsWorld (without_path w p)
  IsWorld-without_path is named below = record {
    root = dropped-other [] (λ e. named (sym e)) ∙ is.root;
    root_directory = directory-left [] (λ e. named (sym e)) is.root_directory;
    files = λ x n at. subst (λ fs. IsSome (finmap.get fs n)) (sym files-left) (is.files x n (left-was x n at).1);
    fronts = λ x l s h.
        let n = is_value (finmap.get (without_path w p).paths (x ++ l ∷ s)) h in
        let was = left-was (x ++ l ∷ s) n.0 n.1 in
        directory-left x (λ e. some_none (ap (λ y. finmap.get w.paths (y ++ l ∷ s)) e ∙ below l s) was.1) (is.fronts x l s (ap is_some was.1));
    one_path = λ x y h e.
        let d = directory-of (without_path w p) x h in
        let x_was = left-was x d.number d.there in
        let y_was = left-was y d.number (sym e ∙ d.there) in
        is.one_path x y (left-directory x x_was.0 h) (x_was.1 ∙ sym y_was.1);
    no_bytes = λ k f at. is.no_bytes k f (ap (λ fs. finmap.get fs k) (sym files-left) ∙ at);
  }

-- ---- a file with no path left

-- where no path is counted none leads there, and where one is there is one
pub none-counted : (w : World) (n : ℕ) → links w n ≡ 0 → (p : List Label) → finmap.get w.paths p ≢ Some n
unfolding links
none-counted w n counted p at = by _ counted (count-of path_total path_exact w.paths n)
  where
    by : (k : ℕ) → k ≡ 0 → IsCount (λ p. finmap.get w.paths p ≡ Some n) k → ⊥
    by zero e none = none p at
    by (suc k) e some = cc

some-counted : (w : World) (n : ℕ) → links w n ≢ 0 → (p : List Label) × (finmap.get w.paths p ≡ Some n)
unfolding links
some-counted w n some = by _ some (count-of path_total path_exact w.paths n)
  where
    by : (k : ℕ) → k ≢ 0 → IsCount (λ p. finmap.get w.paths p ≡ Some n) k → (p : List Label) × (finmap.get w.paths p ≡ Some n)
    by zero off none = absurd (off refl)
    by (suc k) off (x, h, rest) = (x, h)

lost-here : (w : World) (n : ℕ) → links w n ≡ 0 → without_lost w (Some n) ≡ without_file w n
unfolding without_lost
lost-here w n e = ap (λ k. if k == 0 then without_file w n else w) e

lost-not : (w : World) (n : ℕ) → links w n ≢ 0 → without_lost w (Some n) ≡ w
unfolding without_lost
lost-not w n off = ap (λ b. if b then without_file w n else w) (ne_eqb (links w n) 0 off)

lost-none : (w : World) → without_lost w None ≡ w
unfolding without_lost
lost-none w = refl

module _ (w : World) (n : ℕ) where
  pub removed-here : finmap.get (without_file w n).files n ≡ None
  unfolding without_file
  removed-here = get-remove_here nat_cmp_total nat_cmp-IsAntisymmetric w.files n

  pub removed-other : (k : ℕ) → k ≢ n → finmap.get (without_file w n).files k ≡ finmap.get w.files k
  unfolding without_file
  removed-other k off = get-remove_other nat_cmp_total nat_cmp-IsAntisymmetric w.files n k off

  removed-paths : (without_file w n).paths ≡ w.paths
  unfolding without_file
  removed-paths = refl

  IsWorld-without_file : IsWorld w → ((p : List Label) → finmap.get w.paths p ≢ Some n) → IsWorld (without_file w n)
  unfolding without_file
  IsWorld-without_file is none =
      IsWorld-files w is (finmap.remove w.files n) (λ p k at. ap kind_in (removed-other k (λ e. none p (at ∙ ap Some e)))) (λ k f at.
      is.no_bytes k f (sym (removed-other k (λ e. some_none (ap (finmap.get (without_file w n).files) e ∙ removed-here) at)) ∙ at))

pub IsWorld-lost : (w : World) (o : Option ℕ) → IsWorld w → IsWorld (without_lost w o)
IsWorld-lost w None is = subst IsWorld (sym (lost-none w)) is
IsWorld-lost w (Some n) is =
    elim (cases_eq (links w n) 0) [
      | inl e ↦ subst IsWorld (sym (lost-here w n e)) (IsWorld-without_file w n is (none-counted w n e))
      | inr off ↦ subst IsWorld (sym (lost-not w n off)) is
    ]

pub IsWhole-lost : (w : World) (o : Option ℕ)
    → ((k : ℕ) → IsSome (finmap.get w.files k) → o ≢ Some k → (p : List Label) × (finmap.get w.paths p ≡ Some k)) → IsWhole (without_lost w o)
IsWhole-lost w None whole = subst IsWhole (sym (lost-none w)) (λ k h. whole k h (λ e. some_none refl e))
IsWhole-lost w (Some n) whole =
    elim (cases_eq (links w n) 0) [
      | inl e ↦ subst IsWhole (sym (lost-here w n e)) (λ k h.
          let off : k ≢ n = λ is.
          let g = is_value (finmap.get (without_file w n).files k) h in
          some_none (ap (finmap.get (without_file w n).files) is ∙ removed-here w n) g.1 in
          let p = whole k (subst (λ o. IsSome o) (removed-other w n k off) h) (λ is. off (sym (same_some n k is))) in
          (p.0, ap (λ m. finmap.get m p.0) (removed-paths w n) ∙ p.1))
      | inr off ↦ subst IsWhole (sym (lost-not w n off)) (λ k h. elim (cases_eq k n) [
        | inl is ↦ let p = some-counted w n off in (p.0, p.1 ∙ ap Some (sym is))
        | inr other ↦ whole k h (λ is. other (sym (same_some n k is)))
      ])
    ]

-- a file that is there is left, but for the one that was asked for where it has no path
pub numbers-lost : (w : World) (o : Option ℕ) (k : ℕ) → IsSome (finmap.get (without_lost w o).files k) → IsSome (finmap.get w.files k)
numbers-lost w None k h = subst (λ v. IsSome (finmap.get v.files k)) (lost-none w) h
numbers-lost w (Some n) k h =
    elim (cases_eq (links w n) 0) [
      | inl e ↦
          let g : IsSome (finmap.get (without_file w n).files k) = subst (λ v. IsSome (finmap.get v.files k)) (lost-here w n e) h in
          elim (cases_eq k n) [
            | inl is ↦
                let f = is_value (finmap.get (without_file w n).files k) g in
                absurd (some_none (ap (finmap.get (without_file w n).files) is ∙ removed-here w n) f.1)
            | inr off ↦ subst (λ o. IsSome o) (removed-other w n k off) g
          ]
      | inr off ↦ subst (λ v. IsSome (finmap.get v.files k)) (lost-not w n off) h
    ]

pub lost-is : (w : World) (o : Option ℕ) (k : ℕ) → IsSome (finmap.get w.files k) → finmap.get (without_lost w o).files k ≡ None → (o ≡ Some k) × (links w k ≡ 0)
lost-is w None k h gone =
    let f = is_value (finmap.get w.files k) h in absurd (some_none (ap (λ (v : World). finmap.get v.files k) (sym (lost-none w)) ∙ gone) f.1)
lost-is w (Some n) k h gone =
    let f = is_value (finmap.get w.files k) h in
    elim (cases_eq (links w n) 0) [
      | inl e ↦ elim (cases_eq k n) [
        | inl is ↦ (ap Some (sym is), ap (links w) is ∙ e)
        | inr off ↦ absurd (some_none (sym (removed-other w n k off) ∙ ap (λ (v : World). finmap.get v.files k) (sym (lost-here w n e)) ∙ gone) f.1)
      ]
      | inr off ↦ absurd (some_none (ap (λ (v : World). finmap.get v.files k) (sym (lost-not w n off)) ∙ gone) f.1)
    ]
