-- Each table stands for one world.
use Rattle.std.proofs.Common.{◌≡◌, ◌≢◌, ◌⊎◌, ℕ, zero, suc, ◌<◌, ◌≤◌, true, false, ◌||◌, cond, eqb, List, [], ◌∷◌, ◌++◌}
use Rattle.std.proofs.Common.{map, length, Option, Some, None, is_some, refl, sym, ap, ◌∙◌, inl, inr, arith, subst}
use Rattle.std.proofs.Common.{append-nil, append_assoc}
use Rattle.std.proofs.lemmas.Bool.{cases_eq}
use Rattle.std.proofs.lemmas.Map.Steps.{length-le_from_distinct_below}
use Rattle.std.specs.List.{AllByRecursion, IsDistinct, flat_map, list_any}
use Rattle.std.specs.Map.{lookup}
use Rattle.std.specs.Option.{option_map, option_map_or, option_and_then, IsSomeAnd}
use Rattle.std.specs.Ordering.{nat_cmp}
use Rattle.std.specs.Cmp.{nat_cmp_total}
use Rattle.std.specs.FinMap as map
use Rattle.std.specs.FinMap.{nat_cmp-IsAntisymmetric, get-empty}
use borrow.Author.Tests.{eqb-true}
use Rattle.inode_table.specs.Walk.{walk}
use Rattle.inode_table.specs.Rows.{Label, Body, File, Names, Row, Rows, What, row_under, child, what, shown, key_in, same_label}
use Rattle.inode_table.specs.Kept.{is_directory, IsTable}
use Rattle.inode_table.specs.Tree.{TableValue, at, what_at}
use Rattle.inode_table.specs.Flat.{names_in, number_under}
use Rattle.inode_table.specs.Paths.{path_cmp}
use Rattle.inode_table.specs.World as world
use Rattle.inode_table.specs.World.{World, look}
use Rattle.inode_table.specs.TableWorld.{file_of, number_of, names_of_row, names_of, paths_up_to, with_number}
use Rattle.inode_table.specs.TableWorld.{paths_among, with_node, files_below, world_in, world_of, file_under}
use Rattle.inode_table.specs.Stands.{look_in, Stands}
use Rattle.inode_table.proofs.TreeLemmas.{some_none, same_some, IsTree-live}
use Rattle.inode_table.proofs.WalkLemmas.{walk-append, longer}
use Rattle.inode_table.proofs.ChangeLemmas.{live-what, same_label-true}
use Rattle.inode_table.proofs.StandsLemmas.{looks-same}
use Rattle.inode_table.proofs.SeenLemmas.{is_value}
use Rattle.inode_table.proofs.WorldLemmas.{decide_path, path_total, path_exact, get-insert_here, get-insert_other, within}

-- ---- what is in a list

abbrev In : {A : Type 0} → List A → A → Type 0
In [] x = ⊥
In (y ∷ ys) x = (x ≡ y) ⊎ In ys x

In-left : {A : Type 0} (xs ys : List A) (x : A) → In xs x → In (xs ++ ys) x
In-left [] ys x h = absurd h
In-left (y ∷ xs) ys x h = elim h [ inl e ↦ inl e | inr r ↦ inr (In-left xs ys x r) ]

In-right : {A : Type 0} (xs ys : List A) (x : A) → In ys x → In (xs ++ ys) x
In-right [] ys x h = h
In-right (y ∷ xs) ys x h = inr (In-right xs ys x h)

In-map : {A B : Type 0} (f : A → B) (xs : List A) (x : A) → In xs x → In (map f xs) (f x)
In-map f [] x h = absurd h
In-map f (y ∷ xs) x h = elim h [ inl e ↦ inl (ap f e) | inr r ↦ inr (In-map f xs x r) ]

In-flat_map : {A B : Type 0} (f : A → List B) (xs : List A) (x : A) (y : B) → In xs x → In (f x) y → In (flat_map f xs) y
In-flat_map f [] x y h g = absurd h
In-flat_map f (z ∷ xs) x y h g = elim h [
  | inl e ↦ In-left (f z) (flat_map f xs) y (subst (λ w. In (f w) y) e g)
  | inr r ↦ In-right (f z) (flat_map f xs) y (In-flat_map f xs x y r g)
]

-- ---- the names on a walk

In-lookup : (l : Label) (es : List (Label × ℕ)) (j : ℕ) → lookup (same_label l) es ≡ Some j → In (map (λ e. e.0) es) l
In-lookup l [] j e = absurd (some_none refl e)
In-lookup l (e ∷ es) j is =
    elim (same_label l e.0) as (λ b. same_label l e.0 ≡ b → cond b (Some e.1) (lookup (same_label l) es) ≡ Some j → In (map (λ e. e.0) (e ∷ es)) l) [
      | true ↦ λ same _. inl (sym (same_label-true l e.0 same))
      | false ↦ λ _ rest. inr (In-lookup l es j rest)
    ] refl is

In-body : (l : Label) (b : Body) (j : ℕ) → key_in b l ≡ Some j → In (map (λ e. e.0) (names_in b)) l
In-body l (File bytes reserved) j e = absurd (some_none refl e)
In-body l (Names es) j e = In-lookup l es j e

In-row : (rs : Rows) (k : ℕ) (r : Row) → row_under rs k ≡ Some r → In rs (Some r)
In-row [] k r e = absurd (some_none refl e)
In-row (o ∷ rs) zero r e = inl (sym e)
In-row (o ∷ rs) (suc k) r e = inr (In-row rs k r e)

In-names : (rs : Rows) (k j : ℕ) (l : Label) → child rs k l ≡ Some j → In (names_of rs) l
In-names rs k j l is =
    elim (row_under rs k) as (λ o. row_under rs k ≡ o → option_and_then (λ (r : Row). key_in r.body l) o ≡ Some j → In (names_of rs) l) [
      | None ↦ λ _ e. absurd (some_none refl e)
      | Some r ↦ λ there e. In-flat_map names_of_row rs (Some r) l (In-row rs k r there) (In-body l r.body j e)
    ] refl is

In-paths : (rs : Rows) (n k j : ℕ) (p : List Label) → walk (child rs) k p ≡ Some j → length p ≤ n → In (paths_up_to n (names_of rs)) p
In-paths rs zero k j [] there le = inl refl
In-paths rs zero k j (l ∷ p) there le = absurd (omega arith)
In-paths rs (suc n) k j [] there le = inl refl
In-paths rs (suc n) k j (l ∷ p) there le =
    elim (child rs k l) as (λ o. child rs k l ≡ o → option_and_then (λ i. walk (child rs) i p) o ≡ Some j → In (paths_up_to (suc n) (names_of rs)) (l ∷ p)) [
      | None ↦ λ _ e. absurd (some_none refl e)
      | Some i ↦
          λ edge e. inr (In-flat_map (λ m. map (λ q. m ∷ q) (paths_up_to n (names_of rs))) (names_of rs) l (l ∷ p)
          (In-names rs k i l edge) (In-map (λ q. l ∷ q) (paths_up_to n (names_of rs)) p (In-paths rs n i j p e (shorter l p n le))))
    ] refl there
  where
    shorter : (l : Label) (p : List Label) (n : ℕ) → length (l ∷ p) ≤ suc n → length p ≤ n
    shorter l p n le = omega arith

-- ---- how long a walk is

-- the directories that a walk goes through
abbrev passed : Rows → ℕ → List Label → List ℕ
passed rs k [] = []
passed rs k (l ∷ p) = k ∷ option_map_or (λ j. passed rs j p) (child rs k l) []

length-passed : (rs : Rows) (k j : ℕ) (p : List Label) → walk (child rs) k p ≡ Some j → length (passed rs k p) ≡ length p
length-passed rs k j [] there = refl
length-passed rs k j (l ∷ p) there =
    elim (child rs k l) as (λ o. option_and_then (λ i. walk (child rs) i p) o ≡ Some j
    → length (k ∷ option_map_or (λ i. passed rs i p) o []) ≡ suc (length p)) [
      | None ↦ λ e. absurd (some_none refl e)
      | Some i ↦ λ e. ap suc (length-passed rs i j p e)
    ] there

not_eqb : (a b : ℕ) → (a ≡ b → ⊥) → eqb a b ≡ false
not_eqb a b off = elim (eqb a b) as (λ c. eqb a b ≡ c → c ≡ false) [ true ↦ λ e. absurd (off (eqb-true a b e)) | false ↦ λ _. refl ] refl

any_below : (n : ℕ) (ks : List ℕ) → AllByRecursion (λ k. k < n) ks → (q : ℕ) → list_any (eqb q) ks ≡ true → q < n
any_below n [] below q any = absurd (cc)
any_below n (k ∷ ks) below q any =
    elim (eqb q k) as (λ b. eqb q k ≡ b → (b || list_any (eqb q) ks) ≡ true → q < n) [
      | true ↦ λ here _. subst (λ i. i < n) (sym (eqb-true q k here)) below.0
      | false ↦ λ _ rest. any_below n ks below.1 q rest
    ] refl any

module _ (rs : Rows) (table : IsTable rs) where
  onward : (front : List Label) (k i : ℕ) (l : Label) → walk (child rs) 0 front ≡ Some k → child rs k l ≡ Some i → walk (child rs) 0 (front ++ l ∷ []) ≡ Some i
  onward front k i l there edge =
      walk-append (child rs) 0 front (l ∷ []) ∙ ap (option_and_then (λ j. walk (child rs) j (l ∷ []))) there
      ∙ ap (option_and_then (λ j. walk (child rs) j [])) edge

  all-passed : (P : ℕ → Type 0) (front : List Label) (k j : ℕ) (p : List Label) → walk (child rs) 0 front ≡ Some k → walk (child rs) k p ≡ Some j
      → ((q : List Label) (i : ℕ) → walk (child rs) 0 (front ++ q) ≡ Some i → is_directory rs i ≡ true → P i) → AllByRecursion P (passed rs k p)
  all-passed P front k j [] there leads holds = tt
  all-passed P front k j (l ∷ p) there leads holds =
      elim (child rs k l) as (λ o. child rs k l ≡ o → option_and_then (λ i. walk (child rs) i p) o ≡ Some j
      → AllByRecursion P (k ∷ option_map_or (λ i. passed rs i p) o [])) [
        | None ↦ λ _ e. absurd (some_none refl e)
        | Some i ↦ λ edge e. (
          holds [] k (ap (walk (child rs) 0) (append-nil front) ∙ there) (table.tree.parents k i l edge),
          all-passed P (front ++ l ∷ []) i j p (onward front k i l there edge) e
              (λ q h to dir. holds (l ∷ q) h (ap (walk (child rs) 0) (sym (append_assoc front (l ∷ []) q)) ∙ to) dir),
        )
      ] refl leads

  distinct-passed : (front : List Label) (k j : ℕ) (p : List Label) → walk (child rs) 0 front ≡ Some k
      → walk (child rs) k p ≡ Some j → IsDistinct eqb (passed rs k p)
  unfolding IsDistinct
  distinct-passed front k j [] there leads = tt
  distinct-passed front k j (l ∷ p) there leads =
      elim (child rs k l) as (λ o. child rs k l ≡ o → option_and_then (λ i. walk (child rs) i p) o ≡ Some j
      → IsDistinct eqb (k ∷ option_map_or (λ i. passed rs i p) o [])) [
        | None ↦ λ _ e. absurd (some_none refl e)
        | Some i ↦ λ edge e. (
          all-passed (λ h. eqb k h ≡ false) (front ++ l ∷ []) i j p (onward front k i l there edge) e (λ q h to dir. not_eqb k h (λ same.
              longer front l q
              (table.tree.one_path h front (front ++ l ∷ q) dir (there ∙ ap Some same) (ap (walk (child rs) 0) (sym (append_assoc front (l ∷ []) q)) ∙ to)))),
          distinct-passed (front ++ l ∷ []) i j p (onward front k i l there edge) e,
        )
      ] refl leads

  -- a walk from the root has no more names than there are rows
  pub length-walk : (p : List Label) (j : ℕ) → walk (child rs) 0 p ≡ Some j → length p ≤ length rs
  length-walk p j leads =
      let below = all-passed (λ i. i < length rs) [] 0 j p refl leads
      (λ q i to dir. let live = is_value (what rs i) (sym (live-what rs i) ∙ table.tree.directories i dir) in within rs i live.0 live.1) in
      let most = length-le_from_distinct_below (passed rs 0 p) (length rs) (distinct-passed [] 0 j p refl leads)
      (any_below (length rs) (passed rs 0 p) below) in
      subst (λ n. n ≤ length rs) (length-passed rs 0 j p leads) most

-- ---- the paths

paths-none : (t : TableValue) (ps : List (List Label)) (p : List Label) → number_under t.rows p ≡ None → map.get (paths_among t.rows ps) p ≡ None
paths-none t [] p none = get-empty path_cmp p
paths-none t (q ∷ ps) p none =
    elim (number_under t.rows q) as (λ o. number_under t.rows q ≡ o → map.get (with_number (paths_among t.rows ps) q o) p ≡ None) [
      | None ↦ λ _. paths-none t ps p none
      | Some n ↦
          λ is. get-insert_other path_total path_exact (paths_among t.rows ps) q n p (λ same. some_none (ap (number_under t.rows) (sym same) ∙ none) is)
          ∙ paths-none t ps p none
    ] refl

paths-some : (t : TableValue) (ps : List (List Label)) (p : List Label) (n : ℕ) → In ps p → number_under t.rows p ≡ Some n
    → map.get (paths_among t.rows ps) p ≡ Some n
paths-some t [] p n has is = absurd has
paths-some t (q ∷ ps) p n has is =
    elim (decide_path p q) [
      | inl same ↦
          ap (λ o. map.get (with_number (paths_among t.rows ps) q o) p) (ap (number_under t.rows) (sym same) ∙ is)
          ∙ ap (map.get (map.insert (paths_among t.rows ps) q n)) same
          ∙ get-insert_here path_total path_exact (paths_among t.rows ps) q n
      | inr off ↦
          let rest = elim has as (λ _. In ps p) [ inl same ↦ absurd (off same) | inr r ↦ r ] in
          skipped off (number_under t.rows q) ∙ paths-some t ps p n rest is
    ]
  where
    skipped : p ≢ q → (o : Option ℕ) → map.get (with_number (paths_among t.rows ps) q o) p ≡ map.get (paths_among t.rows ps) p
    skipped off None = refl
    skipped off (Some m) = get-insert_other path_total path_exact (paths_among t.rows ps) q m p off

-- ---- the files

module _ (rs : Rows) (table : IsTable rs) where
  files-some : (j k : ℕ) (v : What) → what rs k ≡ Some v → k < j → map.get (files_below rs j) v.number ≡ Some (file_of v)
  files-some zero k v is below = absurd (omega arith)
  files-some (suc j) k v is below =
      elim (what rs j) as (λ o. what rs j ≡ o → map.get (with_node (files_below rs j) o) v.number ≡ Some (file_of v)) [
        | None ↦ λ e. files-some j k v is (smaller k j below (λ same. some_none (ap (what rs) same ∙ e) is))
        | Some w ↦ λ e. elim (cases_eq k j) [
          | inl same ↦
              let w_is : v ≡ w = same_some v w (sym is ∙ ap (what rs) same ∙ e) in
              subst (λ u. map.get (map.insert (files_below rs j) w.number (file_of w)) u.number ≡ Some (file_of u)) (sym w_is)
              (get-insert_here nat_cmp_total nat_cmp-IsAntisymmetric (files_below rs j) w.number (file_of w))
          | inr off ↦
              get-insert_other nat_cmp_total nat_cmp-IsAntisymmetric (files_below rs j) w.number (file_of w) v.number
              (λ same. off (table.numbers k j v w is e same))
              ∙ files-some j k v is (smaller k j below off)
        ]
      ] refl
    where
      smaller : (k j : ℕ) → k < suc j → k ≢ j → k < j
      smaller k j below off = omega arith

  files-no_more : (j n : ℕ) (f : world.File) → map.get (files_below rs j) n ≡ Some f → (k : ℕ) × (v : What) × (what rs k ≡ Some v) × (v.number ≡ n)
  files-no_more zero n f e = absurd (some_none (get-empty nat_cmp n) e)
  files-no_more (suc j) n f e =
      elim (what rs j) as (λ o. what rs j ≡ o → map.get (with_node (files_below rs j) o) n ≡ Some f
      → (k : ℕ) × (v : What) × (what rs k ≡ Some v) × (v.number ≡ n)) [
        | None ↦ λ _ g. files-no_more j n f g
        | Some w ↦ λ is g. elim (cases_eq n w.number) [
          | inl same ↦ (j, w, is, sym same)
          | inr off ↦ files-no_more j n f (sym (get-insert_other nat_cmp_total nat_cmp-IsAntisymmetric (files_below rs j) w.number (file_of w) n off) ∙ g)
        ]
      ] refl e

-- ---- the world of a table

pub Stands-world_of : (t : TableValue) → IsTable t.rows → Stands t (world_of t)
unfolding world_in
Stands-world_of t table = record {
  table = table;
  paths = λ p.
      elim (at t p) as (λ o. at t p ≡ o → map.get (paths_among t.rows (paths_up_to (length t.rows) (names_of t.rows))) p ≡ number_under t.rows p) [
        | None ↦ λ none. let absent : number_under t.rows p ≡ None = ap (number_of t) none in paths-none t _ p absent ∙ sym absent
        | Some k ↦ λ there.
            let v = is_value (what t.rows k) (sym (live-what t.rows k) ∙ IsTree-live table.tree p k there) in
            let number : number_under t.rows p ≡ Some v.0.number = ap (number_of t) there ∙ ap (option_map (λ (u : What). u.number)) v.1 in
            paths-some t _ p v.0.number (In-paths t.rows (length t.rows) 0 k p there (length-walk t.rows table p k there)) number ∙ sym number
      ] refl;
  files = λ k v is. files-some t.rows table (length t.rows) k v is (within t.rows k v is);
  no_more = files-no_more t.rows table (length t.rows);
}

-- two worlds for which a table stands
pub Stands-one : {t : TableValue} {v w : World} → Stands t v → Stands t w → v ≡ w
Stands-one {t} {v} {w} one other =
    let paths = map.same_map path_total path_exact v.paths w.paths (λ p. one.paths p ∙ sym (other.paths p)) in
    let files = map.same_map nat_cmp_total nat_cmp-IsAntisymmetric v.files w.files (λ n.
    elim (map.get v.files n) as (λ o. map.get v.files n ≡ o → o ≡ map.get w.files n) [
      | Some f ↦ λ is.
          let u = one.no_more n f is in
          sym is ∙ ap (map.get v.files) (sym u.3) ∙ one.files u.0 u.1 u.2 ∙ sym (other.files u.0 u.1 u.2) ∙ ap (map.get w.files) u.3
      | None ↦ λ none. elim (map.get w.files n) as (λ o. map.get w.files n ≡ o → None ≡ o) [
        | None ↦ λ _. refl
        | Some f ↦ λ is. let u = other.no_more n f is in absurd (some_none none (ap (map.get v.files) (sym u.3) ∙ one.files u.0 u.1 u.2))
      ] refl
    ] refl) in
    λ i. record { paths = paths i; files = files i }

-- the world of a table is the one for which it stands
pub world_of-is : {t : TableValue} {w : World} → Stands t w → world_of t ≡ w
world_of-is {t} stands = Stands-one (Stands-world_of t stands.table) stands

-- the same is seen of both
pub look-world : (t : TableValue) → IsTable t.rows → look (world_of t) ≡ look_in t
look-world t table = looks-same (Stands-world_of t table)

-- ---- keys

pub numbered : (t : TableValue) (k : ℕ) → is_some (what_at t k) ≡ true → is_some (number_of t (Some k)) ≡ true
numbered t k there = by (what_at t k) there
  where
    by : (o : Option What) → is_some o ≡ true → is_some (option_map (λ (v : What). v.number) o) ≡ true
    by None e = e
    by (Some v) e = refl

pub file-under : {t : TableValue} → Stands t (world_of t) → (k : ℕ) (r : Row) → row_under t.rows k ≡ Some r → file_under t k ≡ Some (file_of (shown r))
file-under {t} stands k r is =
    ap (λ o. option_and_then (map.get (world_of t).files) (option_map (λ (v : What). v.number) (option_map shown o))) is
    ∙ stands.files k (shown r) (ap (option_map shown) is)

pub numbered-file : (t : TableValue) (k : ℕ) (P : world.File → Type 0) → IsSomeAnd (file_under t k) P → is_some (number_of t (Some k)) ≡ true
numbered-file t k P h = by (number_of t (Some k)) h
  where
    by : (o : Option ℕ) → IsSomeAnd (option_and_then (map.get (world_of t).files) o) P → is_some o ≡ true
    by None e = absurd e
    by (Some n) e = refl
