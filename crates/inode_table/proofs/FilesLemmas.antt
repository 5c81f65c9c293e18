-- The rows of all nodes, sorted by number, are those of the world's files.
use Rattle.std.proofs.Common.{◌≡◌, ◌≢◌, ℕ, zero, suc, ◌+◌, ◌<◌, false, T, eqb, List, [], ◌∷◌, ◌++◌, append_assoc}
use Rattle.std.proofs.Common.{length, get_or, map, Option, Some, None, option_map, refl, sym, ap, ◌∙◌, subst, inl, inr}
use Rattle.std.proofs.Common.{arith}
use Rattle.std.specs.Cmp.{nat_cmp_total}
use Rattle.std.specs.FinMap as finmap
use Rattle.std.specs.FinMap.{is_sorted, nat_cmp-IsAntisymmetric}
use Rattle.std.specs.List.{AllByRecursion, Contains, IsDistinct}
use Rattle.std.specs.List.Sorted.{IsNonDecreasing, IsNonDecreasingBy, IsPermutation, IsStrictlySortedBy}
use Rattle.std.specs.Map.{keys_of}
use Rattle.std.specs.Ordering.{nat_cmp}
use Rattle.std.proofs.lemmas.Bool.{cases_eq}
use Rattle.std.proofs.lemmas.List.{get_or-map, length-map}
use Rattle.std.proofs.lemmas.List.Sorted.{Contains-permutation, IsPermutation-map, IsPermutation-sym}
use Rattle.std.proofs.lemmas.Map.Keys.{IsDistinct-IsPermutation, IsDistinct-cons, IsStrictlyIncreasing-from_distinct, sorted_from_strictly_increasing}
use borrow.Author.Tests.{eq-eqb, ne_eqb}
use Rattle.slab.specs.Slab.{Slab, entries, entries_from}
use Rattle.inode_table.specs.declared.node.Node.{Node}
use Rattle.inode_table.specs.declared.rows.FileRow.{FileRow}
use Rattle.inode_table.specs.Listing.{row_shown}
use Rattle.inode_table.specs.Files.{file_row}
use Rattle.inode_table.specs.Rows.{Row, Rows, What, shown, what}
use Rattle.inode_table.specs.Kept.{row_of, rows_of}
use Rattle.inode_table.specs.Stands.{Stands}
use Rattle.inode_table.specs.TableWorld.{file_of}
use Rattle.inode_table.specs.Tree.{TableValue}
use Rattle.inode_table.specs.World.{File, World}
use Rattle.inode_table.proofs.EntriesLemmas.{In, In-find, In-map, In-unmap, entries-of, find-In, in_order}
use Rattle.inode_table.proofs.TreeLemmas.{same_some, some_none}

-- ---- the rows of the nodes

abbrev number_in : FileRow → ℕ
number_in row = row.number

-- the rows of the nodes, in the order of their keys
abbrev rows_in : Rows → List FileRow
rows_in [] = []
rows_in (None ∷ rs) = rows_in rs
rows_in (Some r ∷ rs) = row_shown (shown r) ∷ rows_in rs

rows-entries : (slots : List (Option Node)) (key : ℕ)
    → map (λ (e : ℕ × Node). row_shown (shown (row_of e.1))) (entries_from key slots) ≡ rows_in (map (option_map row_of) slots)
rows-entries [] key = refl
rows-entries (None ∷ slots) key = rows-entries slots (key + 1)
rows-entries (Some n ∷ slots) key = ap (λ rows. row_shown (shown (row_of n)) ∷ rows) (rows-entries slots (key + 1))

-- the row of the next node is added
pub rows-turn : {A B : Type 0} (f : A → B) (was is all : List B) (left rest : List A) (a : A) (b : B) → was ++ map f left ≡ all
    → left ≡ a ∷ rest → is ≡ was ++ b ∷ [] → b ≡ f a → is ++ map f rest ≡ all
rows-turn f was is all left rest a b so_far next add row =
    ap (λ es. es ++ map f rest) (add ∙ ap (λ x. was ++ x ∷ []) row) ∙ append_assoc was (f a ∷ []) (map f rest) ∙ ap (λ es. was ++ map f es) (sym next) ∙ so_far

-- each row is that of a node
abbrev IsRowIn : Rows → FileRow → Type 0
IsRowIn rs row = (k : ℕ) × (v : What) × (what rs k ≡ Some v) × (row_shown v ≡ row)

row-from : (rs : Rows) (row : FileRow) → In (rows_in rs) row → IsRowIn rs row
row-from [] row h = absurd h
row-from (None ∷ rs) row h = let from = row-from rs row h in (suc from.0, from.1, from.2, from.3)
row-from (Some r ∷ rs) row (inl is) = (0, shown r, refl, is)
row-from (Some r ∷ rs) row (inr h) = let from = row-from rs row h in (suc from.0, from.1, from.2, from.3)

row-to : (rs : Rows) (k : ℕ) (v : What) → what rs k ≡ Some v → In (rows_in rs) (row_shown v)
row-to [] k v e = absurd (some_none refl e)
row-to (None ∷ rs) zero v e = absurd (some_none refl e)
row-to (None ∷ rs) (suc k) v e = row-to rs k v e
row-to (Some r ∷ rs) zero v e = inl (ap row_shown (same_some (shown r) v e))
row-to (Some r ∷ rs) (suc k) v e = inr (row-to rs k v e)

-- nodes with the same number are the same
abbrev HasOwnNumbers : Rows → Type 0
HasOwnNumbers rs = (j k : ℕ) (v w : What) → what rs j ≡ Some v → what rs k ≡ Some w → v.number ≡ w.number → j ≡ k

own-tail : (o : Option Row) (rs : Rows) → HasOwnNumbers (o ∷ rs) → HasOwnNumbers rs
own-tail o rs own j k v w a b same = let e = own (suc j) (suc k) v w a b same in omega (arith, e)

own-apart : (n : ℕ) (rows : List FileRow) → ((row : FileRow) → In rows row → n ≢ row.number) → AllByRecursion (λ m. eqb n m ≡ false) (map number_in rows)
own-apart n [] off = tt
own-apart n (row ∷ rows) off = (ne_eqb n row.number (off row (inl refl)), own-apart n rows (λ r h. off r (inr h)))

own-distinct : (rs : Rows) → HasOwnNumbers rs → IsDistinct eqb (map number_in (rows_in rs))
unfolding IsDistinct
own-distinct [] own = tt
own-distinct (None ∷ rs) own = own-distinct rs (own-tail None rs own)
own-distinct (Some r ∷ rs) own =
    IsDistinct-cons eqb r.number (map number_in (rows_in rs))
    (own-apart r.number (rows_in rs) (λ row h same.
    let from = row-from rs row h in
    let e : 0 ≡ suc from.0 = own 0 (suc from.0) (shown r) from.1 refl from.2 (same ∙ sym (ap number_in from.3)) in
    absurd (omega (arith, e))))
    (own-distinct rs (own-tail (Some r) rs own))

-- ---- the rows in order

numbers-rise : (rows : List FileRow) → IsNonDecreasingBy number_in rows → IsNonDecreasing (map number_in rows)
numbers-rise [] up i j d low high = absurd (omega (arith, high))
numbers-rise (row ∷ rows) up i j d low high =
    let all = row ∷ rows in
    let below : j < length all = omega (arith, high, length-map all number_in) in
    let is_i = get_or-map number_in all i row d (omega (arith, low, below)) in
    let is_j = get_or-map number_in all j row d below in
    let rise = up i j row low below in
    omega (arith, is_i, is_j, rise)

eqb-flips : (x y : ℕ) → eqb x y ≡ eqb y x
eqb-flips x y =
    elim (cases_eq x y) [
      | inl same ↦ eq-eqb x y same ∙ sym (eq-eqb y x (sym same))
      | inr off ↦ ne_eqb x y off ∙ sym (ne_eqb y x (λ e. off (sym e)))
    ]

Contains-In : {A : Type 0} (xs : List A) (a : A) → In xs a → Contains xs a
Contains-In [] a h = absurd h
Contains-In (x ∷ xs) a (inl is) = (0, omega arith, is)
Contains-In (x ∷ xs) a (inr h) = let at = Contains-In xs a h in (suc at.0, (let below = at.1 in omega (arith, below)), at.2)

In-Contains : {A : Type 0} (xs : List A) (a : A) (k : ℕ) → k < length xs → get_or xs k a ≡ a → In xs a
In-Contains [] a k below is = absurd (omega (arith, below))
In-Contains (x ∷ xs) a zero below is = inl is
In-Contains (x ∷ xs) a (suc k) below is = inr (In-Contains xs a k (omega (arith, below)) is)

In-permutation : {A : Type 0} (xs ys : List A) (a : A) → IsPermutation xs ys → In xs a → In ys a
In-permutation xs ys a moved h = let at = Contains-permutation xs ys a moved (Contains-In xs a h) in In-Contains ys a at.0 at.1 at.2

-- a row as an entry of the world's files
abbrev entry_of : FileRow → ℕ × File
entry_of row = (row.number, record { kind = row.kind; mode = row.mode; bytes = row.bytes })

keys-entries : (rows : List FileRow) → keys_of (map entry_of rows) ≡ map number_in rows
keys-entries [] = refl
keys-entries (row ∷ rows) = ap (λ ns. row.number ∷ ns) (keys-entries rows)

rows-back : (rows : List FileRow) → map file_row (map entry_of rows) ≡ rows
rows-back [] = refl
rows-back (row ∷ rows) = ap (λ rs. row ∷ rs) (rows-back rows)

module _ (t : TableValue) (w : World) (stands : Stands t w) (rows : List FileRow) (moved : IsPermutation (rows_in t.rows) rows)
    (rise : IsNonDecreasingBy number_in rows) where
  es : List (ℕ × File)
  es = map entry_of rows

  up : T (is_sorted nat_cmp es)
  unfolding es
  up =
      let distinct = IsDistinct-IsPermutation eqb eqb-flips (map number_in (rows_in t.rows)) (map number_in rows)
      (IsPermutation-map number_in (rows_in t.rows) rows moved) (own-distinct t.rows stands.table.numbers) in
      in_order nat_cmp (map entry_of rows)
      (subst (IsStrictlySortedBy nat_cmp) (sym (keys-entries rows))
      (sorted_from_strictly_increasing (map number_in rows) (IsStrictlyIncreasing-from_distinct (map number_in rows) (numbers-rise rows rise) distinct)))

  found : (q : ℕ) → finmap.find nat_cmp q es ≡ finmap.get w.files q
  unfolding es
  found q = by (finmap.find nat_cmp q es) refl
    where
      none : finmap.find nat_cmp q es ≡ None → (o : Option File) → finmap.get w.files q ≡ o → None ≡ o
      none absent None e = refl
      none absent (Some f) e =
          let from = stands.no_more q f e in
          let there = In-map entry_of rows (row_shown from.1)
          (In-permutation (rows_in t.rows) rows (row_shown from.1) moved (row-to t.rows from.0 from.1 from.2)) in
          absurd (some_none (ap (λ n. finmap.find nat_cmp n es) from.3 ∙ absent)
          (find-In nat_cmp_total nat_cmp-IsAntisymmetric es from.1.number (file_of from.1) up there))

      by : (o : Option File) → finmap.find nat_cmp q es ≡ o → finmap.find nat_cmp q es ≡ finmap.get w.files q
      by None e = e ∙ none e (finmap.get w.files q) refl
      by (Some f) e =
          let entry = In-unmap entry_of rows (q, f) (In-find nat_cmp_total nat_cmp-IsAntisymmetric es q f e) in
          let from = row-from t.rows entry.0 (In-permutation rows (rows_in t.rows) entry.0 (IsPermutation-sym (rows_in t.rows) rows moved) entry.1) in
          e ∙ sym (subst (λ (x : ℕ × File). finmap.get w.files x.0 ≡ Some x.1) (ap entry_of from.3 ∙ entry.2) (stands.files from.0 from.1 from.2))

  rows-of : rows ≡ map file_row (finmap.entries w.files)
  unfolding es
  rows-of = sym (rows-back rows) ∙ ap (map file_row) (entries-of nat_cmp_total nat_cmp-IsAntisymmetric es w.files up found)

-- the rows of all nodes, sorted by number
pub files-rows : (t : TableValue) (w : World) (s : Slab Node) (rows sorted : List FileRow) → t.rows ≡ rows_of s → Stands t w
    → rows ≡ map (λ (e : ℕ × Node). row_shown (shown (row_of e.1))) (entries s)
    → IsPermutation rows sorted → IsNonDecreasingBy (λ (row : FileRow). row.number) sorted → sorted ≡ map file_row (finmap.entries w.files)
files-rows t w s rows sorted same stands all moved rise =
    rows-of t w stands sorted (subst (λ rs. IsPermutation rs sorted) (all ∙ rows-entries s.slots 0 ∙ ap rows_in (sym same)) moved) rise
