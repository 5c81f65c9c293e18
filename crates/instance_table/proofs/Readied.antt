-- Which rows have a record waiting, and numbers that are written over others.
use Rattle.std.proofs.Common.{◌≡◌, ℕ, suc, ◌+◌, ◌<◌, ◌≤◌, List, [], ◌∷◌, ◌++◌, Bool, true, false, cond}
use Rattle.std.proofs.Common.{length, map, take, drop, get_or, set, nat_lt, Some, refl, sym, ap}
use Rattle.std.proofs.Common.{◌∙◌, arith, length-append}
use Rattle.std.specs.List.{filter}
use Rattle.std.specs.FinMap as finmap
use Rattle.std.proofs.Math.Seq.{drop-cons}
use Rattle.std.proofs.lemmas.Bool.{le-ltb, lt-ltb}
use Rattle.std.proofs.lemmas.List.{drop_all, take_all, take_more, take-append-le, get_or-map, length-take, length-drop}
use Rattle.std.proofs.lemmas.List.Elements.{filter-append}
use Rattle.instance_table.specs.declared.instance.Instance.{Instance}
use Rattle.instance_table.specs.declared.instances.Instances.TheInside.{Inside}
use Rattle.instance_table.specs.declared.opened.Opened.{Opened}
use Rattle.instance_table.specs.Instances.{Instances, instance_of, waiting_of}
use Rattle.instance_table.specs.Opened.{ids_of, ready_rows, written_over}
use Rattle.instance_table.specs.Ready.{ready_in}
use Rattle.instance_table.specs.Views.{instances_of, NotesEveryWatch}
use Rattle.instance_table.proofs.Indexed.{entries-opened}
use Rattle.file_watchers.proofs.Rising.{get-at, length-keys}

abbrev has_record : Opened → Bool
has_record o = nat_lt 0 (length o.instance.queue.waiting)

-- ---- one row

by-test : (r : Opened) (b : Bool) → has_record r ≡ b → ready_rows (r ∷ []) ≡ ids_of (cond b (r ∷ []) [])
by-test r b e = ap (λ t. ids_of (cond t (r ∷ []) [])) e

pub empty-row : (r : Opened) → length r.instance.queue.waiting ≡ 0 → ready_rows (r ∷ []) ≡ []
empty-row r e = by-test r false (le-ltb 0 _ (omega (arith, e)))

pub full-row : (r : Opened) → 0 < length r.instance.queue.waiting → ready_rows (r ∷ []) ≡ r.id ∷ []
full-row r h = by-test r true (lt-ltb 0 _ h)

ids-append : (rs ss : List Opened) → ids_of (rs ++ ss) ≡ ids_of rs ++ ids_of ss
ids-append [] ss = refl
ids-append (r ∷ rs) ss = ap (λ ids. r.id ∷ ids) (ids-append rs ss)

-- the rows up to and with the one at an index
pub rows-next : (rs : List Opened) (k : ℕ) (r : Opened) → k < length rs → r ≡ get_or rs k r
    → ready_rows (take (k + 1) rs) ≡ ready_rows (take k rs) ++ ready_rows (r ∷ [])
rows-next rs k r h is =
    ap ready_rows (take_more rs k r h ∙ ap (λ x. take k rs ++ x ∷ []) (sym is))
    ∙ ap ids_of (filter-append has_record (take k rs) (r ∷ []))
    ∙ ids-append (filter has_record (take k rs)) (filter has_record (r ∷ []))

-- ---- numbers over others

set-after : (xs ys : List ℕ) (y x : ℕ) → set (xs ++ y ∷ ys) (length xs) x ≡ xs ++ x ∷ ys
set-after [] ys y x = refl
set-after (z ∷ xs) ys y x = ap (λ t. z ∷ t) (set-after xs ys y x)

longer : (xs : List ℕ) (x : ℕ) → length (xs ++ x ∷ []) ≡ suc (length xs)
longer xs x = let l = length-append xs (x ∷ []) in omega (arith, l)

joined : (xs ys : List ℕ) (x : ℕ) → xs ++ x ∷ ys ≡ (xs ++ x ∷ []) ++ ys
joined [] ys x = refl
joined (z ∷ xs) ys x = ap (λ t. z ∷ t) (joined xs ys x)

-- one number more, where there is one to write over
pub over-next : (xs old : List ℕ) (x : ℕ) → length xs < length old → set (written_over xs old) (length xs) x ≡ written_over (xs ++ x ∷ []) old
over-next xs old x h =
    let l = longer xs x in
    let whole : take (length old) xs ≡ xs = take_all (length old) xs (omega arith) in
    let more : take (length old) (xs ++ x ∷ []) ≡ xs ++ x ∷ [] = take_all (length old) (xs ++ x ∷ []) (omega (arith, l)) in
    ap (λ t. set (t ++ drop (length xs) old) (length xs) x) whole
    ∙ ap (λ t. set (xs ++ t) (length xs) x) (drop-cons old (length xs) 0 h)
    ∙ set-after xs (drop (suc (length xs)) old) (get_or old (length xs) 0) x
    ∙ joined xs (drop (suc (length xs)) old) x
    ∙ ap (λ n. (xs ++ x ∷ []) ++ drop n old) (sym l)
    ∙ ap (λ t. t ++ drop (length (xs ++ x ∷ [])) old) (sym more)

-- and where there is none
pub over-full : (xs old : List ℕ) (x : ℕ) → length old ≤ length xs → written_over xs old ≡ written_over (xs ++ x ∷ []) old
over-full xs old x h =
    let l = longer xs x in
    ap (λ t. take (length old) xs ++ t) (drop_all (length xs) old h ∙ sym (drop_all (length (xs ++ x ∷ [])) old (omega (arith, l))))
    ∙ ap (λ t. t ++ drop (length (xs ++ x ∷ [])) old) (sym (take-append-le (length old) xs (x ∷ []) h))

pub length-over : (xs old : List ℕ) → length (written_over xs old) ≡ length old
length-over xs old =
    let a = length-append (take (length old) xs) (drop (length xs) old) in
    let b = length-take (length old) xs in let d = length-drop (length xs) old in omega (arith, a, b, d)

pub over-none : (old : List ℕ) → written_over [] old ≡ old
over-none old = ap (λ (t : List ℕ). t ++ old) (take_all (length old) [] (omega arith))

-- ---- the rows as a map

abbrev waits : Instances → ℕ → Bool
waits m id = nat_lt 0 (length (waiting_of (instance_of m id)))

by-rows : (m : Instances) (rs : List Opened) → ((k : ℕ) (d : Opened) → k < length rs → instance_of m (get_or rs k d).id ≡ Some (get_or rs k d).instance)
    → filter (waits m) (ids_of rs) ≡ ready_rows rs
by-rows m [] at = refl
by-rows m (r ∷ rs) at =
    let here : waits m r.id ≡ has_record r = ap (λ o. nat_lt 0 (length (waiting_of o))) (at 0 r (omega arith)) in
    let rest = by-rows m rs (λ k d h. at (suc k) d (omega arith)) in
    ap (λ b. cond b (r.id ∷ filter (waits m) (ids_of rs)) (filter (waits m) (ids_of rs))) here
    ∙ elim (has_record r) as (λ b. cond b (r.id ∷ filter (waits m) (ids_of rs)) (filter (waits m) (ids_of rs))
    ≡ ids_of (cond b (r ∷ filter has_record rs) (filter has_record rs))) [
      | true ↦ ap (λ ids. r.id ∷ ids) rest
      | false ↦ rest
    ]

keys-opened : (a : Inside) → NotesEveryWatch a → finmap.keys (instances_of a) ≡ ids_of a.opened.items
keys-opened a whole = ap (map (λ (e : ℕ × Instance). e.0)) (entries-opened a whole) ∙ firsts a.opened.items
  where
    firsts : (rs : List Opened) → map (λ (e : ℕ × Instance). e.0) (map (λ (o : Opened). (o.id, o.instance)) rs) ≡ ids_of rs
    firsts [] = refl
    firsts (r ∷ rs) = ap (λ ids. r.id ∷ ids) (firsts rs)

pub ready-opened : (a : Inside) → NotesEveryWatch a → ready_rows a.opened.items ≡ ready_in (instances_of a)
unfolding ready_in
ready-opened a whole =
    let rs = a.opened.items in
    let id : Opened → ℕ = λ o. o.id in
    let value : Opened → Instance = λ o. o.instance in
    sym (ap (filter (waits (instances_of a))) (keys-opened a whole)
    ∙ by-rows (instances_of a) rs (λ k d h.
    get-at id value rs k (get_or rs k d).id d whole.rising (omega (arith, h, length-keys id rs)) (get_or-map id rs k d 0 h)))
