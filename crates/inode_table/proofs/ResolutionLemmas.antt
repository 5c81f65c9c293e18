-- What a walk along a path finds.
use Rattle.std.proofs.Common.{◌≡◌, ℕ, zero, suc, ◌-◌, ◌≤◌, cond, append_assoc, List, [], ◌∷◌, ◌++◌, take, length}
use Rattle.std.proofs.Common.{Option, Some, None, Result, Ok, Err, true, is_some, refl, sym, ap, subst, ◌∙◌, arith}
use Rattle.std.proofs.Common.{if◌then◌else◌}
use Rattle.std.proofs.lemmas.List.{append-nil, take-append-le}
use Rattle.std.specs.Option.{option_and_then}
use Rattle.tree_paths.specs.declared.refusal.Refusal.{Refusal}
use Rattle.tree_paths.specs.declared.refusal.Refusal.TheVariants.{Enoent, Enotdir}
use Rattle.inode_table.specs.Resolution.{IsFound, IsResolved, ResolvedPath}
use Rattle.inode_table.specs.TableWorld.{world_of, number_of}
use Rattle.inode_table.specs.World.{look}
use Rattle.inode_table.specs.Refusals.{Look, find, is_directory_seen, longest_there, parent_of}
use Rattle.inode_table.specs.Rows.{Label, child}
use Rattle.inode_table.specs.Stands.{look_in, seen_at}
use Rattle.inode_table.specs.Tree.{TableValue, at}
use Rattle.inode_table.specs.Kept.{is_directory, IsTable}
use Rattle.inode_table.specs.Walk.{walk}
use Rattle.inode_table.proofs.FindLemmas.{absent-seen, found-none, live-there, stops-absent, stops-missing, take-whole, there-seen}
use Rattle.inode_table.proofs.TableLemmas.{StopsAt}
use Rattle.inode_table.proofs.TableWorldLemmas.{look-world, numbered}
use Rattle.inode_table.proofs.ChangeLemmas.{walk_end}
use Rattle.inode_table.proofs.WalkLemmas.{walk-append}

longest-more : (seen : Look) (q s : List Label) (n : ℕ) → n ≤ length q → longest_there seen (q ++ s) n ≡ longest_there seen q n
longest-more seen q s zero within = refl
longest-more seen q s (suc n) within =
    ap (λ x. if is_some (seen x) then x else longest_there seen (q ++ s) n) (take-append-le (suc n) q s within)
    ∙ ap (λ x. if is_some (seen (take (suc n) q)) then take (suc n) q else x) (longest-more seen q s n (omega arith))

one-more : (q : List Label) (l : Label) → length (q ++ l ∷ []) ≡ suc (length q)
one-more [] l = refl
one-more (x ∷ q) l = ap suc (one-more q l)

-- what is not there has nothing below it, for the same reason
pub find-below : (seen : Look) (q : List Label) (l : Label) → seen q ≡ None → seen (q ++ l ∷ []) ≡ None → find seen (q ++ l ∷ []) ≡ find seen q
unfolding find
find-below seen q l none below =
    let why : List Label → Option Refusal = (λ x. if is_directory_seen (seen x) then Some Enoent else Some Enotdir) in
    let whole : take (length (q ++ l ∷ [])) (q ++ l ∷ []) ≡ q ++ l ∷ [] = take-whole (q ++ l ∷ []) (length (q ++ l ∷ [])) (omega arith) in
    let step : longest_there seen (q ++ l ∷ []) (suc (length q)) ≡ longest_there seen (q ++ l ∷ []) (length q) =
    ap (λ b. if b then take (suc (length q)) (q ++ l ∷ []) else longest_there seen (q ++ l ∷ []) (length q))
    (ap (λ x. is_some (seen x)) (ap (λ n. take n (q ++ l ∷ [])) (sym (one-more q l)) ∙ whole) ∙ ap is_some below) in
    ap (λ b. if b then None else why (longest_there seen (q ++ l ∷ []) (length (q ++ l ∷ [])))) (ap is_some below)
    ∙ ap why (ap (longest_there seen (q ++ l ∷ [])) (one-more q l) ∙ step ∙ longest-more seen q (l ∷ []) (length q) (omega arith))
    ∙ sym (ap (λ b. if b then None else why (longest_there seen q (length q))) (ap is_some none))

module _ (t : TableValue) (table : IsTable t.rows) where
  pub found-at : (p : List Label) (k j : ℕ) → at t p ≡ Some k → j ≡ k → IsFound t p (Ok j)
  found-at p k j there same =
      record {
        key = there ∙ ap Some (sym same);
        none = ap (λ l. find l p) (look-world t table) ∙ found-none t table p k there;
        missing = tt;
        absent = tt;
      }

  -- what was found has a number, and it is what stands there
  pub found-there : (p : List Label) (k : ℕ) → at t p ≡ Some k → is_some (number_of t (Some k)) ≡ true
  found-there p k there = numbered t k (live-there t table p k there)

  pub found-seen : (p : List Label) (k : ℕ) → at t p ≡ Some k → look (world_of t) p ≡ seen_at t k
  found-seen p k there = ap (λ l. l p) (look-world t table) ∙ ap (option_and_then (seen_at t)) there

  pub found-key : (p : List Label) (r : Result ℕ Refusal) (k : ℕ) → IsFound t p r → r ≡ Ok k → at t p ≡ Some k
  found-key p r k is e = is-at (subst (IsFound t p) e is)
    where
      is-at : IsFound t p (Ok k) → at t p ≡ Some k
      is-at found = found.key

  pub missing-at : (p : List Label) (e : Refusal) → find (look_in t) p ≡ Some e → look_in t p ≡ None → IsFound t p (Err e)
  missing-at p e missing absent =
      record {
        key = tt;
        none = tt;
        missing = ap (λ l. find l p) (look-world t table) ∙ missing;
        absent = ap (λ l. l p) (look-world t table) ∙ absent;
      }

  pub missing-below : (q : List Label) (l : Label) (e : Refusal) → find (look_in t) q ≡ Some e → look_in t q ≡ None → IsFound t (q ++ l ∷ []) (Err e)
  missing-below q l e missing absent =
      let below : look_in t (q ++ l ∷ []) ≡ None =
      absent-seen t table (q ++ l ∷ [])
      (walk-append (child t.rows) 0 q (l ∷ []) ∙ ap (option_and_then (λ j. walk (child t.rows) j (l ∷ []))) (there-seen t table q absent)) in
      missing-at (q ++ l ∷ []) e (find-below (look_in t) q l absent below ∙ missing) below

  pub stops-at : (p : List Label) (e : Refusal) → StopsAt t p e → IsFound t p (Err e)
  stops-at p e stops =
      missing-at p e (stops-missing t table p e stops) (absent-seen t table p (stops-absent t table p e stops))

-- what was found stays found where no path and no file is another one
pub resolved-kept : (t u : TableValue) → ((p : List Label) → at u p ≡ at t p) → world_of u ≡ world_of t → (path : ResolvedPath)
    → IsResolved t path → IsResolved u path
resolved-kept t u paths same path is = record { here = kept path.names path.here is.here; directory = kept (parent_of path.names) path.directory is.directory }
  where
    kept : (p : List Label) (r : Result ℕ Refusal) → IsFound t p r → IsFound u p r
    kept p (Ok f) is =
        record {
          key = paths p ∙ is.key;
          none = ap (λ w. find (look w) p) same ∙ is.none;
          missing = tt;
          absent = tt;
        }
    kept p (Err e) is =
        record {
          key = tt;
          none = tt;
          missing = ap (λ w. find (look w) p) same ∙ is.missing;
          absent = ap (λ w. look w p) same ∙ is.absent;
        }

-- ---- one name after the other

-- the names before this one lead to the key
pub record WalksTo (c : ℕ → Label → Option ℕ) (whole : List Label) (name : Label) (left : List Label) (key : ℕ) : Type 0 where
  pub front : List Label
  pub cut : whole ≡ front ++ name ∷ left
  pub there : walk c 0 front ≡ Some key

pub walks-first : (c : ℕ → Label → Option ℕ) (name : Label) (left : List Label) → WalksTo c (name ∷ left) name left 0
walks-first c name left = record { front = []; cut = refl; there = refl }

pub walks-on : (c : ℕ → Label → Option ℕ) (whole : List Label) (name next : Label) (names left : List Label) (key there : ℕ)
    → WalksTo c whole name names key → names ≡ next ∷ left → c key name ≡ Some there
    → WalksTo c whole next left there
walks-on c whole name next names left key there w cut leads =
    record {
      front = w.front ++ name ∷ [];
      cut = w.cut ∙ ap (λ (r : List Label). w.front ++ name ∷ r) cut ∙ sym (append_assoc w.front (name ∷ []) (next ∷ left));
      there = walk_end c key w.front name w.there ∙ leads;
    }

parent-cons : (x y : Label) (p : List Label) → parent_of (x ∷ y ∷ p) ≡ x ∷ parent_of (y ∷ p)
parent-cons x y p = let n : length (x ∷ y ∷ p) - 1 ≡ suc (length (y ∷ p) - 1) = omega arith in ap (λ (k : ℕ). take k (x ∷ y ∷ p)) n

parent-append : (front : List Label) (x : Label) (p : List Label) → parent_of (front ++ x ∷ p) ≡ front ++ parent_of (x ∷ p)
parent-append [] x p = refl
parent-append (l ∷ []) x p = parent-cons l x p
parent-append (l ∷ m ∷ front) x p = parent-cons l m (front ++ x ∷ p) ∙ ap (λ (r : List Label). l ∷ r) (parent-append (m ∷ front) x p)

parent-one : (front : List Label) (x : Label) → parent_of (front ++ x ∷ []) ≡ front
parent-one front x = parent-append front x [] ∙ append-nil front

module _ (t : TableValue) (table : IsTable t.rows) where
  pub walk-parent : (whole : List Label) (name : Label) (left : List Label) (key found : ℕ)
      → WalksTo (child t.rows) whole name left key → left ≡ [] → found ≡ key → IsFound t (parent_of whole) (Ok found)
  walk-parent whole name left key found w none same =
      let parent : parent_of whole ≡ w.front = ap parent_of (w.cut ∙ ap (λ (r : List Label). w.front ++ name ∷ r) none) ∙ parent-one w.front name in
      subst (λ (p : List Label). IsFound t p (Ok found)) (sym parent) (found-at t table w.front key found w.there same)

  pub walk-here : (whole : List Label) (name last : Label) (left : List Label) (key : ℕ) (r : Result ℕ Refusal)
      → WalksTo (child t.rows) whole name left key → left ≡ [] → last ≡ name
      → ((p : List Label) → at t p ≡ Some key → IsFound t (p ++ last ∷ []) r) → IsFound t whole r
  walk-here whole name last left key r w none same here =
      let cut : w.front ++ last ∷ [] ≡ whole = sym (w.cut ∙ (λ i. w.front ++ sym same i ∷ none i)) in
      subst (λ (p : List Label). IsFound t p r) cut (here w.front w.there)

  pub walk-stops : (whole : List Label) (name next : Label) (names left : List Label) (key : ℕ) (e : Refusal)
      → WalksTo (child t.rows) whole name names key → names ≡ next ∷ left
      → child t.rows key name ≡ None → e ≡ cond (is_directory t.rows key) Enoent Enotdir → IsFound t whole (Err e) × IsFound t (parent_of whole) (Err e)
  walk-stops whole name next names left key e w more missing answer =
      let cut : whole ≡ w.front ++ name ∷ next ∷ left = w.cut ∙ ap (λ (r : List Label). w.front ++ name ∷ r) more in
      let none : at t (w.front ++ name ∷ []) ≡ None = walk_end (child t.rows) key w.front name w.there ∙ missing in
      let parent : parent_of whole ≡ w.front ++ name ∷ parent_of (next ∷ left) =
      ap parent_of cut ∙ parent-append w.front name (next ∷ left) ∙ ap (λ (r : List Label). w.front ++ r) (parent-cons name next left) in (
        stops-at t table whole e
            (record { front = w.front; label = name; rest = next ∷ left; key = key; cut = cut; there = w.there; missing = none; answer = answer }),
        stops-at t table (parent_of whole) e
            (record {
              front = w.front;
              label = name;
              rest = parent_of (next ∷ left);
              key = key;
              cut = parent;
              there = w.there;
              missing = none;
              answer = answer;
            }),
      )
