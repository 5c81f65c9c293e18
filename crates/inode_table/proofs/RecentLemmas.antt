-- What a table remembers stays right under each change.
use Rattle.std.proofs.Common.{◌≡◌, ◌≢◌, ◌⊎◌, ℕ, true, false, List, [], ◌∷◌, ◌++◌, Option, Some, None}
use Rattle.std.proofs.Common.{refl, sym, ap, ◌∙◌, inl, inr}
use Rattle.std.specs.Option.{option_and_then, option_map_or}
use Rattle.inode_table.specs.Walk.{walk}
use Rattle.inode_table.specs.Kept.{is_directory, is_directory_row, IsTable}
use Rattle.inode_table.specs.Changes.{Avoids, one_link_more}
use Rattle.inode_table.specs.Rows.{Label, Row, Rows, child}
use Rattle.inode_table.specs.Recent.{Known, IsKnown, Remembers}
use Rattle.inode_table.proofs.TreeLemmas.{some_none, same_some, walk_past}
use Rattle.inode_table.proofs.ChangeLemmas.{DropsRow, drop-DropsPath, loses-directory, RemovesRow, remove-paths, remove-others, walk_end}
use Rattle.inode_table.proofs.ChangeLemmas.{MovesRow, move-MovesPath, SwapsRow, swap-SwapsPaths, directory-same}
use Rattle.inode_table.proofs.ChangeLemmas.{LinksRow, link-AddsPath, AddsRow, add-AddsPath, add-what_others, changes-directory, KeepsKind}

-- nothing is remembered yet
pub Remembers-none : (rs : Rows) (known : List (Option Known)) → ((p : List Label) (k : ℕ) → IsKnown known p k → ⊥) → Remembers rs known
Remembers-none rs known none = record { there = λ p k at. absurd (none p k at); kind = λ p k at. absurd (none p k at) }

-- no path and no directory is another one
pub Remembers-same : {old new : Rows} {known : List (Option Known)} → ((p : List Label) → walk (child new) 0 p ≡ walk (child old) 0 p)
    → ((k : ℕ) → is_directory old k ≡ is_directory new k) → Remembers old known → Remembers new known
Remembers-same paths kinds is = record { there = λ p k at. paths p ∙ is.there p k at; kind = λ p k at. sym (kinds k) ∙ is.kind p k at }

-- the same edges, and nodes of the same kind
pub Remembers-edges : {old new : Rows} {known : List (Option Known)} → ((k : ℕ) (l : Label) → child new k l ≡ child old k l)
    → ((k : ℕ) → is_directory old k ≡ is_directory new k) → Remembers old known → Remembers new known
Remembers-edges same kinds is = Remembers-same (λ p i. walk (λ k l. same k l i) 0 p) kinds is

-- one more directory is remembered
pub Remembers-keep : (rs : Rows) (q : List Label) (j : ℕ) {before after : List (Option Known)} → walk (child rs) 0 q ≡ Some j → is_directory rs j ≡ true
    → ((p : List Label) (k : ℕ) → IsKnown after p k → IsKnown before p k ⊎ ((p ≡ q) × (k ≡ j))) → Remembers rs before → Remembers rs after
Remembers-keep rs q j there kind kept is =
    record {
      there = λ p k at. elim (kept p k at) [
        | inl old ↦ is.there p k old
        | inr new ↦ ap (walk (child rs) 0) new.0 ∙ there ∙ ap Some (sym new.1)
      ];
      kind = λ p k at. elim (kept p k at) [ inl old ↦ is.kind p k old | inr new ↦ ap (is_directory rs) new.1 ∙ kind ];
    }

-- no walk leads from a regular file to a directory
regular-below : (rs : Rows) → IsTable rs → (x k : ℕ) → is_directory rs x ≡ false → is_directory rs k ≡ true → (s : List Label)
    → walk (child rs) x s ≡ Some k → ⊥
regular-below rs table x k regular directory [] to = let e : is_directory rs x ≡ is_directory rs k = ap (is_directory rs) (same_some x k to) in absurd (cc)
regular-below rs table x k regular directory (l ∷ s) to =
    elim (child rs x l) as (λ o. child rs x l ≡ o → option_and_then (λ j. walk (child rs) j s) o ≡ Some k → ⊥) [
      | None ↦ λ is e. some_none refl e
      | Some j ↦ λ is e. let d = table.tree.parents x j l is in absurd (cc)
    ] refl to

-- the path of a directory does not go through a regular file
avoids-regular : (rs : Rows) → IsTable rs → (a x k : ℕ) (at_a : List Label) (m : Label) (p : List Label) → walk (child rs) 0 at_a ≡ Some a
    → child rs a m ≡ Some x → is_directory rs x ≡ false → walk (child rs) 0 p ≡ Some k → is_directory rs k ≡ true → Avoids (at_a ++ m ∷ []) p
avoids-regular rs table a x k at_a m p to_a was regular there directory s e =
    regular-below rs table x k regular directory s
    (sym (ap (option_and_then (λ j. walk (child rs) j s)) was) ∙ sym (walk_past (child rs) a at_a m to_a s) ∙ sym (ap (walk (child rs) 0) e) ∙ there)

-- nor through what stands there, if that is no directory
avoids-replaced : (rs : Rows) → IsTable rs → (b k : ℕ) (at_b : List Label) (n : Label) (p : List Label) → walk (child rs) 0 at_b ≡ Some b
    → ((j : ℕ) → child rs b n ≡ Some j → is_directory rs j ≡ false) → walk (child rs) 0 p ≡ Some k → is_directory rs k ≡ true
    → Avoids (at_b ++ n ∷ []) p
avoids-replaced rs table b k at_b n p to_b regular there directory s e =
    elim (child rs b n) as (λ o. child rs b n ≡ o → ⊥) [
      | None ↦ λ none. some_none (walk_past (child rs) b at_b n to_b s ∙ ap (option_and_then (λ j. walk (child rs) j s)) none)
          (sym (ap (walk (child rs) 0) e) ∙ there)
      | Some y ↦ λ some. avoids-regular rs table b y k at_b n p to_b some (regular y some) there directory s e
    ] refl

-- ---- a name is taken out

pub Remembers-drop : {old new : Rows} {a x : ℕ} {m : Label} {before after : List (Option Known)} → DropsRow old new a m x → (at_a : List Label)
    → walk (child old) 0 at_a ≡ Some a → ((p : List Label) (k : ℕ) → IsKnown after p k → IsKnown before p k × (is_directory old x ≡ false))
    → Remembers old before → Remembers new after
Remembers-drop {old} {new} {a} {x} {m} drops at_a to_a kept is =
    record {
      there = λ p k at.
          let h = kept p k at in
          let there = is.there p k h.0 in
          let off : p ≢ at_a ++ m ∷ [] =
          λ e. avoids-regular old drops.table a x k at_a m p to_a drops.was h.1 there (is.kind p k h.0) [] (e ∙ sym (whole at_a m)) in
          (drop-DropsPath drops at_a to_a).others p off ∙ there;
      kind = λ p k at. sym (loses-directory drops.links k) ∙ is.kind p k (kept p k at).0;
    }
  where
    whole : (q : List Label) (l : Label) → (q ++ l ∷ []) ++ [] ≡ q ++ l ∷ []
    whole [] l = refl
    whole (y ∷ q) l = ap (λ r. y ∷ r) (whole q l)

-- ---- a node is taken away

pub Remembers-remove : {old new : Rows} {x : ℕ} {known : List (Option Known)} → RemovesRow old new x → Remembers old known → Remembers new known
Remembers-remove {old} {new} {x} removes is =
    record {
      there = λ p k at. remove-paths removes p ∙ is.there p k at;
      kind = λ p k at.
          let off : k ≢ x = λ e. removes.lost p (is.there p k at ∙ ap Some e) in
          directory-same old new k (remove-others removes k off) ∙ is.kind p k at;
    }

-- ---- a name more

added-off : (rs : Rows) (a : ℕ) (at_a : List Label) (m : Label) (p : List Label) (k : ℕ) → walk (child rs) 0 at_a ≡ Some a → child rs a m ≡ None
    → walk (child rs) 0 p ≡ Some k → p ≢ at_a ++ m ∷ []
added-off rs a at_a m p k to_a free there e = some_none (walk_end (child rs) a at_a m to_a ∙ free) (sym (ap (walk (child rs) 0) e) ∙ there)

pub Remembers-add : {old mid new : Rows} {a x : ℕ} {m : Label} {r : Row} {known : List (Option Known)} → AddsRow old mid new a m x r → (at_a : List Label)
    → walk (child old) 0 at_a ≡ Some a → Remembers old known → Remembers new known
Remembers-add {old} {mid} {new} {a} {x} {m} adds at_a to_a is =
    let vacant : is_directory old x ≡ false = ap (λ o. option_map_or is_directory_row o false) adds.vacant in
    record {
      there = λ p k at.
          let there = is.there p k at in (add-AddsPath adds at_a to_a).others p (added-off old a at_a m p k to_a adds.free there) ∙ there;
      kind = λ p k at.
          let d = is.kind p k at in
          let off : k ≢ x = λ e. let e' : is_directory old k ≡ is_directory old x = ap (is_directory old) e in absurd (cc) in
          directory-same old new k (add-what_others adds k off) ∙ d;
    }

pub Remembers-link : {old new : Rows} {a x : ℕ} {m : Label} {known : List (Option Known)} → LinksRow old new a m x → (at_a : List Label)
    → walk (child old) 0 at_a ≡ Some a → Remembers old known → Remembers new known
Remembers-link {old} {new} {a} {x} {m} links at_a to_a is =
    let keeps : KeepsKind old x one_link_more = record { number = λ w. refl; kind = λ w e. refl } in
    record {
      there = λ p k at.
          let there = is.there p k at in (link-AddsPath links at_a to_a).others p (added-off old a at_a m p k to_a links.free there) ∙ there;
      kind = λ p k at. sym (changes-directory links.links keeps k) ∙ is.kind p k at;
    }

-- ---- a name is moved, or two are exchanged

pub Remembers-move : {old new : Rows} {a b x : ℕ} {m n : Label} {before after : List (Option Known)} → MovesRow old new a m b n x
    → (at_a at_b : List Label) → walk (child old) 0 at_a ≡ Some a → walk (child old) 0 at_b ≡ Some b → Avoids (at_a ++ m ∷ []) (at_b ++ n ∷ [])
    → ((p : List Label) (k : ℕ) → IsKnown after p k
    → IsKnown before p k × (is_directory old x ≡ false) × ((j : ℕ) → child old b n ≡ Some j → is_directory old j ≡ false))
    → Remembers old before → Remembers new after
Remembers-move {old} {new} {a} {b} {x} {m} {n} moves at_a at_b to_a to_b apart kept is =
    record {
      there = λ p k at.
          let h = kept p k at in
          let there = is.there p k h.0 in
          let kind = is.kind p k h.0 in
          (move-MovesPath moves at_a at_b to_a to_b apart).others p (avoids-regular old moves.table a x k at_a m p to_a moves.was h.1 there kind)
          (avoids-replaced old moves.table b k at_b n p to_b h.2 there kind) ∙ there;
      kind = λ p k at. sym (loses-directory moves.links k) ∙ is.kind p k (kept p k at).0;
    }

pub Remembers-swap : {old new : Rows} {a b x y : ℕ} {m n : Label} {before after : List (Option Known)} → SwapsRow old new a m b n x y
    → (at_a at_b : List Label) → walk (child old) 0 at_a ≡ Some a → walk (child old) 0 at_b ≡ Some b → Avoids (at_a ++ m ∷ []) (at_b ++ n ∷ [])
    → Avoids (at_b ++ n ∷ []) (at_a ++ m ∷ [])
    → ((p : List Label) (k : ℕ) → IsKnown after p k → IsKnown before p k × (is_directory old x ≡ false) × (is_directory old y ≡ false))
    → Remembers old before → Remembers new after
Remembers-swap {old} {new} {a} {b} {x} {y} {m} {n} swaps at_a at_b to_a to_b below above kept is =
    record {
      there = λ p k at.
          let h = kept p k at in
          let there = is.there p k h.0 in
          let kind = is.kind p k h.0 in
          (swap-SwapsPaths swaps at_a at_b to_a to_b below above).others p
          (avoids-regular old swaps.table a x k at_a m p to_a swaps.was h.1 there kind)
          (avoids-regular old swaps.table b y k at_b n p to_b swaps.other_was h.2 there kind) ∙ there;
      kind = λ p k at. directory-same old new k (swaps.nodes k) ∙ is.kind p k (kept p k at).0;
    }
