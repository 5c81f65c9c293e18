-- The lines of the table of events, for the files that are watched.
use Rattle.std.proofs.Common.{◌≡◌, ℕ, ◌+◌, ◌++◌, Bool, List, [], ◌∷◌, Option, Some, None, refl, sym, ap, ◌∙◌}
use Rattle.std.specs.List.{last_or}
use Rattle.inode_table.specs.declared.seen.Kind.{Kind}
use Rattle.inode_table.specs.declared.seen.Seen.{Seen}
use Rattle.inode_table.specs.Refusals.{Look, parent_of}
use Rattle.record_codec.specs.declared.bits.TheConstants.{IN_DELETE, IN_MOVED_FROM, IN_MOVED_TO, IN_MOVE_SELF}
use Rattle.event_rules.specs.declared.notice.Notice.{Notice}
use Rattle.event_rules.specs.declared.notice.Notice.TheVariants.{Told}
use Rattle.event_rules.specs.declared.notice.TheConstants.{NO_COOKIE}
use Rattle.event_rules.specs.Raised.{heard}
use Rattle.event_rules.specs.Subjects.{seen_watched}
use Rattle.event_rules.specs.Table.{about, kind_seen, swap_told, move_told, path_lost, told_in, to_dir, to_self}
use Rattle.event_rules.proofs.Hearing.{heard-first, heard-more, heard-path_lost, heard-to_dir, heard-to_self}

last_or-append : {A : Type 0} (o : Option A) (xs : List A) (x : A) → last_or o (xs ++ x ∷ []) ≡ Some x
last_or-append o [] x = refl
last_or-append o (y ∷ ys) x = last_or-append (Some y) ys x

module _ (watches : ℕ → Bool) where
  -- the directory of a path is there, and is watched
  pub to_dir-there : (at : Look) (p parent : List (List ℕ)) (name : List ℕ) (directory : Seen) (kind : Kind) (event cookie : ℕ)
      → p ≡ parent ++ name ∷ [] → parent ≡ parent_of p → seen_watched watches (at parent) ≡ Some directory
      → heard watches (to_dir at p kind event cookie) ≡ Told directory.number (about kind event) cookie (Some name) ∷ []
  to_dir-there at p parent name directory kind event cookie parts is there =
      heard-to_dir watches at p kind event cookie
      ∙ ap (λ o. told_in o (last_or None p) (about kind event) cookie) (ap (λ q. seen_watched watches (at q)) (sym is) ∙ there)
      ∙ ap (λ o. told_in (Some directory) o (about kind event) cookie) (ap (last_or None) parts ∙ last_or-append None parent name)

  -- the object at a path loses it, and then its directory is notified
  lost-told : (lost before : List Notice) (seen o : Option Seen) → lost ≡ before ++ path_lost seen → seen ≡ seen_watched watches o
      → lost ≡ before ++ heard watches (path_lost o)
  lost-told lost before seen o loses is = loses ∙ ap (λ l. before ++ l) (ap path_lost is ∙ sym (heard-path_lost watches o))

  self-told : (all before : List Notice) (seen o : Option Seen) (bits : ℕ) → all ≡ before ++ to_self seen bits → seen ≡ seen_watched watches o
      → all ≡ before ++ heard watches (to_self o bits)
  self-told all before seen o bits ends is = ends ∙ ap (λ l. before ++ l) (ap (λ s. to_self s bits) is ∙ sym (heard-to_self watches bits o))

  module _ (at : Look) (p : List (List ℕ)) (none lost all : List Notice) (seen : Option Seen) (opens : none ≡ [])
      (loses : lost ≡ none ++ path_lost seen) (is : seen ≡ seen_watched watches (at p)) where
    pub lost-lines : (kind : Kind) → all ≡ lost ++ heard watches (to_dir at p kind IN_DELETE NO_COOKIE)
        → all ≡ heard watches (path_lost (at p) ++ to_dir at p kind IN_DELETE NO_COOKIE)
    lost-lines kind ends =
        heard-more watches lost all (path_lost (at p)) (to_dir at p kind IN_DELETE NO_COOKIE)
        (heard-first watches none lost (path_lost (at p)) opens (lost-told lost none seen (at p) loses is)) ends

-- the lists after each line of a rename that moves something
module _ (watches other_watches : ℕ → Bool) (at other_at : Look) (old new : List (List ℕ)) (cookie : ℕ) (moved replaced : Option Seen) (kind : Kind)
    (alike : other_watches ≡ watches) (same : other_at ≡ at) (is_moved : moved ≡ seen_watched watches (at old))
    (is_replaced : replaced ≡ seen_watched other_watches (other_at new)) (is_kind : kind ≡ kind_seen (at old)) where
  pub move_told-lines : (none from to lost all : List Notice) → none ≡ [] → from ≡ none ++ heard watches (to_dir at old kind IN_MOVED_FROM cookie)
      → to ≡ from ++ heard other_watches (to_dir other_at new kind IN_MOVED_TO cookie) → lost ≡ to ++ path_lost replaced
      → all ≡ lost ++ to_self moved IN_MOVE_SELF → all ≡ heard watches (move_told at old new cookie)
  unfolding move_told
  move_told-lines none from to lost all opens begins arrives loses ends =
      let a = to_dir at old (kind_seen (at old)) IN_MOVED_FROM cookie in
      let b = to_dir at new (kind_seen (at old)) IN_MOVED_TO cookie in
      let one : from ≡ heard watches a = heard-first watches none from a opens
      (begins ∙ (λ i. none ++ heard watches (to_dir at old (is_kind i) IN_MOVED_FROM cookie))) in
      let two = heard-more watches from to a b one (arrives ∙ (λ i. from ++ heard (alike i) (to_dir (same i) new (is_kind i) IN_MOVED_TO cookie))) in
      let three = heard-more watches to lost (a ++ b) (path_lost (at new)) two
      (lost-told watches lost to replaced (at new) loses (is_replaced ∙ (λ i. seen_watched (alike i) (same i new)))) in
      heard-more watches lost all ((a ++ b) ++ path_lost (at new)) (to_self (at old) IN_MOVE_SELF) three
      (self-told watches all lost moved (at old) IN_MOVE_SELF ends is_moved)

-- the lists after each line of an exchange of two files
module _ (watches other_watches : ℕ → Bool) (at other_at : Look) (old new : List (List ℕ)) (cookie : ℕ) (one other : Option Seen) (kind other_kind : Kind)
    (alike : other_watches ≡ watches) (same : other_at ≡ at) (is_one : one ≡ seen_watched watches (at old))
    (is_other : other ≡ seen_watched other_watches (other_at new)) (is_kind : kind ≡ kind_seen (at old))
    (is_other_kind : other_kind ≡ kind_seen (other_at new)) where
  pub swap_told-lines : (none from to itself back_from back_to all : List Notice)
      → none ≡ [] → from ≡ none ++ heard watches (to_dir at old kind IN_MOVED_FROM cookie)
      → to ≡ from ++ heard other_watches (to_dir other_at new kind IN_MOVED_TO cookie) → itself ≡ to ++ to_self one IN_MOVE_SELF
      → back_from ≡ itself ++ heard other_watches (to_dir other_at new other_kind IN_MOVED_FROM (cookie + 1))
      → back_to ≡ back_from ++ heard watches (to_dir at old other_kind IN_MOVED_TO (cookie + 1))
      → all ≡ back_to ++ to_self other IN_MOVE_SELF → all ≡ heard watches (swap_told at old new cookie)
  unfolding swap_told
  swap_told-lines none from to itself back_from back_to all opens begins arrives turns leaves returns ends =
      let k = kind_seen (at old) in
      let l = kind_seen (at new) in
      let is_l : other_kind ≡ l = is_other_kind ∙ ap (λ (s : Look). kind_seen (s new)) same in
      let a = to_dir at old k IN_MOVED_FROM cookie in
      let b = to_dir at new k IN_MOVED_TO cookie in
      let c = to_self (at old) IN_MOVE_SELF in
      let d = to_dir at new l IN_MOVED_FROM (cookie + 1) in
      let e = to_dir at old l IN_MOVED_TO (cookie + 1) in
      let f = to_self (at new) IN_MOVE_SELF in
      let first : from ≡ heard watches a = heard-first watches none from a opens
      (begins ∙ (λ i. none ++ heard watches (to_dir at old (is_kind i) IN_MOVED_FROM cookie))) in
      let second = heard-more watches from to a b first (arrives ∙ (λ i. from ++ heard (alike i) (to_dir (same i) new (is_kind i) IN_MOVED_TO cookie))) in
      let third = heard-more watches to itself (a ++ b) c second (self-told watches itself to one (at old) IN_MOVE_SELF turns is_one) in
      let fourth = heard-more watches itself back_from ((a ++ b) ++ c) d third
      (leaves ∙ (λ i. itself ++ heard (alike i) (to_dir (same i) new (is_l i) IN_MOVED_FROM (cookie + 1)))) in
      let fifth = heard-more watches back_from back_to (((a ++ b) ++ c) ++ d) e fourth
      (returns ∙ (λ i. back_from ++ heard watches (to_dir at old (is_l i) IN_MOVED_TO (cookie + 1)))) in
      heard-more watches back_to all ((((a ++ b) ++ c) ++ d) ++ e) f fifth
      (self-told watches all back_to other (at new) IN_MOVE_SELF ends (is_other ∙ (λ i. seen_watched (alike i) (same i new))))
