-- The notices of the files that are watched alone.
use Rattle.std.proofs.Common.{◌≡◌, ℕ, Bool, true, false, cond, if◌then◌else◌, ◌==◌, List, [], ◌∷◌, ◌++◌, Option, Some, None, refl, sym, ap, ◌∙◌}
use Rattle.std.specs.List.{AllByRecursion, last_or}
use Rattle.std.proofs.lemmas.List.Elements.{filter-append}
use Rattle.inode_table.specs.declared.seen.Seen.{Seen}
use Rattle.inode_table.specs.Refusals.{Look, parent_of}
use Rattle.inode_table.specs.declared.seen.Kind.{Kind}
use Rattle.inode_table.specs.declared.seen.Kind.TheVariants.{Regular, Directory}
use Rattle.watch_table.specs.declared.watch.Watch.{Watch}
use Rattle.watch_table.specs.Watching.{Watching, watch_of}
use Rattle.event_rules.specs.declared.notice.Notice.{Notice}
use Rattle.event_rules.specs.Raised.{events_of, heard, left, told_number, watches_after}
use Rattle.event_rules.proofs.Removals.{raised}
use Rattle.event_rules.specs.Subjects.{seen_watched}
use Rattle.event_rules.specs.Table.{about, path_lost, to_dir, to_self, told_in}
use Rattle.event_rules.proofs.EveryCall.{lost_told, deleted_told}
use Rattle.event_rules.proofs.Others.{raised-none, left-none, part-left}

module _ (watches : ℕ → Bool) where
  pub heard-append : (ns ms : List Notice) → heard watches (ns ++ ms) ≡ heard watches ns ++ heard watches ms
  heard-append ns ms = filter-append (λ (n : Notice). watches (told_number n)) ns ms

  -- ---- one instance

  still-unwatched : (w : Watching) (n : Notice) → ((k : ℕ) → watches k ≡ false → watch_of w k ≡ None)
      → (k : ℕ) → watches k ≡ false → watch_of (left w n) k ≡ None
  still-unwatched w n h k none = by (watch_of (left w n) k) refl
    where
      by : (o : Option Watch) → watch_of (left w n) k ≡ o → watch_of (left w n) k ≡ None
      by None e = e
      by (Some x) e = absurd (let was = (part-left w n).watches k x e in let not = h k none in cc)

  pub events_of-heard : (w : Watching) (ns : List Notice) → ((k : ℕ) → watches k ≡ false → watch_of w k ≡ None)
      → events_of w (heard watches ns) ≡ events_of w ns
  events_of-heard w [] h = refl
  events_of-heard w (n ∷ ns) h =
      elim (watches (told_number n)) as (λ b. watches (told_number n) ≡ b
      → events_of w (cond b (n ∷ heard watches ns) (heard watches ns)) ≡ raised w n ++ events_of (left w n) ns) [
        | true ↦ λ e. ap (λ es. raised w n ++ es) (events_of-heard (left w n) ns (still-unwatched w n h))
        | false ↦ λ e. events_of-heard w ns h
            ∙ (λ i. sym (raised-none w n (h (told_number n) e)) i ++ events_of (sym (left-none w n (h (told_number n) e)) i) ns)
      ] refl

  pub watches_after-heard : (w : Watching) (ns : List Notice) → ((k : ℕ) → watches k ≡ false → watch_of w k ≡ None)
      → watches_after w (heard watches ns) ≡ watches_after w ns
  watches_after-heard w [] h = refl
  watches_after-heard w (n ∷ ns) h =
      elim (watches (told_number n)) as (λ b. watches (told_number n) ≡ b
      → watches_after w (cond b (n ∷ heard watches ns) (heard watches ns)) ≡ watches_after (left w n) ns) [
        | true ↦ λ e. watches_after-heard (left w n) ns (still-unwatched w n h)
        | false ↦ λ e. watches_after-heard w ns h ∙ ap (λ x. watches_after x ns) (sym (left-none w n (h (told_number n) e)))
      ] refl

  -- ---- one line of the table

  -- notices of an object alone
  heard-all : (number : ℕ) → watches number ≡ true → (ns : List Notice) → AllByRecursion (λ n. told_number n ≡ number) ns → heard watches ns ≡ ns
  heard-all number is [] h = refl
  heard-all number is (n ∷ ns) h =
      ap (λ b. cond b (n ∷ heard watches ns) (heard watches ns)) (ap watches h.0 ∙ is) ∙ ap (λ (l : List Notice). n ∷ l) (heard-all number is ns h.1)

  heard-none : (number : ℕ) → watches number ≡ false → (ns : List Notice) → AllByRecursion (λ n. told_number n ≡ number) ns → heard watches ns ≡ []
  heard-none number is [] h = refl
  heard-none number is (n ∷ ns) h =
      ap (λ b. cond b (n ∷ heard watches ns) (heard watches ns)) (ap watches h.0 ∙ is) ∙ heard-none number is ns h.1

  -- the notices of an object are made where it is watched
  heard-of : (told : Option Seen → List Notice) → told None ≡ []
      → ((s : Seen) → AllByRecursion (λ n. told_number n ≡ s.number) (told (Some s)))
      → (o : Option Seen) → heard watches (told o) ≡ told (seen_watched watches o)
  heard-of told none all None = ap (heard watches) none ∙ sym none
  heard-of told none all (Some s) = by (watches s.number) refl
    where
      by : (b : Bool) → watches s.number ≡ b → heard watches (told (Some s)) ≡ told (if b then Some s else None)
      by true e = heard-all s.number e (told (Some s)) (all s)
      by false e = heard-none s.number e (told (Some s)) (all s) ∙ sym none

  pub heard-to_self : (bits : ℕ) (o : Option Seen) → heard watches (to_self o bits) ≡ to_self (seen_watched watches o) bits
  heard-to_self bits = heard-of (λ o. to_self o bits) refl (λ s. (refl, tt))

  pub heard-path_lost : (o : Option Seen) → heard watches (path_lost o) ≡ path_lost (seen_watched watches o)
  unfolding path_lost
  heard-path_lost = heard-of path_lost refl (λ s. all s.number s.links s.kind)
    where
      gone : (number : ℕ) (b : Bool) → AllByRecursion (λ n. told_number n ≡ number) (if b then deleted_told number else [])
      gone number true = (refl, (refl, tt))
      gone number false = tt

      all : (number links : ℕ) (kind : Kind) → AllByRecursion (λ n. told_number n ≡ number) (lost_told kind number links)
      all number links Regular = (refl, gone number (links == 1))
      all number links Directory = (refl, (refl, tt))

  pub heard-to_dir : (at : Look) (p : List (List ℕ)) (kind : Kind) (event cookie : ℕ)
      → heard watches (to_dir at p kind event cookie) ≡ told_in (seen_watched watches (at (parent_of p))) (last_or None p) (about kind event) cookie
  unfolding to_dir
  heard-to_dir at p kind event cookie =
      heard-of (λ o. told_in o (last_or None p) (about kind event) cookie) (nowhere (last_or None p)) (λ s. all s (last_or None p)) (at (parent_of p))
    where
      nowhere : (name : Option (List ℕ)) → told_in None name (about kind event) cookie ≡ []
      nowhere None = refl
      nowhere (Some name) = refl

      all : (s : Seen) (name : Option (List ℕ)) → AllByRecursion (λ n. told_number n ≡ s.number) (told_in (Some s) name (about kind event) cookie)
      all s None = tt
      all s (Some name) = (refl, tt)

  -- ---- lines one after the other

  pub heard-first : (none one a : List Notice) → none ≡ [] → one ≡ none ++ heard watches a → one ≡ heard watches a
  heard-first none one a opens first = first ∙ ap (λ l. l ++ heard watches a) opens

  pub heard-more : (all more xs b : List Notice) → all ≡ heard watches xs → more ≡ all ++ heard watches b → more ≡ heard watches (xs ++ b)
  heard-more all more xs b before next = next ∙ ap (λ l. l ++ heard watches b) before ∙ sym (heard-append xs b)
