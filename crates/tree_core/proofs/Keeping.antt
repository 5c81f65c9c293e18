-- What a state knows of its journal, over its changes.
use Rattle.std.proofs.Common.{All, ◌≡◌, ℕ, ◌+◌, ◌^◌, ◌<◌, ◌≤◌, List, [], ◌∷◌, ◌++◌, length, sym, ap, subst, ◌∙◌, arith, length-append}
use Rattle.std.proofs.lemmas.List.Elements.{All-nil, All-push}
use Rattle.record_codec.specs.Records.{AreEvents}
use Rattle.tree_paths.specs.declared.limits.Limits.{Limits}
use Rattle.instance_table.specs.Instances.{WaitingAreEvents}
use Rattle.tree_core.specs.declared.reply.Entry.{Entry}
use Rattle.tree_core.specs.declared.snapshot.Snapshot.{Snapshot}
use Rattle.tree_core.specs.declared.state.State.TheInside.{Inside}
use Rattle.tree_core.specs.Tree.{Tree, opening, reply_of, after}
use Rattle.tree_core.specs.Journal.{Journaled, HasPast, IsLawfulFrom, cut_off, last_place, now, opened, with_entry}
use Rattle.tree_core.specs.Calls.{IsSpelled}
use Rattle.tree_core.specs.FileSystems.{tree_in, IsNumbered}
use Rattle.tree_core.specs.Histories.{read_in}
use Rattle.tree_core.specs.Kept.{IsKept, journal_of, tree_of}
use Rattle.tree_core.specs.Snapshots.{IsSnapshotOf}
use Rattle.tree_core.specs.TurnLaws.{TreesAreSound}
use Rattle.tree_core.proofs.Lawful.{HasPast-cut, HasPast-opening, lawful-entry, limits-now, now-cut, now-entry, now-opened, pasts-make-whole, sound-now}
use Rattle.tree_core.proofs.Shown.{tree_of-snapshot}
use Rattle.tree_core.proofs.Spelled.{events-of-file_system, read-events, read-more, reply-spelled}

module _ (a b : Inside) (is : IsKept a) (snapshot : b.snapshot ≡ a.snapshot) (limits : b.file_system.limits ≡ a.file_system.limits) where
  shown-still : IsSnapshotOf (journal_of b).start (journal_of b).place b.snapshot
  shown-still = subst (λ (p : Limits × Snapshot). IsSnapshotOf (tree_of p.0 p.1) p.1.place p.1) (λ i. (sym limits i, sym snapshot i)) is.shown

  -- the same journal, and another file system with the same tree
  pub IsKept-same : b.journal.items ≡ a.journal.items → tree_in b.file_system ≡ tree_in a.file_system → IsKept b
  IsKept-same items tree =
      let same : journal_of a ≡ journal_of b =
      λ i. record { start = tree_of (sym limits i) (sym snapshot i); place = (sym snapshot i).place; entries = sym items i } in
      record {
        shown = shown-still;
        past = subst (λ (s : Journaled). HasPast s.start s.place) same is.past;
        lawful = subst (λ (s : Journaled). IsLawfulFrom s.start s.entries) same is.lawful;
        stands = tree ∙ is.stands ∙ ap now same;
        numbered = subst IsNumbered (sym tree) is.numbered;
        waited = subst (λ (s : Journaled). WaitingAreEvents s.start.instances) same is.waited;
        read = subst (λ (s : Journaled). (id : ℕ) → AreEvents (read_in s.start s.entries id)) same is.read;
        spelled = subst (All (λ (e : Entry). IsSpelled e.reply)) (sym items) is.spelled;
        few = subst (λ (p : Limits × List Entry). length p.1 ≤ p.0.journal) (λ i. (sym limits i, sym items i)) is.few;
        small = subst (λ (s : Journaled). last_place s < 2 ^ 64) same is.small;
      }

  -- one entry more, and the tree after its call
  pub IsKept-more : (e : Entry) → b.journal.items ≡ a.journal.items ++ e ∷ []
      → length a.journal.items < a.file_system.limits.journal → last_place (journal_of a) + 1 < 2 ^ 64
      → e.reply ≡ reply_of (tree_in a.file_system) e.call → tree_in b.file_system ≡ after (tree_in a.file_system) e.call
      → IsNumbered (tree_in b.file_system) → WaitingAreEvents a.file_system.instances → IsKept b
  unfolding now
  IsKept-more e items room small reply leads numbered waits =
      let same : with_entry (journal_of a) e ≡ journal_of b =
      λ i. record { start = tree_of (sym limits i) (sym snapshot i); place = (sym snapshot i).place; entries = sym items i } in
      let more : length (a.journal.items ++ e ∷ []) ≡ length a.journal.items + 1 = length-append a.journal.items (e ∷ []) in
      let t = now (journal_of a) in
      let more-read : (id : ℕ) → AreEvents (read_in (journal_of a).start (a.journal.items ++ e ∷ []) id) =
      λ id. read-more (journal_of a).start a.journal.items e id (is.read id)
      (read-events t (events-of-file_system t a.file_system is.stands waits) e.call id) in
      let own : IsSpelled e.reply = subst IsSpelled (sym reply) (reply-spelled (tree_in a.file_system) waits e.call) in
      let more-spelled : All (λ (f : Entry). IsSpelled f.reply) (a.journal.items ++ e ∷ []) =
      All-push (λ (f : Entry). IsSpelled f.reply) a.journal.items e is.spelled own in
      record {
        shown = shown-still;
        past = subst (λ (s : Journaled). HasPast s.start s.place) same is.past;
        lawful =
            subst (λ (s : Journaled). IsLawfulFrom s.start s.entries) same
            (lawful-entry (journal_of a) e is.lawful (reply ∙ ap (λ (u : Tree). reply_of u e.call) is.stands));
        stands = leads ∙ ap (λ (u : Tree). after u e.call) is.stands ∙ sym (now-entry (journal_of a) e) ∙ ap now same;
        numbered = numbered;
        waited = subst (λ (s : Journaled). WaitingAreEvents s.start.instances) same is.waited;
        read = subst (λ (s : Journaled). (id : ℕ) → AreEvents (read_in s.start s.entries id)) same more-read;
        spelled = subst (All (λ (f : Entry). IsSpelled f.reply)) (sym items) more-spelled;
        few = subst (λ (p : Limits × List Entry). length p.1 ≤ p.0.journal) (λ i. (sym limits i, sym items i)) (omega (arith, more, room));
        small = subst (λ (s : Journaled). last_place s < 2 ^ 64) same (omega (arith, more, small));
      }

-- a snapshot of the same tree
pub shown-of : {t u : Tree} {place : ℕ} {s : Snapshot} → t ≡ u → IsSnapshotOf t place s → IsSnapshotOf u place s
shown-of {t} {u} {place} {s} same shown = subst (λ (x : Tree). IsSnapshotOf x place s) same shown

-- a cut, or a fork: the same tree, its snapshot, and no entry
pub IsKept-cut : TreesAreSound → (a b : Inside) → IsKept a → tree_in b.file_system ≡ tree_in a.file_system → b.journal.items ≡ [] → (place : ℕ)
    → place ≡ last_place (journal_of a) → IsSnapshotOf (now (journal_of a)) place b.snapshot
    → WaitingAreEvents a.file_system.instances → (journal_of b ≡ cut_off (journal_of a)) × IsKept b
IsKept-cut sound a b is tree none place at given waits =
    let s = journal_of a in
    let shows : IsSnapshotOf (now s) (last_place s) b.snapshot = subst (λ p. IsSnapshotOf (now s) p b.snapshot) at given in
    let whole = pasts-make-whole sound s is.past.0 is.past.1 is.lawful in
    let limits : (now s).limits ≡ b.file_system.limits = limits-now s ∙ sym (ap (λ (t : Tree). t.limits) tree) in
    let told : tree_of b.file_system.limits b.snapshot ≡ now s =
    ap (λ l. tree_of l b.snapshot) (sym limits) ∙ tree_of-snapshot (now s) (last_place s) b.snapshot (sound-now sound s whole.sound) shows in
    let same : journal_of b ≡ cut_off s = λ i. record { start = told i; place = shows.last_place i; entries = none i } in (
      same,
      record {
        shown = subst (λ (j : Journaled). IsSnapshotOf j.start j.place b.snapshot) (sym same) shows;
        past = subst (λ (j : Journaled). HasPast j.start j.place) (sym same) (HasPast-cut sound s is.past is.lawful);
        lawful = subst (λ (j : Journaled). IsLawfulFrom j.start j.entries) (sym same) tt;
        stands = tree ∙ is.stands ∙ now-cut s ∙ ap now (sym same);
        numbered = subst IsNumbered (sym tree) is.numbered;
        waited = subst (λ (j : Journaled). WaitingAreEvents j.start.instances) (sym same) (events-of-file_system (now s) a.file_system is.stands waits);
        read = subst (λ (j : Journaled). (id : ℕ) → AreEvents (read_in j.start j.entries id)) (sym same) (λ id. tt);
        spelled = subst (All (λ (e : Entry). IsSpelled e.reply)) (sym none) (All-nil (λ (e : Entry). IsSpelled e.reply));
        few = let least = b.file_system.limits.journal_in.0 in omega (arith, ap length none);
        small = subst (λ (j : Journaled). last_place j < 2 ^ 64) (sym same) (let h = is.small in omega arith);
      },
    )

-- a new state: the snapshot of the opening tree, and no entry
pub IsKept-new : TreesAreSound → (limits : Limits) (b : Inside) → tree_in b.file_system ≡ opening limits → IsNumbered (tree_in b.file_system)
    → b.journal.items ≡ [] → IsSnapshotOf (opening limits) 0 b.snapshot → WaitingAreEvents b.file_system.instances → (journal_of b ≡ opened limits) × IsKept b
IsKept-new sound limits b file_system numbered none shows waits =
    let same_limits : b.file_system.limits ≡ (opening limits).limits = ap (λ (t : Tree). t.limits) file_system in
    let told : tree_of b.file_system.limits b.snapshot ≡ opening limits =
    ap (λ l. tree_of l b.snapshot) same_limits ∙ tree_of-snapshot (opening limits) 0 b.snapshot (sound.opened limits) shows in
    let same : journal_of b ≡ opened limits = λ i. record { start = told i; place = shows.last_place i; entries = none i } in (
      same,
      record {
        shown = subst (λ (j : Journaled). IsSnapshotOf j.start j.place b.snapshot) (sym same) shows;
        past = subst (λ (j : Journaled). HasPast j.start j.place) (sym same) (HasPast-opening limits);
        lawful = subst (λ (j : Journaled). IsLawfulFrom j.start j.entries) (sym same) tt;
        stands = file_system ∙ now-opened limits ∙ ap now (sym same);
        numbered = numbered;
        waited =
            subst (λ (j : Journaled). WaitingAreEvents j.start.instances) (sym same) (events-of-file_system (opening limits) b.file_system file_system waits);
        read = subst (λ (j : Journaled). (id : ℕ) → AreEvents (read_in j.start j.entries id)) (sym same) (λ id. tt);
        spelled = subst (All (λ (e : Entry). IsSpelled e.reply)) (sym none) (All-nil (λ (e : Entry). IsSpelled e.reply));
        few = let least = b.file_system.limits.journal_in.0 in omega (arith, ap length none);
        small = subst (λ (j : Journaled). last_place j < 2 ^ 64) (sym same) (omega arith);
      },
    )
