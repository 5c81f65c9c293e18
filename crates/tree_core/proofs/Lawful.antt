-- Lawful journals: their parts, one entry more, what they stand for, and what waits in it.
use Rattle.std.proofs.Common.{◌≡◌, ℕ, ◌+◌, List, [], ◌∷◌, ◌++◌, length, map, Option, Some, None, option_map, refl, sym, ap, subst, ◌∙◌}
use Rattle.std.proofs.Common.{arith, length-append}
use Rattle.std.proofs.lemmas.List.{length-map}
use Rattle.tree_paths.specs.declared.limits.Limits.{Limits}
use Rattle.tree_paths.specs.declared.refusal.Refusal.{Refusal}
use Rattle.instance_table.specs.declared.instance.Instance.{Instance}
use Rattle.instance_table.specs.Instances.{instance_of}
use Rattle.tree_core.specs.declared.call.Call.{Call}
use Rattle.tree_core.specs.declared.call.Call.TheVariants as call
use Rattle.tree_core.specs.declared.reply.Entry.{Entry}
use Rattle.tree_core.specs.declared.file_system.FileSystem.{FileSystem}
use Rattle.tree_core.specs.CutLaws.{AreAlike, GoesOn, IsWhole}
use Rattle.tree_core.specs.Journal.{Journaled, HasPast, IsLawfulFrom, IsLawful, IsPast, cut_off, last_place, now}
use Rattle.tree_core.specs.Journal.{opened, stands_for, tree_after, waiting_in, with_entry}
use Rattle.tree_core.specs.FileSystems.{tree_in}
use Rattle.tree_core.specs.Sound.{IsSoundTree}
use Rattle.tree_core.specs.Tree.{Tree, opening, refusal_of, reply_of, accepted, after, after_file}
use Rattle.tree_core.specs.TurnLaws.{TreesAreSound}
use Rattle.tree_core.proofs.Parts.{tree_by}

-- ---- two parts

pub tree_after-append : (t : Tree) (es fs : List Entry) → tree_after t (es ++ fs) ≡ tree_after (tree_after t es) fs
tree_after-append t [] fs = refl
tree_after-append t (e ∷ es) fs = tree_after-append (after t e.call) es fs

pub lawful-front : (t : Tree) (es fs : List Entry) → IsLawfulFrom t (es ++ fs) → IsLawfulFrom t es
lawful-front t [] fs h = tt
lawful-front t (e ∷ es) fs h = (h.0, lawful-front (after t e.call) es fs h.1)

pub lawful-rest : (t : Tree) (es fs : List Entry) → IsLawfulFrom t (es ++ fs) → IsLawfulFrom (tree_after t es) fs
lawful-rest t [] fs h = h
lawful-rest t (e ∷ es) fs h = lawful-rest (after t e.call) es fs h.1

pub lawful-join : (t : Tree) (es fs : List Entry) → IsLawfulFrom t es → IsLawfulFrom (tree_after t es) fs → IsLawfulFrom t (es ++ fs)
lawful-join t [] fs h g = g
lawful-join t (e ∷ es) fs h g = (h.0, lawful-join (after t e.call) es fs h.1 g)

-- ---- one entry more

pub now-entry : (s : Journaled) (e : Entry) → now (with_entry s e) ≡ after (now s) e.call
unfolding now
now-entry s e = tree_after-append s.start s.entries (e ∷ [])

pub lawful-entry : (s : Journaled) (e : Entry) → IsLawfulFrom s.start s.entries → e.reply ≡ reply_of (now s) e.call → IsLawfulFrom s.start (s.entries ++ e ∷ [])
unfolding now
lawful-entry s e h r = lawful-join s.start s.entries (e ∷ []) h (r, tt)

pub limits-opening : (limits : Limits) → (opening limits).limits ≡ limits
unfolding opening
limits-opening limits = refl

-- ---- a tree keeps its limits

limits-accepted : (t : Tree) (c : Call) → (accepted t c).limits ≡ t.limits
unfolding after_file
limits-accepted t (call.File f) = refl
limits-accepted t (call.Init limit is_piped) = refl
limits-accepted t (call.AddWatch id p mask) = refl
limits-accepted t (call.RmWatch id wd) = refl
limits-accepted t (call.Read id bytes) = refl
limits-accepted t (call.Pump id bytes) = refl
limits-accepted t (call.Close id) = refl

limits-by : (t : Tree) (c : Call) (o : Option Refusal) → (tree_by o t (accepted t c)).limits ≡ t.limits
limits-by t c None = limits-accepted t c
limits-by t c (Some r) = refl

pub limits-tree_after : (t : Tree) (es : List Entry) → (tree_after t es).limits ≡ t.limits
limits-tree_after t [] = refl
limits-tree_after t (e ∷ es) = limits-tree_after (after t e.call) es ∙ limits-by t e.call (refusal_of t e.call)

-- ---- cuts

pub cuts-keep-answers : TreesAreSound → (limits : Limits) (front rest : List Entry) → IsLawful limits (front ++ rest)
    → GoesOn limits front rest (stands_for limits front)
unfolding IsLawful stands_for
cuts-keep-answers sound limits front rest lawful = record {
  sound = sound.stay (opening limits) front (sound.opened limits);
  lawful = lawful-front (opening limits) front rest lawful;
  goes_on = lawful-rest (opening limits) front rest lawful;
  leads = sym (tree_after-append (opening limits) front rest);
}

-- a state's tree, and each before it, is one that a journal leads to from the opening
pub pasts-make-whole : TreesAreSound → (s : Journaled) (past : List Entry) → IsPast s.start s.place past → IsLawfulFrom s.start s.entries → IsWhole s past
unfolding IsLawful stands_for now
pasts-make-whole sound s past is lawful =
    let limits = s.start.limits in
    record {
      lawful = lawful-join (opening limits) past s.entries is.lawful (subst (λ t. IsLawfulFrom t s.entries) (sym is.leads) lawful);
      leads = tree_after-append (opening limits) past s.entries ∙ ap (λ t. tree_after t s.entries) is.leads;
      places = length-append past s.entries ∙ ap (λ (n : ℕ). n + length s.entries) is.places;
      sound = subst IsSoundTree is.leads (sound.stay (opening limits) past (sound.opened limits));
    }

pub limits-now : (s : Journaled) → (now s).limits ≡ s.start.limits
unfolding now
limits-now s = limits-tree_after s.start s.entries

pub sound-now : TreesAreSound → (s : Journaled) → IsSoundTree s.start → IsSoundTree (now s)
unfolding now
sound-now sound s is = sound.stay s.start s.entries is

-- a cut leaves the tree as it is
pub now-cut : (s : Journaled) → now s ≡ now (cut_off s)
unfolding now
now-cut s = refl

pub now-opened : (limits : Limits) → opening limits ≡ now (opened limits)
unfolding now
now-opened limits = refl

-- a call keeps the limits
pub limits-executed : (m n : FileSystem) (c : Call) → tree_in n ≡ after (tree_in m) c → n.limits ≡ m.limits
limits-executed m n c leads = ap (λ (t : Tree). t.limits) leads ∙ limits-by (tree_in m) c (refusal_of (tree_in m) c)

-- the past of a state that is cut has the entries that were cut off
pub HasPast-cut : TreesAreSound → (s : Journaled) → HasPast s.start s.place → IsLawfulFrom s.start s.entries → HasPast (now s) (last_place s)
unfolding now
HasPast-cut sound s has lawful =
    let whole = pasts-make-whole sound s has.0 has.1 lawful in
    let limits : (now s).limits ≡ s.start.limits = limits-tree_after s.start s.entries in (
      has.0 ++ s.entries,
      record {
        lawful = subst (λ l. IsLawful l (has.0 ++ s.entries)) (sym limits) whole.lawful;
        places = whole.places;
        leads = ap (λ l. stands_for l (has.0 ++ s.entries)) limits ∙ whole.leads;
      },
    )

pub HasPast-opening : (limits : Limits) → HasPast (opening limits) 0
unfolding IsLawful stands_for opening
HasPast-opening limits = ([], record { lawful = tt; places = refl; leads = refl })

-- ---- forks

-- the same calls from one tree have the same lawful replies, and lead to the same tree
alike-from : (t : Tree) (es fs : List Entry) → map (λ (e : Entry). e.call) es ≡ map (λ (e : Entry). e.call) fs → IsLawfulFrom t es → IsLawfulFrom t fs
    → (map (λ (e : Entry). e.reply) es ≡ map (λ (e : Entry). e.reply) fs) × (tree_after t es ≡ tree_after t fs)
alike-from t [] [] same h g = (refl, refl)
alike-from t [] (f ∷ fs) same h g = absurd (cc)
alike-from t (e ∷ es) [] same h g = absurd (cc)
alike-from t (e ∷ es) (f ∷ fs) same h g =
    let call : e.call ≡ f.call = cc in
    let later : IsLawfulFrom (after t e.call) fs = subst (λ (c : Call). IsLawfulFrom (after t c) fs) (sym call) g.1 in
    let calls : map (λ (e : Entry). e.call) es ≡ map (λ (e : Entry). e.call) fs = cc in
    let rest = alike-from (after t e.call) es fs calls h.1 later in
    let reply : e.reply ≡ f.reply = h.0 ∙ ap (reply_of t) call ∙ sym g.0 in (
      λ i. reply i ∷ rest.0 i,
      rest.1 ∙ ap (λ (c : Call). tree_after (after t c) fs) call,
    )

same-length : (es fs : List Entry) → map (λ (e : Entry). e.call) es ≡ map (λ (e : Entry). e.call) fs → length es ≡ length fs
same-length es fs same = sym (length-map es (λ (e : Entry). e.call)) ∙ ap length same ∙ length-map fs (λ (e : Entry). e.call)

-- a state and its fork answer the same calls alike
pub forks-answer-alike : (s : Journaled) (es fs : List Entry) → map (λ (e : Entry). e.call) es ≡ map (λ (e : Entry). e.call) fs
    → IsLawfulFrom s.start (s.entries ++ es) → IsLawfulFrom (now s) fs → AreAlike s es fs
unfolding now
forks-answer-alike s es fs same ours theirs =
    let alike = alike-from (now s) es fs same (lawful-rest s.start s.entries es ours) theirs in
    record {
      replies = alike.0;
      trees = tree_after-append s.start s.entries es ∙ alike.1;
      places = let both = length-append s.entries es in let each = same-length es fs same in omega (arith, both, each);
    }

-- ---- what waits

-- what waits, by the open instance of a file system
pub waiting_in-file_system : (t : Tree) (m : FileSystem) (id : ℕ) (o : Option Instance) → tree_in m ≡ t
    → o ≡ instance_of m.instances id → option_map (λ (i : Instance). length i.queue.waiting) o ≡ waiting_in t id
unfolding waiting_in
waiting_in-file_system t m id o is there = ap (option_map (λ (i : Instance). length i.queue.waiting)) (there ∙ ap (λ (x : Tree). instance_of x.instances id) is)
