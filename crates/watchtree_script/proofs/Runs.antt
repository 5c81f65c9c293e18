-- Runs of lines, one line after another.
use Rattle.std.proofs.Common.{◌≡◌, ◌≤◌, ℕ, ◌+◌, List, [], ◌∷◌, ◌++◌, length, Option, Some, Result, Ok, Err, refl, sym}
use Rattle.std.proofs.Common.{ap, subst, ◌∙◌, arith, append_assoc, length-append, inl, inr}
use Rattle.std.specs.Prelude.{IfErr, OnOk, OnErr}
use Rattle.std.proofs.lemmas.List.{append-nil}
use Rattle.std.specs.Io.KnownBytes.{Appends}
use Rattle.tree_core.specs.Journal.{Journaled}
use Rattle.watchtree_script.specs.declared.fault.RunFault.{RunFault}
use Rattle.watchtree_script.specs.declared.fault.RunFault.TheVariants as faults
use Rattle.std.specs.Str.{byte}
use Rattle.watchtree_script.specs.Lines.{lines_of}
use Rattle.watchtree_script.specs.Commands.{line_of}
use Rattle.watchtree_script.specs.Script.{Prints, PrintsLine, IsText, IsTextFront, IsShort, script_max, read_faults, Adds, FaultTells, opening}
use Rattle.watchtree_script.specs.Running.{Passes, IsFrontWritten, LineTells, IsRunFault}
use Rattle.watchtree_script.proofs.Known.{Appends-nil, Appends-more}
use Rattle.watchtree_script.proofs.Pages.{front-all}
use Rattle.watchtree_script.proofs.PieceLemmas.{length-pieces-le}

-- some first lines of a script were run, and the others are left. What they print was written, but for what waits
pub record Progress (queue : ℕ) (script : List ℕ) (rest : List (List ℕ)) (number : ℕ) (journal : Journaled)
    (waiting : List ℕ) (old new : Option (List ℕ)) : Type 0 where
  pub front : List (List ℕ)
  pub lines : lines_of script ≡ front ++ rest
  pub count : number ≡ length front
  pub written : List ℕ
  pub prints : Prints queue opening front (written ++ waiting) journal
  pub added : Appends old new written

pub Prints-more : (queue : ℕ) (old mid new : Journaled) (lines : List (List ℕ)) (line text first : List ℕ)
    → Prints queue old lines text mid → PrintsLine mid (line_of queue line) first new → Prints queue old (lines ++ line ∷ []) (text ++ first) new
Prints-more queue old mid new [] line text first printed next =
    let P : Journaled → Type 0 = λ journal. PrintsLine journal (line_of queue line) first new in
    (new, first, [], subst P printed.1 next, (refl, refl), ap (λ (t : List ℕ). t ++ first) printed.0 ∙ sym (append-nil first))
Prints-more queue old mid new (l ∷ lines) line text first printed next = (
  printed.0,
  printed.1,
  printed.2 ++ first,
  printed.3,
  Prints-more queue printed.0 mid new lines line printed.2 first printed.4 next,
  ap (λ (t : List ℕ). t ++ first) printed.5 ∙ append_assoc printed.1 printed.2 first,
)

pub Progress-start : (queue : ℕ) (script : List ℕ) (lines : List (List ℕ)) (journal : Journaled) (waiting : List ℕ) (known : Option (List ℕ))
    → lines ≡ lines_of script → journal ≡ opening → waiting ≡ [] → Progress queue script lines 0 journal waiting known known
Progress-start queue script lines journal waiting known all start none = record {
  front = [];
  lines = sym all;
  count = refl;
  written = [];
  prints = (none, start);
  added = Appends-nil known;
}

-- the lines before and this one print what they printed before and what this one prints
Prints-next : (queue : ℕ) (line first : List ℕ) (left rest : List (List ℕ)) (script : List ℕ) (number : ℕ)
    (journal after : Journaled) (waiting : List ℕ) (old new : Option (List ℕ))
    → (p : Progress queue script left number journal waiting old new) → PrintsLine journal (line_of queue line) first after
    → Prints queue opening (p.front ++ line ∷ []) (p.written ++ (waiting ++ first)) after
Prints-next queue line first left rest script number journal after waiting old new p printed =
    let P : List ℕ → Type 0 = λ text. Prints queue opening (p.front ++ line ∷ []) text after in
    subst P (append_assoc p.written waiting first) (Prints-more queue opening journal after p.front line (p.written ++ waiting) first p.prints printed)

lines-next : (script line : List ℕ) (front left rest : List (List ℕ)) → left ≡ line ∷ rest → lines_of script ≡ front ++ left
    → lines_of script ≡ (front ++ line ∷ []) ++ rest
lines-next script line front left rest cut lines = lines ∙ ap (λ (t : List (List ℕ)). front ++ t) cut ∙ sym (append_assoc front (line ∷ []) rest)

pub Progress-next : (queue : ℕ) (script line first : List ℕ) (left rest : List (List ℕ)) (number : ℕ) (journal after : Journaled)
    (waiting later : List ℕ) (old mid new : Option (List ℕ))
    → left ≡ line ∷ rest → Progress queue script left number journal waiting old mid
    → PrintsLine journal (line_of queue line) first after → Passes waiting first later mid new
    → Progress queue script rest (number + 1) after later old new
Progress-next queue script line first left rest number journal after waiting later old mid new cut p printed passes =
    let P : List ℕ → Type 0 = λ text. Prints queue opening (p.front ++ line ∷ []) text after in
    let same : p.written ++ (waiting ++ first) ≡ (p.written ++ passes.written) ++ later =
    ap (λ (t : List ℕ). p.written ++ t) passes.parted ∙ sym (append_assoc p.written passes.written later) in
    record {
      front = p.front ++ line ∷ [];
      lines = lines-next script line p.front left rest cut p.lines;
      count = let h = p.count in omega (arith, length-append p.front (line ∷ []));
      written = p.written ++ passes.written;
      prints = subst P same (Prints-next queue line first left rest script number journal after waiting old mid p printed);
      added = Appends-more old mid new p.written passes.written p.added passes.added;
    }

-- no line's number is above the count of lines
pub Progress-count : (queue : ℕ) (script line : List ℕ) (left rest : List (List ℕ)) (number : ℕ) (journal : Journaled)
    (waiting : List ℕ) (old new : Option (List ℕ))
    → left ≡ line ∷ rest → Progress queue script left number journal waiting old new → IsShort script → number ≤ script_max
Progress-count queue script line left rest number journal waiting old new cut p short =
    let all = ap length p.lines in
    let some = ap length cut in
    let h = p.count in
    omega (arith, all, some, length-append p.front left, length-pieces-le (byte "\n") script)

-- all lines were run, and what waited is written
pub Progress-end : (queue : ℕ) (script : List ℕ) (left : List (List ℕ)) (number : ℕ) (journal : Journaled) (waiting : List ℕ) (old mid new : Option (List ℕ))
    → left ≡ [] → Progress queue script left number journal waiting old mid → IsShort script → Appends mid new waiting
    → Adds (IsText queue) (Some script) old new
Progress-end queue script left number journal waiting old mid new none p short added =
    let all : p.front ≡ lines_of script = sym (p.lines ∙ ap (λ (t : List (List ℕ)). p.front ++ t) none ∙ append-nil p.front) in
    let P : List (List ℕ) → Type 0 = λ lines. Prints queue opening lines (p.written ++ waiting) journal in (
      p.written ++ waiting,
      record { short = short; prints = record { journal = journal; prints = subst P all p.prints } },
      Appends-more old mid new p.written waiting p.added added,
    )

-- of the text of some first lines a front was written, and then more of it
text-front : (queue : ℕ) (script : List ℕ) (front back : List (List ℕ)) (before text : List ℕ) (journal : Journaled) (old mid new : Option (List ℕ))
    → IsShort script → lines_of script ≡ front ++ back → Prints queue opening front (before ++ text) journal
    → Appends old mid before → IsFrontWritten text mid new
    → Adds (IsTextFront queue) (Some script) old new
text-front queue script front back before text journal old mid new short lines prints added part =
    let P : List ℕ → Type 0 = λ t. Prints queue opening front t journal in
    let same : before ++ text ≡ (before ++ part.written) ++ part.more =
    ap (λ (t : List ℕ). before ++ t) part.parted ∙ sym (append_assoc before part.written part.more) in (
      before ++ part.written,
      record {
        short = short;
        front = front;
        back = back;
        lines = lines;
        more = part.more;
        prints = record { journal = journal; prints = subst P same prints };
      },
      Appends-more old mid new before part.written added part.added,
    )

-- the last write succeeds, or it fails
pub Progress-ok : (r : Result (Unit {0}) RunFault) (queue : ℕ) (script : List ℕ) (left : List (List ℕ)) (number : ℕ)
    (journal : Journaled) (waiting : List ℕ) (N : Type 0) (old mid new : Option (List ℕ))
    → left ≡ [] → Progress queue script left number journal waiting old mid → IsShort script
    → OnOk r (N × Appends mid new waiting) → OnOk r (Adds (IsText queue) (Some script) old new)
Progress-ok (Ok x) queue script left number journal waiting N old mid new none p short h =
    Progress-end queue script left number journal waiting old mid new none p short h.1
Progress-ok (Err e) queue script left number journal waiting N old mid new none p short h = tt

pub Progress-err : (r : Result (Unit {0}) RunFault) (queue : ℕ) (script : List ℕ) (left : List (List ℕ)) (number : ℕ)
    (journal : Journaled) (waiting : List ℕ) (old mid new : Option (List ℕ))
    → Progress queue script left number journal waiting old mid → IsShort script → IfErr r (λ fault. fault ≡ faults.Write)
    → OnErr r (IsFrontWritten waiting mid new)
    → IfErr r (λ fault. FaultTells queue fault (Some script) old new)
Progress-err (Ok x) queue script left number journal waiting old mid new p short kind h = tt
Progress-err (Err fault) queue script left number journal waiting old mid new p short kind h =
    let P : RunFault → Type 0 = λ f. FaultTells queue f (Some script) old new in
    subst P (sym kind) (text-front queue script p.front left p.written waiting journal old mid new short p.lines p.prints p.added h)

-- a line that is printed, where not all of it is written
pub LineTells-write : (r : Result (Unit {0}) RunFault) (queue number : ℕ) (journal after : Journaled)
    (line waiting printed : List ℕ) (old new : Option (List ℕ))
    → IfErr r (λ fault. fault ≡ faults.Write) → OnErr r (IsFrontWritten (waiting ++ printed) old new) → PrintsLine journal (line_of queue line) printed after
    → IfErr r (λ fault. LineTells queue number journal line fault waiting old new)
LineTells-write (Ok x) queue number journal after line waiting printed old new kind h prints = tt
LineTells-write (Err fault) queue number journal after line waiting printed old new kind h prints =
    let P : RunFault → Type 0 = λ f. LineTells queue number journal line f waiting old new in
    subst P (sym kind) (inr (printed, after, prints, h))

-- the run ends where a line is not passed on whole
pub Progress-fault : (queue : ℕ) (script line : List ℕ) (left rest : List (List ℕ)) (number : ℕ) (journal : Journaled)
    (waiting : List ℕ) (old mid new : Option (List ℕ)) (fault : RunFault)
    → left ≡ line ∷ rest → Progress queue script left number journal waiting old mid → IsShort script
    → LineTells queue (number + 1) journal line fault waiting mid new
    → FaultTells queue fault (Some script) old new
Progress-fault queue script line left rest number journal waiting old mid new (faults.Script n f) cut p short tells = (
  p.written ++ waiting,
  record {
    short = short;
    front = p.front;
    bad = line;
    back = rest;
    lines = p.lines ∙ ap (λ (t : List (List ℕ)). p.front ++ t) cut;
    number = tells.0 ∙ ap (λ k. k + 1) p.count;
    first_fault = tells.1;
    prints = record { journal = journal; prints = p.prints };
  },
  Appends-more old mid new p.written waiting p.added tells.2,
)
Progress-fault queue script line left rest number journal waiting old mid new faults.TooLong cut p short tells = absurd tells
Progress-fault queue script line left rest number journal waiting old mid new faults.Read cut p short tells = absurd tells
Progress-fault queue script line left rest number journal waiting old mid new faults.Write cut p short (inl part) =
    text-front queue script p.front left p.written waiting journal old mid new short p.lines p.prints p.added part
Progress-fault queue script line left rest number journal waiting old mid new faults.Write cut p short (inr tells) =
    text-front queue script (p.front ++ line ∷ []) rest p.written (waiting ++ tells.0) tells.1 old mid new short
    (lines-next script line p.front left rest cut p.lines)
    (Prints-next queue line tells.0 left rest script number journal tells.1 waiting old mid p tells.2) p.added tells.3
Progress-fault queue script line left rest number journal waiting old mid new faults.Memory cut p short tells =
    inr (text-front queue script p.front left p.written waiting journal old mid new short p.lines p.prints p.added (front-all waiting mid new tells))

-- no fault of a run counts as one of the reader
pub read_faults-run : {A : Type 0} (r : Result A RunFault) (n : ℕ) → IfErr r IsRunFault → read_faults r n ≡ n
read_faults-run (Ok x) n h = refl
read_faults-run (Err (faults.Script line f)) n h = refl
read_faults-run (Err faults.TooLong) n h = absurd h
read_faults-run (Err faults.Read) n h = absurd h
read_faults-run (Err faults.Write) n h = refl
read_faults-run (Err faults.Memory) n h = refl
