-- The journals of printed texts are lawful, and texts are one.
use Rattle.std.proofs.Common.{◌≡◌, ℕ, List, [], ◌∷◌, Result, Ok, Err, ◌++◌, ◌∙◌, ap, sym, subst, inl, inr}
use Rattle.std.specs.List.{flat_map}
use Rattle.std.specs.Prelude.{length, decimal}
use Rattle.record_codec.specs.declared.event.Event.{Event}
use Rattle.record_codec.proofs.DecodeLemmas.{one_spelling}
use Rattle.tree_paths.specs.Bounds.{full}
use Rattle.tree_core.specs.Journal.{Journaled, HasPast, IsLawfulFrom, with_entry}
use Rattle.tree_core.specs.TurnLaws.{TreesAreSound}
use Rattle.tree_core.proofs.Lawful.{HasPast-cut, HasPast-opening, lawful-entry}
use Rattle.tree_core.specs.declared.call.Call.{Call}
use Rattle.tree_core.specs.declared.reply.Reply.{Reply}
use Rattle.tree_core.specs.declared.reply.Reply.TheVariants as replies
use Rattle.watchtree_script.specs.declared.line.Line.{Line}
use Rattle.watchtree_script.specs.declared.line.Line.TheVariants.{Silent, Cut, Run}
use Rattle.watchtree_script.specs.declared.line.LineError.{LineError}
use Rattle.watchtree_script.specs.declared.line.LineError.TheVariants.{Fault, Refused, PathMemory, Memory}
use Rattle.watchtree_script.specs.declared.line.OutputFormat.{OutputFormat}
use Rattle.watchtree_script.specs.declared.line.OutputFormat.TheVariants as format
use Rattle.watchtree_script.specs.Replies.{AreEventsIn, IsReadText, IsReplyText, event_line, ok_line}
use Rattle.watchtree_script.specs.Commands.{line_of}
use Rattle.watchtree_script.specs.Script.{caller, Prints, PrintsLine, RepliesToLine, Cuts, PrintsLineBy, PrintsBy, AmpleReplies, AmpleCuts}
use Rattle.watchtree_script.specs.Laws.{JournalsAreLawful, TextsAreOne}

-- a state as a script leaves it: its entries are lawful, and so are those that were cut off
abbrev IsLawfulState : Journaled → Type 0
IsLawfulState s = IsLawfulFrom s.start s.entries × HasPast s.start s.place

reply-lawful : (old : Journaled) (call : Call) (reply : Reply) (new : Journaled) → IsLawfulState old → RepliesToLine old call reply new → IsLawfulState new
reply-lawful old call reply new h (inl (inl (inl answered))) =
    subst IsLawfulState (sym answered.entry) (lawful-entry old (record { caller = caller; call = call; reply = reply }) h.0 answered.answer, h.1)
reply-lawful old call reply new h (inl (inl (inr full))) = subst IsLawfulState (sym full.same) h
reply-lawful old call reply new h (inl (inr spent)) = subst IsLawfulState (sym spent.same) h
reply-lawful old call reply new h (inr lacking) = subst IsLawfulState (sym lacking.same) h

cut-lawful : TreesAreSound → (old : Journaled) (text : List ℕ) (new : Journaled) → IsLawfulState old → Cuts old text new → IsLawfulState new
cut-lawful sound old text new h (inl cut) = subst IsLawfulState (sym cut.1) (tt, HasPast-cut sound old h.1 h.0)
cut-lawful sound old text new h (inr spent) = subst IsLawfulState (sym spent.1) h

line-lawful : TreesAreSound → (old : Journaled) (asked : Result Line LineError) (text : List ℕ) (new : Journaled)
    → IsLawfulState old → PrintsLine old asked text new → IsLawfulState new
line-lawful sound old (Ok Silent) text new h printed = subst IsLawfulState (sym printed.1) h
line-lawful sound old (Ok Cut) text new h printed = cut-lawful sound old text new h printed
line-lawful sound old (Ok (Run call how)) text new h printed = reply-lawful old call printed.0 new h printed.1
line-lawful sound old (Err (Refused refusal)) text new h printed = subst IsLawfulState (sym printed.1) h
line-lawful sound old (Err (Fault fault)) text new h printed = absurd printed
line-lawful sound old (Err PathMemory) text new h printed = subst IsLawfulState (sym printed.1) h
line-lawful sound old (Err Memory) text new h printed = absurd printed

lines-lawful : TreesAreSound → (queue : ℕ) (old new : Journaled) (lines : List (List ℕ)) (text : List ℕ) → IsLawfulState old
    → Prints queue old lines text new → IsLawfulState new
lines-lawful sound queue old new [] text h printed = subst IsLawfulState (sym printed.1) h
lines-lawful sound queue old new (line ∷ lines) text h printed =
    lines-lawful sound queue printed.0 new lines printed.2 (line-lawful sound old (line_of queue line) printed.1 printed.0 h printed.3) printed.4

pub journals_are_lawful : TreesAreSound → JournalsAreLawful
journals_are_lawful sound queue lines text journal printed = lines-lawful sound queue _ journal lines text (tt, HasPast-opening full) printed

reply-one : (old : Journaled) (call : Call) (reply other : Reply) (new after : Journaled) → AmpleReplies old call reply new → AmpleReplies old call other after
    → (reply ≡ other) × (new ≡ after)
reply-one old call reply other new after (inl a) (inl b) =
    let same = a.answer ∙ sym b.answer in
    let E : Reply → Journaled = λ r. with_entry old (record { caller = caller; call = call; reply = r }) in
    (same, a.entry ∙ ap E same ∙ sym b.entry)
reply-one old call reply other new after (inl a) (inr b) = absurd (a.room b.full)
reply-one old call reply other new after (inr a) (inl b) = absurd (b.room a.full)
reply-one old call reply other new after (inr a) (inr b) = (a.answer ∙ sym b.answer, a.same ∙ sym b.same)

-- bytes are the records of one list of events alone
events-one : (bytes : List ℕ) (es ns : List Event) → AreEventsIn bytes es → AreEventsIn bytes ns → es ≡ ns
events-one bytes es ns a b = sym (one_spelling es ns a.0 b.0 (sym b.1 ∙ a.1))

read-one : (how : OutputFormat) (bytes text other : List ℕ) → IsReadText how bytes text → IsReadText how bytes other → text ≡ other
read-one format.Plain bytes text other p q = p ∙ sym q
read-one format.Records bytes text other p q =
    let T : List Event → List ℕ = λ events. ok_line (decimal (length bytes)) ++ flat_map event_line events in
    p.2 ∙ ap T (events-one bytes p.0 q.0 p.1 q.1) ∙ sym q.2
read-one format.Hexadecimal bytes text other p q = p ∙ sym q

text-one : (how : OutputFormat) (reply : Reply) (text other : List ℕ) → IsReplyText how reply text → IsReplyText how reply other → text ≡ other
text-one how (replies.File answer) text other p q = p ∙ sym q
text-one how (replies.Instance id) text other p q = p ∙ sym q
text-one how (replies.Wd wd) text other p q = p ∙ sym q
text-one how (replies.Records bytes) text other p q = read-one how bytes text other p q
text-one how replies.Done text other p q = p ∙ sym q
text-one how (replies.Refused refusal) text other p q = p ∙ sym q

line-one : (old : Journaled) (asked : Result Line LineError) (text other : List ℕ) (new after : Journaled)
    → PrintsLineBy AmpleReplies AmpleCuts old asked text new → PrintsLineBy AmpleReplies AmpleCuts old asked other after → (text ≡ other) × (new ≡ after)
line-one old (Ok Silent) text other new after p q = (p.0 ∙ sym q.0, p.1 ∙ sym q.1)
line-one old (Ok Cut) text other new after p q = (p.0 ∙ sym q.0, p.1 ∙ sym q.1)
line-one old (Ok (Run call how)) text other new after p q =
    let one = reply-one old call p.0 q.0 new after p.1 q.1 in
    let P : Reply → Type 0 = λ reply. IsReplyText how reply other in
    (text-one how p.0 text other p.2 (subst P (sym one.0) q.2), one.1)
line-one old (Err (Refused refusal)) text other new after p q = (p.0 ∙ sym q.0, p.1 ∙ sym q.1)
line-one old (Err (Fault fault)) text other new after p q = absurd p
line-one old (Err PathMemory) text other new after p q = (p.0 ∙ sym q.0, p.1 ∙ sym q.1)
line-one old (Err Memory) text other new after p q = absurd p

pub texts_are_one : TextsAreOne
texts_are_one queue old [] text other new after p q = (p.0 ∙ sym q.0, p.1 ∙ sym q.1)
texts_are_one queue old (line ∷ lines) text other new after p q =
    let here = line-one old (line_of queue line) p.1 q.1 p.0 q.0 p.3 q.3 in
    let P : Journaled → Type 0 = λ mid. PrintsBy AmpleReplies AmpleCuts queue mid lines q.2 after in
    let rest = texts_are_one queue p.0 lines p.2 q.2 new after p.4 (subst P (sym here.1) q.4) in
    (p.5 ∙ ap (λ (t : List ℕ). t ++ p.2) here.0 ∙ ap (λ (t : List ℕ). q.1 ++ t) rest.0 ∙ sym q.5, rest.1)
