-- What notices raise is tied as they are.
use Rattle.std.proofs.Common.{◌≡◌, Bool, true, false, if◌then◌else◌, List, [], ◌∷◌, ◌++◌, Option, Some, None, refl, sym, ap, ◌∙◌, subst}
use Rattle.std.specs.Prelude.{All}
use Rattle.std.proofs.lemmas.List.{map-append}
use Rattle.std.proofs.lemmas.List.Elements.{All-nil, All-cons, All-head, All-tail}
use Rattle.record_codec.specs.declared.event.Event.{Event}
use Rattle.watch_table.specs.declared.watch.Watch.{Watch}
use Rattle.watch_table.specs.Watching.{Watching, watch_of}
use Rattle.event_rules.specs.declared.notice.Notice.{Notice}
use Rattle.event_rules.specs.declared.notice.Notice.TheVariants.{Told, Gone}
use Rattle.event_rules.specs.Raised.{asks_for, ends_watch, event_told, events_of, ignored, left, raised_at, told_number, where_ended}
use Rattle.event_rules.proofs.Removals.{raised}
use Rattle.event_rules.specs.Laws.{AreTied, Mark, marks_of, marks_told, moves_in}
use Rattle.event_rules.proofs.Moves.{IsTied, among-itself, among-trans, marks_told-append, moves_in-append, tied-append}

abbrev mark : Event → Mark
mark e = (e.mask, e.cookie)

marks_of-append : (es fs : List Event) → marks_of (es ++ fs) ≡ marks_of es ++ marks_of fs
marks_of-append es fs = map-append mark es fs

-- all moves of these marks come after one another
abbrev Keeps : List Mark → List Event → Type 0
Keeps ms es = AreTied (moves_in ms) (marks_of es)

itself-tied : (ms : List Mark) → All IsTied ms → AreTied (moves_in ms) ms
itself-tied ms h = record { among = among-itself (moves_in ms); others = h }

nothing-tied : (moves : List Mark) → AreTied moves []
nothing-tied moves = record { among = tt; others = All-nil IsTied }

-- the event that a watch has ended is that of no move
end-tied : (b : Bool) (watch : Watch) → AreTied [] (marks_of (if b then ignored watch.wd ∷ [] else []))
end-tied true watch = record { among = tt; others = All-cons IsTied (mark (ignored watch.wd)) [] (λ _. refl) (All-nil IsTied) }
end-tied false watch = nothing-tied []

append-nothing : (xs : List Mark) → xs ++ [] ≡ xs
append-nothing [] = refl
append-nothing (x ∷ xs) = ap (λ (l : List Mark). x ∷ l) (append-nothing xs)

told-keeps : (n : Notice) (watch : Watch) → All IsTied (marks_told (n ∷ [])) → Keeps (marks_told (n ∷ [])) (event_told n watch)
told-keeps (Told number bits cookie name) watch h = by (asks_for watch bits)
  where
    by : (b : Bool) → Keeps ((bits, cookie) ∷ []) (if b then record { wd = watch.wd; mask = bits; cookie = cookie; name = name } ∷ [] else [])
    by true = itself-tied ((bits, cookie) ∷ []) h
    by false = nothing-tied (moves_in ((bits, cookie) ∷ []))
told-keeps (Gone number) watch h = nothing-tied []

keeps-by : (n : Notice) (o : Option Watch) → All IsTied (marks_told (n ∷ [])) → Keeps (marks_told (n ∷ [])) (raised_at n o)
keeps-by n None h = nothing-tied (moves_in (marks_told (n ∷ [])))
keeps-by n (Some watch) h =
    let told = event_told n watch in
    let end = where_ended n watch (ignored watch.wd ∷ []) in
    subst (λ l. AreTied l (marks_of (told ++ end))) (append-nothing (moves_in (marks_told (n ∷ []))))
    (subst (AreTied (moves_in (marks_told (n ∷ [])) ++ [])) (sym (marks_of-append told end))
    (tied-append (moves_in (marks_told (n ∷ []))) [] (marks_of told) (marks_of end) (told-keeps n watch h) (end-tied (ends_watch n watch) watch)))

keeps-one : (w : Watching) (n : Notice) → All IsTied (marks_told (n ∷ [])) → Keeps (marks_told (n ∷ [])) (raised w n)
keeps-one w n h = keeps-by n (watch_of w (told_number n)) h

All-first : (xs ys : List Mark) → All IsTied (xs ++ ys) → All IsTied xs
All-first [] ys h = All-nil IsTied
All-first (x ∷ xs) ys h = All-cons IsTied x xs (All-head IsTied x (xs ++ ys) h) (All-first xs ys (All-tail IsTied x (xs ++ ys) h))

All-second : (xs ys : List Mark) → All IsTied (xs ++ ys) → All IsTied ys
All-second [] ys h = h
All-second (x ∷ xs) ys h = All-second xs ys (All-tail IsTied x (xs ++ ys) h)

keeps : (w : Watching) (ns : List Notice) → All IsTied (marks_told ns) → Keeps (marks_told ns) (events_of w ns)
keeps w [] h = nothing-tied []
keeps w (n ∷ ns) h =
    let parts : marks_told (n ∷ ns) ≡ marks_told (n ∷ []) ++ marks_told ns = marks_told-append (n ∷ []) ns in
    let all = subst (All IsTied) parts h in
    let first = keeps-one w n (All-first (marks_told (n ∷ [])) (marks_told ns) all) in
    let rest = keeps (left w n) ns (All-second (marks_told (n ∷ [])) (marks_told ns) all) in
    let joined = tied-append (moves_in (marks_told (n ∷ []))) (moves_in (marks_told ns)) (marks_of (raised w n))
    (marks_of (events_of (left w n) ns)) first rest in
    subst (λ l. AreTied l (marks_of (raised w n ++ events_of (left w n) ns))) (sym (ap moves_in parts ∙ moves_in-append (marks_told (n ∷ [])) (marks_told ns)))
    (subst (AreTied (moves_in (marks_told (n ∷ [])) ++ moves_in (marks_told ns))) (sym (marks_of-append (raised w n) (events_of (left w n) ns))) joined)

pub raised-tied : (w : Watching) (ns : List Notice) (moves : List Mark) → AreTied moves (marks_told ns) → AreTied moves (marks_of (events_of w ns))
raised-tied w ns moves h =
    let kept = keeps w ns h.others in
    record { among = among-trans (moves_in (marks_of (events_of w ns))) (moves_in (marks_told ns)) moves kept.among h.among; others = kept.others }
