-- The lines of an entry's text.
use Rattle.std.proofs.Common.{All, ◌≡◌, ◌==◌, ℕ, zero, suc, Bool, true, false, cond, List, [], ◌∷◌, ◌++◌, Ok, map, refl, ap, ◌∙◌, arith}
use Rattle.std.proofs.Common.{append_assoc}
use Rattle.std.specs.Prelude.{codes}
use Rattle.std.specs.List.{flat_map, onto_first}
use Rattle.std.proofs.lemmas.List.Elements.{All-cons, All-filter}
use Rattle.std.proofs.lemmas.List.Splits.{slice_split_at}
use Rattle.tree_paths.specs.Pieces.{is_nonempty, pieces, runs}
use Rattle.watchtree_script.specs.declared.line.Line.TheVariants.{Silent}
use Rattle.watchtree_script.specs.CallLines.{call_line, call_text, commented}
use Rattle.watchtree_script.specs.Commands.{line_of}
use Rattle.watchtree_script.specs.Laws.{EntriesAreReadBack}
use Rattle.watchtree_script.specs.Lines.{lines_of}
use Rattle.watchtree_script.proofs.ReadBack.{PathnamesAreParsed, calls_are_read_back}

-- a text without a line feed
abbrev IsOneLine : List ℕ → Type 0
IsOneLine line = All (λ b. (b == 10) ≡ false) line

none : IsOneLine []
none k d lt = absurd (omega (arith, lt))

no_lines : All IsOneLine []
no_lines k d lt = absurd (omega (arith, lt))

onto : (b : ℕ) (lines : List (List ℕ)) → (b == 10) ≡ false → All IsOneLine lines → All IsOneLine (onto_first b lines)
onto b [] off h = All-cons IsOneLine (b ∷ []) [] (All-cons (λ b. (b == 10) ≡ false) b [] off none) no_lines
onto b (line ∷ lines) off h =
    All-cons IsOneLine (b ∷ line) lines (All-cons (λ b. (b == 10) ≡ false) b line off (h zero [] (omega arith)))
    (λ k d lt. h (suc k) d (omega (arith, lt)))

-- no piece between line feeds has one
pieces-one : (bytes : List ℕ) → All IsOneLine (pieces 10 bytes)
pieces-one [] = All-cons IsOneLine [] [] none no_lines
pieces-one (b ∷ bytes) = by (b == 10) refl (pieces-one bytes)
  where
    by : (t : Bool) → (b == 10) ≡ t → All IsOneLine (pieces 10 bytes)
        → All IsOneLine (cond t ([] ∷ pieces 10 bytes) (onto_first b (pieces 10 bytes)))
    by true e h = All-cons IsOneLine [] (pieces 10 bytes) none h
    by false e h = onto b (pieces 10 bytes) e h

-- a line as a comment
abbrev comment_of : List ℕ → List ℕ
comment_of line = codes "# " ++ line

comment-one : (line : List ℕ) → IsOneLine line → IsOneLine (comment_of line)
comment-one line h =
    All-cons (λ b. (b == 10) ≡ false) 35 (32 ∷ line) refl (All-cons (λ b. (b == 10) ≡ false) 32 line refl h)

comments-lines : (lines : List (List ℕ)) (script : List ℕ) → All IsOneLine lines
    → lines_of (flat_map (λ line. codes "# " ++ line ++ codes "\n") lines ++ script) ≡ map comment_of lines ++ lines_of script
comments-lines [] script h = refl
comments-lines (line ∷ lines) script h =
    let rest : List ℕ = flat_map (λ line. codes "# " ++ line ++ codes "\n") lines in
    ap (λ (t : List ℕ). lines_of (35 ∷ 32 ∷ t)) (append_assoc (line ++ 10 ∷ []) rest script ∙ append_assoc line (10 ∷ []) (rest ++ script))
    ∙ slice_split_at (λ b. b == 10) (comment_of line) 10 (rest ++ script) (comment-one line (h zero [] (omega arith))) refl
    ∙ ap (λ (t : List (List ℕ)). comment_of line ∷ t) (comments-lines lines script (λ k d lt. h (suc k) d (omega (arith, lt))))

comment-silent : (queue : ℕ) (line : List ℕ) → line_of queue (comment_of line) ≡ Ok Silent
unfolding line_of
comment-silent queue line = refl

comments-silent : (queue : ℕ) (lines : List (List ℕ)) → All (λ line. line_of queue line ≡ Ok Silent) (map comment_of lines)
comments-silent queue [] = λ k d lt. absurd (omega (arith, lt))
comments-silent queue (line ∷ lines) =
    All-cons (λ line. line_of queue line ≡ Ok Silent) (comment_of line) (map comment_of lines) (comment-silent queue line) (comments-silent queue lines)

pub entries_are_read_back : PathnamesAreParsed → EntriesAreReadBack
entries_are_read_back law queue script entry text h (reply, is, e) =
    let lines : List (List ℕ) = runs 10 reply in
    let one = All-filter is_nonempty IsOneLine (pieces 10 reply) (pieces-one reply) in
    let back = calls_are_read_back law queue (commented reply ++ script) entry.call h in (
      map comment_of lines,
      ap (λ (t : List ℕ). lines_of (t ++ script)) e
          ∙ ap lines_of (append_assoc (call_line entry.call) (commented reply) script)
          ∙ back.0
          ∙ ap (λ (t : List (List ℕ)). call_text entry.call ∷ t) (comments-lines lines script one),
      back.1,
      comments-silent queue lines,
    )
