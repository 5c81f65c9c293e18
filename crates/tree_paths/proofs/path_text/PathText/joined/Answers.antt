use Rattle.std.proofs.Common.{◌≡◌, ◌++◌, ◌∷◌, [], List, ℕ, length, sym, ap, subst, ◌∙◌, append_assoc}
use Rattle.std.proofs.lemmas.List.{take_at}
use Rattle.tree_paths.specs.PathText.{IsSlashed}
use Rattle.tree_paths.specs.Paths.{names_of}
use Rattle.tree_paths.proofs.SlashedLemmas.{IsSlashed-more, names-more}
use Rattle.tree_paths.proofs.path_text.PathText.joined.Goals as goal

pub returns-then-len-gt-SHORT_MAX-clause-kept : goal.returns-then-len-gt-SHORT_MAX-clause-kept
returns-then-len-gt-SHORT_MAX-clause-kept c =
    let text = c.args.text.now in
    let name = c.args.name.now in
    let e : c.extend_from_slice-then-len-gt-SHORT_MAX.new.self.items ≡ text ++ 47 ∷ name =
    c.in_ok-extend_from_slice-2.ensures.items
    ∙ ap (λ (t : List ℕ). t ++ name)
    (c.in_ok-push.ensures.items
    ∙ ap (λ (t : List ℕ). t ++ 47 ∷ []) (c.in_ok-extend_from_slice.ensures.items ∙ ap (λ (t : List ℕ). t ++ text) c.in_ok-longer.ensures.items))
    ∙ append_assoc text (47 ∷ []) name in
    ap names_of e ∙ names-more text name c.requires.slashed c.requires.name c.requires.short

pub returns-then-len-gt-SHORT_MAX-clause-sound : goal.returns-then-len-gt-SHORT_MAX-clause-sound
returns-then-len-gt-SHORT_MAX-clause-sound c =
    let text = c.args.text.now in
    let name = c.args.name.now in
    let e : c.extend_from_slice-then-len-gt-SHORT_MAX.new.self.items ≡ text ++ 47 ∷ name =
    c.in_ok-extend_from_slice-2.ensures.items
    ∙ ap (λ (t : List ℕ). t ++ name)
    (c.in_ok-push.ensures.items
    ∙ ap (λ (t : List ℕ). t ++ 47 ∷ []) (c.in_ok-extend_from_slice.ensures.items ∙ ap (λ (t : List ℕ). t ++ text) c.in_ok-longer.ensures.items))
    ∙ append_assoc text (47 ∷ []) name in
    subst IsSlashed (sym e) (IsSlashed-more text name c.requires.slashed c.requires.name c.requires.short)

pub returns-clause-kept : goal.returns-clause-kept
returns-clause-kept c =
    let text = c.args.text.now in
    let name = c.args.name.now in
    let copied = c.copy_from_slice.ensures.after in
    ap names_of (c.put_name.ensures
    ∙ ap (λ (t : List ℕ). t ++ 47 ∷ name) (take_at c.copy_from_slice.new.self _ (length text) (ap (λ (t : List ℕ). length t) copied) ∙ copied))
    ∙ names-more text name c.requires.slashed c.requires.name c.requires.short

pub returns-clause-sound : goal.returns-clause-sound
returns-clause-sound c =
    let text = c.args.text.now in
    let name = c.args.name.now in
    let copied = c.copy_from_slice.ensures.after in
    let e =
    c.put_name.ensures
    ∙ ap (λ (t : List ℕ). t ++ 47 ∷ name) (take_at c.copy_from_slice.new.self _ (length text) (ap (λ (t : List ℕ). length t) copied) ∙ copied) in
    (c.if-len-gt-SHORT_MAX.false, subst IsSlashed (sym e) (IsSlashed-more text name c.requires.slashed c.requires.name c.requires.short))
