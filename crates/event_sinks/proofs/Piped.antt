-- The blank tracks of numbers.
use Rattle.std.proofs.Common.{◌≡◌, ◌≢◌, ℕ, ◌+◌, ◌<◌, Bool, true, cond, eqb, List, [], ◌∷◌, ◌++◌, length, take, get_or}
use Rattle.std.proofs.Common.{Option, Some, None, inl, inr, refl, sym, ap, ◌∙◌, subst}
use Rattle.std.specs.Prelude.{MatchOption}
use Rattle.std.proofs.lemmas.Bool.{cases_eq, eq-eqb, ne_eqb}
use Rattle.std.proofs.lemmas.List.{take_more}
use Rattle.shared_tree.specs.Pipes.{IsIn, Lacks}
use Rattle.event_sinks.specs.declared.served.Track.{Track}
use Rattle.event_sinks.specs.Tracks.{blank}

-- a number has a blank track where it is among these, and else none
abbrev pub IsBlank : List ℕ → ℕ → Option Track → Type 0
IsBlank pipes n o = MatchOption o (Lacks pipes n) (λ t. IsIn pipes n × (t ≡ blank true))

in_front : (ns : List ℕ) (x n : ℕ) → IsIn ns n → IsIn (ns ++ x ∷ []) n
in_front [] x n h = absurd h
in_front (k ∷ ns) x n (inl is) = inl is
in_front (k ∷ ns) x n (inr h) = inr (in_front ns x n h)

in_last : (ns : List ℕ) (n : ℕ) → IsIn (ns ++ n ∷ []) n
in_last [] n = inl refl
in_last (k ∷ ns) n = inr (in_last ns n)

lacks_both : (ns : List ℕ) (x n : ℕ) → Lacks ns n → n ≢ x → Lacks (ns ++ x ∷ []) n
lacks_both [] x n h off = (λ is. off (sym is), tt)
lacks_both (k ∷ ns) x n h off = (h.0, lacks_both ns x n h.1 off)

blank_other : (ns : List ℕ) (x n : ℕ) (o : Option Track) → n ≢ x → IsBlank ns n o → IsBlank (ns ++ x ∷ []) n o
blank_other ns x n None off h = lacks_both ns x n h off
blank_other ns x n (Some t) off h = (in_front ns x n h.0, h.1)

pub blank_more : (pipes : List ℕ) (i : ℕ) (t : Track) (old new : ℕ → Option Track) → i < length pipes → t ≡ blank true
    → ((n : ℕ) → new n ≡ cond (eqb n (get_or pipes i 0)) (Some t) (old n))
    → ((n : ℕ) → IsBlank (take i pipes) n (old n))
    → (n : ℕ) → IsBlank (take (i + 1) pipes) n (new n)
blank_more pipes i t old new within is put h n =
    let x : ℕ = get_or pipes i 0 in
    subst (λ (ns : List ℕ). IsBlank ns n (new n)) (sym (take_more pipes i 0 within)) (elim (cases_eq n x) [
      | inl here ↦
          let gets : new n ≡ Some t = put n ∙ ap (λ (b : Bool). cond b (Some t) (old n)) (eq-eqb n x here) in
          subst (IsBlank (take i pipes ++ x ∷ []) n) (sym gets) (subst (λ (k : ℕ). IsIn (take i pipes ++ k ∷ []) n) here (in_last (take i pipes) n), is)
      | inr off ↦
          let gets : new n ≡ old n = put n ∙ ap (λ (b : Bool). cond b (Some t) (old n)) (ne_eqb n x off) in
          subst (IsBlank (take i pipes ++ x ∷ []) n) (sym gets) (blank_other (take i pipes) x n (old n) off (h n))
    ])
