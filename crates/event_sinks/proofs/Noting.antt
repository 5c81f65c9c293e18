-- What is known of a number as listeners are noted.
use Rattle.std.proofs.Common.{◌≡◌, ◌≢◌, ℕ, ◌+◌, Bool, true, false, cond, eqb, List, [], ◌∷◌, ◌++◌, take, Option, Some}
use Rattle.std.proofs.Common.{None, inl, inr, refl, sym, ap, ◌∙◌, subst, append_assoc, append-nil}
use Rattle.std.specs.Prelude.{⊤, slice_get}
use Rattle.std.proofs.lemmas.Bool.{cases_eq, eq-eqb, ne_eqb}
use Rattle.std.proofs.lemmas.List.{take_more}
use Rattle.std.proofs.lemmas.Option.{get_or_from_slice_get, slice_get_within}
use Rattle.tree_core.specs.Histories.{if_same}
use Rattle.event_sinks.specs.declared.served.Track.{Track}
use Rattle.event_sinks.specs.Audited.{Outcome, of_instance}
use Rattle.event_sinks.specs.Tracks.{IsFirst, IsNoted, is_any, noted, noted_in, start}

-- nothing is compared yet
abbrev pub IsFresh : Option Track → Type 0
IsFresh None = ⊤
IsFresh (Some t) = t.progress ≡ start

fresh_in : (i : ℕ) (t : Track) (f : Option ℕ) → t.progress ≡ start → IsFresh (Some (noted_in i t f))
fresh_in i t None h = h
fresh_in i t (Some j) h = h

fresh_noted : (i : ℕ) (o : Option Track) → IsFresh o → IsFresh (Some (noted i o))
fresh_noted i None h = refl
fresh_noted i (Some t) h = fresh_in i t t.first h

pushed_any : (es : List Outcome) (e : Outcome) → es ++ e ∷ [] ≢ []
pushed_any [] e is = absurd (cc)
pushed_any (x ∷ es) e is = absurd (cc)

any_pushed : (es : List Outcome) (e : Outcome) → is_any (es ++ e ∷ []) ≡ true
any_pushed [] e = refl
any_pushed (x ∷ es) e = refl

-- ---- one more listener for a number

module _ (pipes : List ℕ) (es : List Outcome) (n i : ℕ) (e : Outcome) (at : slice_get es i ≡ Some e) where
  noted_some : (t : Track) (f : Option ℕ) (found : List Outcome) → t.first ≡ f → IsNoted pipes es found n (Some t)
      → IsNoted pipes es (found ++ e ∷ []) n (Some (noted_in i t f))
  noted_some t None [] is h =
      let none : t.is_again ≡ false = subst (λ (f : Option ℕ). IsFirst es [] f t.is_again) is h.1 in
      (h.0, (at, none), λ _. pushed_any [] e)
  noted_some t None (x ∷ found) is h = absurd (subst (λ (f : Option ℕ). IsFirst es (x ∷ found) f t.is_again) is h.1)
  noted_some t (Some j) [] is h = absurd (subst (λ (f : Option ℕ). IsFirst es [] f t.is_again) is h.1)
  noted_some t (Some j) (x ∷ found) is h =
      let first : (slice_get es j ≡ Some x) × (t.is_again ≡ is_any found) = subst (λ (f : Option ℕ). IsFirst es (x ∷ found) f t.is_again) is h.1 in
      (h.0, subst (λ (f : Option ℕ). IsFirst es (x ∷ (found ++ e ∷ [])) f true) (sym is) (first.0, sym (any_pushed found e)), λ _. pushed_any (x ∷ found) e)

  noted_more : (o : Option Track) (found : List Outcome) → IsNoted pipes es found n o → IsNoted pipes es (found ++ e ∷ []) n (Some (noted i o))
  noted_more None found h =
      (h.0, subst (λ (xs : List Outcome). IsFirst es (xs ++ e ∷ []) (Some i) false) (sym h.1) (at, refl), λ _. pushed_any found e)
  noted_more (Some t) found h = noted_some t t.first found refl h

-- ---- the listeners of a number, with one more of all

of_both : (n : ℕ) (es fs : List Outcome) → of_instance n (es ++ fs) ≡ of_instance n es ++ of_instance n fs
of_both n [] fs = refl
of_both n (e ∷ es) fs =
    ap (λ (xs : List Outcome). if_same e.instance n (e ∷ []) ++ xs) (of_both n es fs)
    ∙ sym (append_assoc (if_same e.instance n (e ∷ [])) (of_instance n es) (of_instance n fs))

of_more : (n : ℕ) (es : List Outcome) (i : ℕ) (e : Outcome) → slice_get es i ≡ Some e
    → of_instance n (take (i + 1) es) ≡ of_instance n (take i es) ++ if_same e.instance n (e ∷ [])
of_more n es i e at =
    ap (of_instance n) (take_more es i e (slice_get_within es i e at) ∙ ap (λ (x : Outcome). take i es ++ x ∷ []) (get_or_from_slice_get es i e e at))
    ∙ of_both n (take i es) (e ∷ [])
    ∙ ap (λ (xs : List Outcome). of_instance n (take i es) ++ xs) (append-nil (if_same e.instance n (e ∷ [])))

of_own : (n : ℕ) (es : List Outcome) (i : ℕ) (e : Outcome) → slice_get es i ≡ Some e → n ≡ e.instance
    → of_instance n (take (i + 1) es) ≡ of_instance n (take i es) ++ e ∷ []
of_own n es i e at own =
    of_more n es i e at
    ∙ ap (λ (t : Bool). of_instance n (take i es) ++ cond t (e ∷ []) []) (eq-eqb e.instance n (sym own))

of_other : (n : ℕ) (es : List Outcome) (i : ℕ) (e : Outcome) → slice_get es i ≡ Some e → n ≢ e.instance
    → of_instance n (take (i + 1) es) ≡ of_instance n (take i es)
of_other n es i e at other =
    of_more n es i e at
    ∙ ap (λ (t : Bool). of_instance n (take i es) ++ cond t (e ∷ []) []) (ne_eqb e.instance n (λ is. other (sym is)))
    ∙ append-nil (of_instance n (take i es))

-- what is known of each number, where one more listener was noted
pub noted_on : (pipes : List ℕ) (es : List Outcome) (i number : ℕ) (e : Outcome) (old new : ℕ → Option Track) → slice_get es i ≡ Some e → number ≡ e.instance
    → ((n : ℕ) → new n ≡ cond (eqb n number) (Some (noted i (old number))) (old n))
    → ((n : ℕ) → IsNoted pipes es (of_instance n (take i es)) n (old n) × IsFresh (old n))
    → (n : ℕ) → IsNoted pipes es (of_instance n (take (i + 1) es)) n (new n) × IsFresh (new n)
noted_on pipes es i number e old new at own put h n =
    elim (cases_eq n number) [
      | inl here ↦
          let is : new n ≡ Some (noted i (old n)) =
          put n ∙ ap (λ (t : Bool). cond t (Some (noted i (old number))) (old n)) (eq-eqb n number here)
          ∙ ap (λ (k : ℕ). Some (noted i (old k))) (sym here) in (
            subst (λ (xs : List Outcome). IsNoted pipes es xs n (new n)) (sym (of_own n es i e at (here ∙ own)))
                (subst (IsNoted pipes es (of_instance n (take i es) ++ e ∷ []) n) (sym is)
                (noted_more pipes es n i e at (old n) (of_instance n (take i es)) (h n).0)),
            subst IsFresh (sym is) (fresh_noted i (old n) (h n).1),
          )
      | inr off ↦
          let is : new n ≡ old n = put n ∙ ap (λ (t : Bool). cond t (Some (noted i (old number))) (old n)) (ne_eqb n number off) in (
            subst (λ (xs : List Outcome). IsNoted pipes es xs n (new n))
                (sym (of_other n es i e at (λ k. off (k ∙ sym own))))
                (subst (IsNoted pipes es (of_instance n (take i es)) n) (sym is) (h n).0),
            subst IsFresh (sym is) (h n).1,
          )
    ]
