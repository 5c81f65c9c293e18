-- Two sinks taken out of a list, the last one first.
use Rattle.std.proofs.Common.{◌≡◌, ◌+◌, ◌++◌, ◌∙◌, List, [], ◌∷◌, length, get_or, refl, ap, subst, arith, length-append}
use Rattle.std.specs.List.{All}
use Rattle.std.proofs.lemmas.List.{get_or_push, get_or_append_left}

-- what holds of each holds of the last one
pub last-of : {S : Type 0} (P : S → Type 0) (all front : List S) (last : S) → all ≡ front ++ last ∷ [] → All P all → P last
last-of {S} P all front last is holds =
    let length-is : length all ≡ length front + 1 = ap length is ∙ length-append front (last ∷ []) in
    let at : get_or all (length front) last ≡ last = ap (λ (l : List S). get_or l (length front) last) is ∙ get_or_push front last last (length front) refl in
    subst P at (holds (length front) last (omega (arith, length-is)))

-- and of each before it
pub front-of : {S : Type 0} (P : S → Type 0) (all front : List S) (last : S) → all ≡ front ++ last ∷ [] → All P all → All P front
front-of {S} P all front last is holds k d below =
    let length-is : length all ≡ length front + 1 = ap length is ∙ length-append front (last ∷ []) in
    let at : get_or all k d ≡ get_or front k d = ap (λ (l : List S). get_or l k d) is ∙ get_or_append_left front (last ∷ []) d k below in
    subst P at (holds k d (omega (arith, length-is, below)))
