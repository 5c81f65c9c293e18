-- A text is refused as no path for its bytes alone. Out of memory is answered as the call's ENOMEM.
use Rattle.std.proofs.Common.{◌≡◌, ℕ, ◌-◌, Bool, true, false, not, ◌&&◌, nat_eq, nat_lt, List, length, Result, Ok, Err, refl, ap, subst, inl, inr}
use Rattle.std.specs.Prelude.{◌⊎◌, cond, nat_le, slice_index, IfErr}
use Rattle.std.specs.List.{list_any}
use Rattle.tree_paths.specs.declared.refusal.Refusal.{Refusal}
use Rattle.tree_paths.specs.declared.refusal.Refusal.TheVariants.{Enoent, Einval, Enametoolong, Enomem}
use Rattle.tree_paths.specs.Paths.{parsed, is_null, is_dots, is_long, names_of, path_max, slash}
use Rattle.tree_core.specs.declared.reply.Reply.TheVariants as replies
use Rattle.tree_core.specs.Journal.{Journaled}
use Rattle.watchtree_script.specs.declared.line.Line.{Line}
use Rattle.watchtree_script.specs.declared.line.Line.TheVariants.{Silent, Cut, Run}
use Rattle.watchtree_script.specs.declared.line.LineError.{LineError}
use Rattle.watchtree_script.specs.declared.line.LineError.TheVariants.{Fault, Refused, PathMemory, Memory}
use Rattle.watchtree_script.specs.Commands.{path_of, paths_of, refused, ◌>>=◌}
use Rattle.watchtree_script.specs.Reading.{AsksByPath, GivesPath}
use Rattle.watchtree_script.specs.Replies.{refusal_text}
use Rattle.watchtree_script.specs.Script.{PrintsLine}

rows : (none much relative nul ends dots long : Bool) (names : List (List ℕ))
    → cond none (Err Enoent) (cond much (Err Enametoolong)
    (cond relative (Err Einval) (cond nul (Err Einval) (cond ends (Err Einval) (cond dots (Err Einval) (cond long (Err Enametoolong) (Ok names)))))))
    ≡ Err Enomem → ⊥
rows true much relative nul ends dots long names h = cc
rows false true relative nul ends dots long names h = cc
rows false false true nul ends dots long names h = cc
rows false false false true ends dots long names h = cc
rows false false false false true dots long names h = cc
rows false false false false false true long names h = cc
rows false false false false false false true names h = cc
rows false false false false false false false names h = cc

never : (text : List ℕ) → parsed text ≡ Err Enomem → ⊥
unfolding parsed
never text h =
    rows (nat_eq (length text) 0) (nat_le path_max (length text)) (not (nat_eq (slice_index text 0) slash)) (list_any is_null text)
    (nat_lt 1 (length text) && nat_eq (slice_index text (length text - 1)) slash) (list_any is_dots (names_of text))
    (list_any is_long (names_of text)) (names_of text) h

lacking : {A : Type 0} (r : Result (List (List ℕ)) Refusal) (told : Result A Refusal) → told ≡ Err Enomem → (r ≡ Err Enomem → ⊥)
    → IfErr r (λ e. told ≡ Err e) → (x : List (List ℕ)) × (refused r ≡ Ok x)
lacking (Ok x) told lacks other h = (x, refl)
lacking (Err e) told lacks other h = absurd (other cc)

-- a text that is no path is refused as the definition says, so one that is refused as out of memory is a path
pub path-lacking : {A : Type 0} (text : List ℕ) (told : Result A Refusal) → told ≡ Err Enomem
    → IfErr (parsed text) (λ e. told ≡ Err e) → ((x : List (List ℕ)) × (path_of text ≡ Ok x)) ⊎ (path_of text ≡ Err PathMemory)
unfolding path_of
path-lacking text told lacks h = inl (lacking (parsed text) told lacks (never text) h)

told-one : {A : Type 0} (r : Result A Refusal) → refused r ≡ Err PathMemory → ⊥
told-one (Ok x) h = cc
told-one (Err e) h = cc

not-both : {A : Type 0} (e : LineError) (x : A) → Err e ≡ Ok x → ⊥
not-both e x h = cc

behind : (p q : Result (List (List ℕ)) LineError) → ((x : List (List ℕ)) × (p ≡ Ok x)) ⊎ (p ≡ Err PathMemory)
    → (p ≡ Err PathMemory → ⊥) → (error : LineError) → GivesPath (Err error) q
    → GivesPath {A = List (List ℕ) × List (List ℕ)} (Err error) (p >>= (λ o. q >>= (λ n. Ok (o, n))))
behind (Ok x) q g other (Fault fault) h = ap (λ r. r >>= (λ n. Ok (x, n))) h
behind (Ok x) q g other (Refused refusal) h = ap (λ r. r >>= (λ n. Ok (x, n))) h
behind (Ok x) q g other PathMemory (inl h) = inl ((x, h.0), ap (λ r. r >>= (λ n. Ok (x, n))) h.1)
behind (Ok x) q g other PathMemory (inr h) = inr (ap (λ r. r >>= (λ n. Ok (x, n))) h)
behind (Ok x) q g other Memory h = tt
behind (Err e) q (inl g) other error h = absurd (not-both e g.0 g.1)
behind (Err e) q (inr g) other error h = absurd (other g)

-- where memory runs out for the first of two texts, which is a path then, the line has the error of the second
pub error-behind : (old new : List ℕ) (lacks : LineError) → lacks ≡ PathMemory → GivesPath (Err lacks) (path_of old)
    → (error : LineError) → GivesPath (Err error) (path_of new) → GivesPath (Err error) (paths_of old new)
unfolding path_of paths_of
error-behind old new lacks is g error h =
    behind (refused (parsed old)) (refused (parsed new)) (subst (λ e. GivesPath (Err e) (refused (parsed old))) is g) (told-one (parsed old)) error h

-- where memory runs out for a path, the line's call is answered ENOMEM
pub path_answered : (old : Journaled) (asked : Result Line LineError) (text : List ℕ) → AsksByPath asked
    → text ≡ refusal_text Enomem → PrintsLine old asked text old
path_answered old (Ok Silent) text h e = absurd h
path_answered old (Ok Cut) text h e = absurd h
path_answered old (Ok (Run call how)) text h e = (replies.Refused Enomem, inr (record { path = h; answer = refl; same = refl }), e)
path_answered old (Err (Fault fault)) text h e = absurd h
path_answered old (Err (Refused refusal)) text h e = absurd h
path_answered old (Err PathMemory) text h e = (e, refl)
path_answered old (Err Memory) text h e = absurd h
