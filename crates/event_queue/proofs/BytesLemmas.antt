-- The bytes of one record more, and how many a record takes at most.
use Rattle.std.proofs.Common.{◌≡◌, ℕ, ◌+◌, ◌≤◌, List, [], ◌∷◌, ◌++◌, length, take, get_or, Option, Some, None, refl, sym, ap, ◌∙◌, arith, length-append}
use Rattle.std.specs.Prelude.{IfSome, slice_get}
use Rattle.std.proofs.lemmas.List.{take_more, append-nil}
use Rattle.std.proofs.lemmas.Option.{get_or_from_slice_get, slice_get_within}
use Rattle.std.proofs.lemmas.Grind.{flat_map-append}
use Rattle.record_codec.specs.declared.event.Event.{Event}
use Rattle.record_codec.specs.Names.{IsName}
use Rattle.record_codec.specs.Records.{IsEvent, record_bytes, spelling}
use Rattle.record_codec.proofs.RecordLemmas.{is_name-length, length-record_none, length-record_some}

small_by : (e : Event) (n : Option (List ℕ)) → e.name ≡ n → IfSome n IsName → length (record_bytes e) ≤ 272
small_by e None is name = let l = length-record_none e is in omega arith
small_by e (Some bytes) is name = let l = length-record_some e bytes is in let m = is_name-length bytes name.named in omega arith

-- a record takes 272 bytes at most
pub record_small : (e : Event) → IsEvent e → length (record_bytes e) ≤ 272
record_small e is = small_by e e.name refl is.name

-- the bytes of the records up to and with the one at an index
pub spelling_next : (es : List Event) (k : ℕ) (e : Event) → Some e ≡ slice_get es k
    → length (spelling (take (k + 1) es)) ≡ length (spelling (take k es)) + length (record_bytes e)
spelling_next es k e h =
    let item : get_or es k e ≡ e = get_or_from_slice_get es k e e (sym h) in
    let next : take (k + 1) es ≡ take k es ++ get_or es k e ∷ [] = take_more es k e (slice_get_within es k e (sym h)) in
    ap (λ xs. length (spelling xs)) (next ∙ ap (λ x. take k es ++ x ∷ []) item)
    ∙ ap length (flat_map-append record_bytes (take k es) (e ∷ []))
    ∙ length-append (spelling (take k es)) (record_bytes e ++ [])
    ∙ ap (λ xs. length (spelling (take k es)) + length xs) (append-nil (record_bytes e))
