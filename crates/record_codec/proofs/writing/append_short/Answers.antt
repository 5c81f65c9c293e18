use Rattle.std.proofs.Common.{rules, ◌≡◌, ◌++◌, List, ℕ, length, drop, refl, ap, ◌∙◌, arith}
use Rattle.std.proofs.lemmas.List.{append-nil, drop-drop, drop_all, length-append, take_at}
use borrow.Rule.Slice.PartMut.{put_mid}
use Rattle.record_codec.specs.Records.{head, record_bytes}
use Rattle.record_codec.proofs.PaddedLemmas.{record-of-field}
use Rattle.record_codec.proofs.writing.append_short.Goals as goal

-- what an array has once its first 16 bytes and then the 16 behind them were written
filled : (front zeros back : List ℕ) → length front ≡ 16 → length zeros ≡ 16 → put_mid 16 16 (front ++ zeros) back ≡ front ++ back
filled front zeros back first second =
    let none = drop-drop 16 16 (front ++ zeros) ∙ drop_all 32 (front ++ zeros) (omega (arith, first, second, length-append front zeros)) in
    ap (λ (t : List ℕ). t ++ (back ++ drop 16 (drop 16 (front ++ zeros)))) (take_at front zeros 16 first)
    ∙ ap (λ (t : List ℕ). front ++ (back ++ t)) none ∙ ap (λ (t : List ℕ). front ++ t) (append-nil back)

pub returns-clause-ok : goal.returns-clause-ok
unfolding record_bytes
returns-clause-ok c =
    let e = record-of-field c.args.event.now c.args.out.now.items c.args.field.now c.requires.field c.told-field in
    let front : c.copy_from_slice.new.self ≡ head c.args.event.now 16 = search rules in
    let len : length c.copy_from_slice.new.self ≡ 16 = search rules in
    let back : c.copy_from_slice-2.new.self ≡ c.args.field.now = search rules in
    let whole = c.as_slice.ensures ∙ filled c.copy_from_slice.new.self _ c.copy_from_slice-2.new.self len refl in
    search rules
