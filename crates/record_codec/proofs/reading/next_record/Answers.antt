use Rattle.std.proofs.Common.{arith, sym, ap, ◌∙◌, ℕ, ◌+◌, ℤ, ◌<◌, ◌^◌, drop}
use Rattle.std.proofs.lemmas.Bool.{eqb-false, eqb-true}
use Rattle.std.proofs.lemmas.List.{nil_from_length, take_rest}
use Rattle.std.specs.Int.{w32, cast_signed, cast_unsigned}
use Rattle.std.specs.Option.{option_copied}
use Rattle.std.proofs.lemmas.Int.{of_z-to_z}
use Rattle.record_codec.proofs.FaultLemmas.{event_is}
use Rattle.record_codec.proofs.ViewLemmas.{begun, begun_name, named_seen, next_is}
use Rattle.record_codec.proofs.reading.next_record.Goals as goal

pub u32_at-requires : goal.u32_at-requires
u32_at-requires c =
    let b = begun c.args.bytes.now c.requires (eqb-false _ _ (sym c.is_empty.ensures ∙ c.if-is_empty.false)) in
    omega (arith, b.long)

pub u32_at-requires-2 : goal.u32_at-requires-2
u32_at-requires-2 c =
    let b = begun c.args.bytes.now c.requires (eqb-false _ _ (sym c.is_empty.ensures ∙ c.if-is_empty.false)) in
    omega (arith, b.long)

pub u32_at-requires-3 : goal.u32_at-requires-3
u32_at-requires-3 c =
    let b = begun c.args.bytes.now c.requires (eqb-false _ _ (sym c.is_empty.ensures ∙ c.if-is_empty.false)) in
    omega (arith, b.long)

pub u32_at-requires-4 : goal.u32_at-requires-4
u32_at-requires-4 c =
    let b = begun c.args.bytes.now c.requires (eqb-false _ _ (sym c.is_empty.ensures ∙ c.if-is_empty.false)) in
    omega (arith, b.long)

pub slice_bounds-name_in_field-end : goal.slice_bounds-name_in_field-end
slice_bounds-name_in_field-end c =
    let b = begun c.args.bytes.now c.requires (eqb-false _ _ (sym c.is_empty.ensures ∙ c.if-is_empty.false)) in
    omega (arith, b.long, c.u32_at.ensures)

pub slice_bounds-result-count : goal.slice_bounds-result-count
slice_bounds-result-count c =
    let b = begun c.args.bytes.now c.requires (eqb-false _ _ (sym c.is_empty.ensures ∙ c.if-is_empty.false)) in
    omega (arith, b.long, c.u32_at.ensures)

pub slice_bounds-result-start : goal.slice_bounds-result-start
slice_bounds-result-start c =
    let b = begun c.args.bytes.now c.requires (eqb-false _ _ (sym c.is_empty.ensures ∙ c.if-is_empty.false)) in
    omega (arith, b.long, c.u32_at.ensures)

pub invariant_of-record : goal.invariant_of-record
invariant_of-record c =
    let b = begun c.args.bytes.now c.requires (eqb-false _ _ (sym c.is_empty.ensures ∙ c.if-is_empty.false)) in
    record { named = named_seen c.name_in_field.result _ c.name_in_field.ensures (begun_name c.args.bytes.now c.u32_at.result c.u32_at.ensures b) }

pub returns-then-is_empty : goal.returns-then-is_empty
returns-then-is_empty c = nil_from_length c.args.bytes.now (eqb-true _ _ (sym c.is_empty.ensures ∙ c.if-is_empty.true))

pub returns : goal.returns
returns c =
    let b = begun c.args.bytes.now c.requires (eqb-false _ _ (sym c.is_empty.ensures ∙ c.if-is_empty.false)) in
    let low : c.u32_at-2.result < 2 ^ 32 = c.u32_at-2.type_inv in
    let wd = ap (λ (z : ℤ). cast_signed w32 (cast_unsigned w32 z)) c.cast_signed.ensures ∙ ap (cast_signed w32) (of_z-to_z w32 c.u32_at-2.result low) in
    let e = event_is c.args.bytes.now 0 c.u32_at.result c.u32_at-3.result c.u32_at-4.result _ (option_copied c.name_in_field.result)
    c.u32_at-2.result c.u32_at.ensures c.u32_at-2.ensures wd c.u32_at-3.ensures c.u32_at-4.ensures c.name_in_field.ensures in
    let tail = take_rest c.args.bytes.now (16 + c.u32_at.result) ∙ ap (λ (n : ℕ). drop (16 + n) c.args.bytes.now) c.u32_at.ensures in
    next_is c.args.bytes.now _ _ b e tail
