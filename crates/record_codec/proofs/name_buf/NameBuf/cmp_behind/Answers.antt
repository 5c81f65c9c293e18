use Rattle.std.proofs.Common.{◌≡◌, List, ℕ, subst, ◌∙◌, sym, ap}
use Rattle.std.specs.Cmp.Lexicographic.{slice_cmp}
use Rattle.std.specs.Ordering.{nat_cmp}
use Rattle.record_codec.specs.NameBuf.{IsKeptName, kept_bytes, front_of}
use Rattle.record_codec.specs.declared.name_buf.NameBuf.{NameBuf}
use Rattle.record_codec.specs.declared.name_buf.NameBuf.TheVariants.{Short}
use Rattle.record_codec.proofs.FrontLemmas.{AreShort, middles_decide, backs_decide}
use Rattle.record_codec.proofs.name_buf.NameBuf.cmp_behind.Goals as goal

-- two names that are kept as short ones
are-short : (len other_len : ℕ) (kept others : List ℕ) (self other : NameBuf) → self ≡ Short len kept → other ≡ Short other_len others
    → IsKeptName self → IsKeptName other → front_of (kept_bytes self) ≡ front_of (kept_bytes other) → AreShort len other_len kept others
are-short len other_len kept others self other is also mine theirs same =
    let one = subst IsKeptName is mine in
    let two = subst IsKeptName also theirs in
    record {
      name = one.name;
      other_name = two.name;
      short = one.sound.0;
      other_short = two.sound.0;
      zeros = one.sound.1;
      other_zeros = two.sound.1;
      fronts = sym (ap (λ (b : NameBuf). front_of (kept_bytes b)) is) ∙ same ∙ ap (λ (b : NameBuf). front_of (kept_bytes b)) also;
    }

pub returns-then-middle-other_middle : goal.returns-then-middle-other_middle
returns-then-middle-other_middle c =
    let h = are-short _ _ _ _ _ _ c.in-Short-Short.is-0 c.in-Short-Short.is-1 c.requires.name c.requires.other c.requires.fronts in
    c.cmp-then-middle-other_middle.ensures
    ∙ middles_decide _ _ _ _ _ _ h c.read_u128-middle.ensures c.read_u128-other_middle.ensures c.if-middle-other_middle.true
    ∙ (λ k. slice_cmp nat_cmp (kept_bytes (sym c.in-Short-Short.is-0 k)) (kept_bytes (sym c.in-Short-Short.is-1 k)))

pub returns : goal.returns
returns c =
    let h = are-short _ _ _ _ _ _ c.in-Short-Short.is-0 c.in-Short-Short.is-1 c.requires.name c.requires.other c.requires.fronts in
    c.cmp-2.ensures
    ∙ backs_decide _ _ _ _ _ _ _ _ h c.read_u128-middle.ensures c.read_u128-other_middle.ensures c.if-middle-other_middle.false
    c.read_u64-back.ensures c.read_u64-other_back.ensures
    ∙ (λ k. slice_cmp nat_cmp (kept_bytes (sym c.in-Short-Short.is-0 k)) (kept_bytes (sym c.in-Short-Short.is-1 k)))
