use Rattle.std.proofs.Common.{◌≡◌, ℕ, ◌<◌, ◌≤◌, ◌-◌, ◌++◌, List, length, take, Option, Some, None, ap, sym, subst, ◌∙◌, arith}
use Rattle.std.specs.Prelude.{replicate, slice_index, IfSome, MatchOption}
use Rattle.std.specs.Array.{IsFirstChunk}
use Rattle.std.proofs.lemmas.List.{length-take-le}
use denote.Ref.{Bor}
use Rattle.record_codec.specs.NameBuf.{IsKept, kept_bytes}
use Rattle.record_codec.specs.declared.name_buf.NameBuf.{NameBuf}
use Rattle.record_codec.proofs.PaddedLemmas.{padded-front}
use Rattle.record_codec.proofs.name_buf.NameBuf.padded.Goals as goal

chunk-padded : (len : ℕ) (bytes chunk : List ℕ) → len < 16 → ((i : ℕ) → len ≤ i → slice_index bytes i ≡ 0) → IsFirstChunk bytes chunk 16
    → chunk ≡ take len bytes ++ replicate (16 - length (take len bytes)) 0
chunk-padded len bytes chunk h zeros is =
    let long : len ≤ length bytes = omega (arith, is.enough) in
    is.same ∙ padded-front 16 len (16 - len) bytes (omega arith) is.enough zeros
    ∙ ap (λ n. take len bytes ++ replicate (16 - n) 0) (sym (length-take-le len bytes long))

of-chunk : (len : ℕ) (bytes : List ℕ) (kept : NameBuf) (r : Option (Bor (List ℕ))) → kept_bytes kept ≡ take len bytes → len < 16
    → ((i : ℕ) → len ≤ i → slice_index bytes i ≡ 0) → MatchOption r (length bytes < 16) (λ chunk. IsFirstChunk bytes chunk.now 16)
    → IfSome r (λ chunk. chunk.now ≡ kept_bytes kept ++ replicate (16 - length (kept_bytes kept)) 0)
of-chunk len bytes kept None e h zeros is = tt
of-chunk len bytes kept (Some chunk) e h zeros is =
    chunk-padded len bytes chunk.now h zeros is ∙ ap (λ (t : List ℕ). t ++ replicate (16 - length t) 0) (sym e)

pub returns-in-Short-clause-padded : goal.returns-in-Short-clause-padded
returns-in-Short-clause-padded c =
    let kept = subst IsKept c.in-Short.is c.requires in
    of-chunk c.in-Short.len c.in-Short.bytes c.args.self.now c.first_chunk.result (ap kept_bytes c.in-Short.is) c.if-len-lt16.true kept.1
    c.first_chunk.ensures.cases
