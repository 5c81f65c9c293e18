use Rattle.std.proofs.Common.{◌++◌, ◌∙◌, ap, subst, codes, decimal, List, ℕ, take}
use Rattle.std.specs.Io.KnownBytes.{Appends}
use Rattle.std.proofs.lemmas.Result.{err_from_is_err_and}
use Rattle.record_codec.specs.Ports.{inner_of, one_more}
use Rattle.event_sinks.proofs.Fronts.{front_of_first, front_of_next, on_err_both}
use Rattle.event_sinks.proofs.line.write_closing.Goals as goal

pub returns-in_err-write_all-clause-err : goal.returns-in_err-write_all-clause-err
returns-in_err-write_all-clause-err g c =
    let p = err_from_is_err_and c.from_residual.result c.from_residual.ensures.1 in
    rw p.1 (front_of_first _ _ (codes "closed ") _ c.in_err-write_all.ensures.front, c.in_err-write_all.ensures.err)

pub returns-in_err-write_all-2-clause-err : goal.returns-in_err-write_all-2-clause-err
returns-in_err-write_all-2-clause-err g c =
    let p = err_from_is_err_and c.from_residual-in_err-write_all-2.result c.from_residual-in_err-write_all-2.ensures.1 in
    let a = g.W.Write.contents (inner_of c.args.port.now) in
    let b = g.W.Write.contents (inner_of c.write_all.new.self) in
    let d = g.W.Write.contents (inner_of c.write_all-2.new.self) in
    let front =
    subst (λ (t : List ℕ). (n : ℕ) × Appends b d (take n t)) (c.as_bytes.ensures.value ∙ c.format.ensures.text)
    c.in_err-write_all-2.ensures.front in
    rw p.1 (
      front_of_next a b d (codes "closed ") (decimal c.args.taken ++ codes "\n") c.in_ok-write_all.ensures.bytes
          (front_of_first b d (decimal c.args.taken) (codes "\n") front),
      c.in_err-write_all-2.ensures.err ∙ ap one_more c.in_ok-write_all.ensures.ok,
    )

pub returns-clause-err : goal.returns-clause-err
returns-clause-err g c =
    let a = g.W.Write.contents (inner_of c.args.port.now) in
    let b = g.W.Write.contents (inner_of c.write_all.new.self) in
    let d = g.W.Write.contents (inner_of c.write_all-2.new.self) in
    let e = g.W.Write.contents (inner_of c.write_all-3.new.self) in
    let digits = subst (λ (t : List ℕ). Appends b d t) (c.as_bytes.ensures.value ∙ c.format.ensures.text) c.in_ok-write_all-2.ensures.bytes in
    on_err_both c.write_all-3.result _ _ _ (λ front faults. (
      front_of_next a b e (codes "closed ") (decimal c.args.taken ++ codes "\n") c.in_ok-write_all.ensures.bytes
          (front_of_next b d e (decimal c.args.taken) (codes "\n") digits front),
      faults ∙ ap one_more (c.in_ok-write_all-2.ensures.ok ∙ c.in_ok-write_all.ensures.ok),
    )) c.write_all-3.ensures.front c.write_all-3.ensures.err
