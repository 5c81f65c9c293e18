use Rattle.std.proofs.Common.{refl, arith, sym, ap, subst, ◌∙◌, ◌+◌, ◌≤◌, length}
use Rattle.std.proofs.lemmas.List.{take_rest, take_all, length-drop}
use Rattle.std.proofs.lemmas.Result.{err_from_is_err_and}
use Rattle.record_codec.specs.Ports.{inner_of, one_more}
use Rattle.std.proofs.lemmas.Bool.{eqb-true}
use Rattle.std.specs.Io.KnownBytes.{Appends}
use Rattle.record_codec.proofs.Appending.{Appends-nil, Appends-keeps, Added-more}
use Rattle.record_codec.proofs.port.Port.write_all.Goals as goal

pub loop-rest-init : goal.loop-rest-init
loop-rest-init g c = record { added = (0, record { so_far = Appends-nil (g.T.Write.contents (inner_of c.args.self.now)); left = refl }); faults = refl }

pub loop-rest-preserved : goal.loop-rest-preserved
loop-rest-preserved g c =
    let more = Added-more (g.T.Write.contents (inner_of c.args.self.now)) (g.T.Write.contents (inner_of c.loop-rest.self))
    (g.T.Write.contents (inner_of c.write.new.self)) c.args.bytes.now c.loop-rest.rest.now c.loop-rest.invariant.added.0
    c.in_ok-count.count c.loop-rest.invariant.added.1 c.in_ok-count.ensures.bytes in
    record {
      added = (
        c.loop-rest.invariant.added.0 + c.in_ok-count.count,
        record { so_far = more.so_far; left = take_rest c.loop-rest.rest.now c.in_ok-count.count ∙ more.left },
      );
      faults = c.in_ok-count.ensures.ok ∙ c.loop-rest.invariant.faults;
    }

pub returns-in_err-count-clause-front : goal.returns-in_err-count-clause-front
returns-in_err-count-clause-front g c =
    let p = err_from_is_err_and c.from_residual.result c.from_residual.ensures.1 in
    rw p.1 (
      c.loop-rest.invariant.added.0,
      Appends-keeps (g.T.Write.contents (inner_of c.args.self.now)) (g.T.Write.contents (inner_of c.loop-rest.self))
          (g.T.Write.contents (inner_of c.write.new.self)) _ c.loop-rest.invariant.added.1.so_far c.in_err-count.ensures.bytes,
    )

pub returns-in_err-count-clause-err : goal.returns-in_err-count-clause-err
returns-in_err-count-clause-err g c =
    let p = err_from_is_err_and c.from_residual.result c.from_residual.ensures.1 in
    rw p.1 (c.in_err-count.ensures.err ∙ ap one_more c.loop-rest.invariant.faults)

pub returns-clause-bytes : goal.returns-clause-bytes
returns-clause-bytes g c =
    let added = c.loop-rest.invariant.added.1 in
    let n = c.loop-rest.invariant.added.0 in
    let none = eqb-true _ _ (sym c.is_empty.ensures ∙ c.loop-rest-test.false) in
    let long : length c.args.bytes.now ≤ n = omega (arith, ap length added.left, length-drop n c.args.bytes.now, none) in
    subst (Appends (g.T.Write.contents (inner_of c.args.self.now)) (g.T.Write.contents (inner_of c.loop-rest.self)))
    (take_all n c.args.bytes.now long) added.so_far
