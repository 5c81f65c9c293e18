use Rattle.std.proofs.Common.{rules, ◌≡◌, ◌↔◌, IsTrue}
use Rattle.tree_ops.proofs.Same.{calls_same}
use Rattle.record_codec.proofs.Equal.{names_eq_decides}
use Rattle.tree_core.specs.declared.call.Call.{Call}
use Rattle.tree_core.specs.declared.call.Call.TheVariants.{File, Init, AddWatch, RmWatch, Read, Pump, Close}
use Rattle.tree_core.specs.contracts.call.CallPartialEq.TheImpl as derived
use Rattle.tree_core.proofs.call.Call.is_same.Goals as goal

-- the derived test decides whether two calls are the same
same : (a b : Call) → IsTrue (derived.ghosts.eq a b) ↔ (a ≡ b)
same (File f) b = elim b as (λ b. IsTrue (derived.ghosts.eq (File f) b) ↔ (File f ≡ b)) [ File g ↦ search (rules, calls_same) | _ ↦ search rules ]
same (Init l p) b = elim b as (λ b. IsTrue (derived.ghosts.eq (Init l p) b) ↔ (Init l p ≡ b)) [ Init m q ↦ search rules | _ ↦ search rules ]
same (AddWatch i p m) b =
    elim b as (λ b. IsTrue (derived.ghosts.eq (AddWatch i p m) b) ↔ (AddWatch i p m ≡ b))
    [ AddWatch j q n ↦ search (rules, names_eq_decides) | _ ↦ search rules ]
same (RmWatch i w) b = elim b as (λ b. IsTrue (derived.ghosts.eq (RmWatch i w) b) ↔ (RmWatch i w ≡ b)) [ RmWatch j v ↦ search rules | _ ↦ search rules ]
same (Read i n) b = elim b as (λ b. IsTrue (derived.ghosts.eq (Read i n) b) ↔ (Read i n ≡ b)) [ Read j m ↦ search rules | _ ↦ search rules ]
same (Pump i n) b = elim b as (λ b. IsTrue (derived.ghosts.eq (Pump i n) b) ↔ (Pump i n ≡ b)) [ Pump j m ↦ search rules | _ ↦ search rules ]
same (Close i) b = elim b as (λ b. IsTrue (derived.ghosts.eq (Close i) b) ↔ (Close i ≡ b)) [ Close j ↦ search rules | _ ↦ search rules ]

pub returns : goal.returns
returns c = rw c.eq.ensures (same c.args.self.now c.args.other.now)
