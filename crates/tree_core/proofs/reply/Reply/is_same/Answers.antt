use Rattle.std.proofs.Common.{rules, ◌≡◌, ◌↔◌, IsTrue}
use Rattle.tree_ops.proofs.Same.{answers_same}
use Rattle.tree_core.specs.declared.reply.Reply.{Reply}
use Rattle.tree_core.specs.declared.reply.Reply.TheVariants.{File, Instance, Wd, Records, Done, Refused}
use Rattle.tree_core.specs.contracts.reply.ReplyPartialEq.TheImpl as derived
use Rattle.tree_core.proofs.reply.Reply.is_same.Goals as goal

-- the derived test decides whether two replies are the same
same : (a b : Reply) → IsTrue (derived.ghosts.eq a b) ↔ (a ≡ b)
same (File x) b = elim b as (λ b. IsTrue (derived.ghosts.eq (File x) b) ↔ (File x ≡ b)) [ File y ↦ search (rules, answers_same) | _ ↦ search rules ]
same (Instance n) b = elim b as (λ b. IsTrue (derived.ghosts.eq (Instance n) b) ↔ (Instance n ≡ b)) [ Instance m ↦ search rules | _ ↦ search rules ]
same (Wd n) b = elim b as (λ b. IsTrue (derived.ghosts.eq (Wd n) b) ↔ (Wd n ≡ b)) [ Wd m ↦ search rules | _ ↦ search rules ]
same (Records x) b = elim b as (λ b. IsTrue (derived.ghosts.eq (Records x) b) ↔ (Records x ≡ b)) [ Records y ↦ search rules | _ ↦ search rules ]
same Done b = elim b as (λ b. IsTrue (derived.ghosts.eq Done b) ↔ (Done ≡ b)) [ Done ↦ search rules | _ ↦ search rules ]
same (Refused r) b = elim b as (λ b. IsTrue (derived.ghosts.eq (Refused r) b) ↔ (Refused r ≡ b)) [ Refused s ↦ search rules | _ ↦ search rules ]

pub returns : goal.returns
returns c = rw c.eq.ensures (same c.args.self.now c.args.other.now)
