use Rattle.std.proofs.Common.{sym, subst}
use Rattle.std.proofs.lemmas.Result.{IfOk-weaker}
use Rattle.inode_table.specs.TableWorld.{HasNumbersBelow}
use Rattle.inode_table.specs.World.{IsWhole}
use Rattle.tree_ops.proofs.Numbers.{numbers-opening}
use Rattle.tree_ops.proofs.WorldsStay.{IsWhole-opening}
use Rattle.tree_ops.proofs.opening.opening_table.Goals as goal

pub returns-clause-numbers : goal.returns-clause-numbers
returns-clause-numbers c = IfOk-weaker c.new.result _ _ (λ t is. subst (λ w. HasNumbersBelow w 2) (sym is) numbers-opening) c.new.ensures.world

pub returns-clause-whole : goal.returns-clause-whole
returns-clause-whole c = IfOk-weaker c.new.result _ _ (λ t is. subst IsWhole (sym is) IsWhole-opening) c.new.ensures.world
