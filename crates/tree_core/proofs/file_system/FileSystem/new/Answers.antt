use Rattle.std.proofs.Common.{IsSome, sym, subst, arith}
use Rattle.inode_table.specs.World.{World}
use Rattle.inode_table.specs.TableWorld.{HasNumbersBelow}
use Rattle.instance_table.specs.Instances.{Instances, instance_of}
use Rattle.tree_core.specs.Tree.{opening}
use Rattle.tree_core.proofs.Instances.{below-opening, none-opened}
use Rattle.tree_core.proofs.file_system.FileSystem.new.Goals as goal

pub returns-clause-ok : goal.returns-clause-ok
unfolding opening
returns-clause-ok c = λ i. record {
  limits = c.args.limits;
  world = c.in_ok-new.ensures.world i;
  next_number = 2;
  next_cookie = 1;
  next_id = 1;
  instances = c.new-2.ensures i;
}

pub returns-clause-numbered : goal.returns-clause-numbered
returns-clause-numbered c =
    let limits = c.args.limits in
    record {
      counted = record {
        numbers = let least = limits.numbers_in.0 in omega arith;
        cookies = let least = limits.cookies_in.0 in omega arith;
        ids = let least = limits.ids_in.0 in omega arith;
        opened = λ id h. absurd (none-opened id (subst (λ (x : Instances). IsSome (instance_of x id)) c.new-2.ensures h));
      };
      given = subst (λ (w : World). HasNumbersBelow w 2) (sym c.in_ok-new.ensures.world) below-opening;
    }
