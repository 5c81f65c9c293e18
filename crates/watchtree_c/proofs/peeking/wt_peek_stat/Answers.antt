use Rattle.std.proofs.Common.{rules}
use Rattle.tree_paths.specs.declared.refusal.Refusal.TheVariants.{Ebadf}
use Rattle.tree_core.specs.declared.reply.Reply.TheVariants as reply
use Rattle.watchtree_c.specs.Calls.{stat_call}
use Rattle.watchtree_c.proofs.Unmade.{closed-peeked}
use Rattle.watchtree_c.proofs.peeking.wt_peek_stat.Goals as goal

pub returns-in_default-clause-told : goal.returns-in_default-clause-told
returns-in_default-clause-told c =
    record {
      r = reply.Refused Ebadf;
      made = closed-peeked c.args.tree.now.held.state (stat_call c.args.path.now) (search rules);
      is_number = search rules;
      is_told = search rules;
    }
