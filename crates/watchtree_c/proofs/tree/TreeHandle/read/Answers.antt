use Rattle.std.proofs.Common.{rules, sym}
use Rattle.tree_core.specs.declared.reply.Reply.TheVariants as reply
use Rattle.watchtree_c.proofs.Listing.{overlaid_none}
use Rattle.watchtree_c.proofs.tree.TreeHandle.read.Goals as goal

pub returns-in-Err : goal.returns-in-Err
returns-in-Err c =
    record {
      r = reply.Refused c.in-Err.refusal;
      made = c.in-Err.ensures.err;
      is_number = search rules;
      is_filled = sym (overlaid_none c.args.out.now);
    }
