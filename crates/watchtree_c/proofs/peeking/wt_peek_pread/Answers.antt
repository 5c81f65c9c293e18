use Rattle.std.proofs.Common.{rules, sym, arith}
use Rattle.tree_paths.specs.declared.refusal.Refusal.TheVariants.{Ebadf}
use Rattle.tree_core.specs.declared.reply.Reply.TheVariants as reply
use Rattle.watchtree_c.specs.Calls.{asked_bytes, read_call}
use Rattle.watchtree_c.proofs.Listing.{overlaid_none}
use Rattle.watchtree_c.proofs.Unmade.{closed-peeked}
use Rattle.watchtree_c.proofs.peeking.wt_peek_pread.Goals as goal

pub returns-in_default-clause-told : goal.returns-in_default-clause-told
returns-in_default-clause-told c =
    record {
      r = reply.Refused Ebadf;
      made = closed-peeked c.args.tree.now.held.state (read_call c.args.path.now c.args.offset (asked_bytes c.args.out.now)) (search rules);
      is_number = search rules;
      is_filled = sym (overlaid_none c.args.out.now);
      fits = omega arith;
    }
