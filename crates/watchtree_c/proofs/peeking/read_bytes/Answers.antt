use Rattle.std.proofs.Common.{rules, sym, arith}
use Rattle.tree_ops.specs.declared.call.FileCall.TheVariants as file
use Rattle.tree_core.specs.declared.call.Call.TheVariants as call
use Rattle.tree_core.specs.declared.reply.Reply.TheVariants as reply
use Rattle.watchtree_c.specs.Calls.{asked_bytes}
use Rattle.watchtree_c.proofs.Listing.{overlaid_none}
use Rattle.watchtree_c.proofs.Unmade.{asked, unasked, bytes-of}
use Rattle.watchtree_c.proofs.peeking.read_bytes.Goals as goal

pub returns-in-Ok : goal.returns-in-Ok
returns-in-Ok c =
    bytes-of _ _ c.bytes_at.result _ _ _ (search rules)
    (λ r may. asked c.args.state.now (λ p. call.File (file.ReadFile p c.args.offset (asked_bytes c.args.out.now)))
    c.args.path.now c.in-Ok.path r c.in-Ok.ensures.ok may)
    c.bytes_at.ensures

pub returns-in-Err : goal.returns-in-Err
returns-in-Err c =
    record {
      r = reply.Refused c.in-Err.refusal;
      made = unasked c.args.state.now (λ p. call.File (file.ReadFile p c.args.offset (asked_bytes c.args.out.now)))
          c.args.path.now c.in-Err.refusal c.in-Err.ensures.err;
      is_number = search rules;
      is_filled = sym (overlaid_none c.args.out.now);
      fits = omega arith;
    }
