use Rattle.std.proofs.Common.{refl, ◌≡◌, [], ◌∷◌, ◌++◌, sym, ap, ◌∙◌, rules}
use Rattle.tree_core.specs.declared.call.Call.TheVariants as call
use Rattle.tree_core.specs.declared.reply.Entry.{Entry}
use Rattle.tree_core.specs.declared.reply.Receipt.{Receipt}
use Rattle.tree_core.specs.Journal.{now, with_entry}
use Rattle.tree_core.specs.Kept.{tree_of}
use Rattle.tree_core.specs.Tree.{Tree, reply_of}
use Rattle.tree_core.specs.FileSystems.{tree_in}
use Rattle.tree_core.specs.Histories.{pumped}
use Rattle.tree_core.proofs.Serving.{Executes, finished-executes}
use Rattle.tree_core.proofs.Pumping.{records-spelled}
use Rattle.tree_core.proofs.Lawful.{limits-executed}
use Rattle.tree_core.proofs.Keeping.{IsKept-more}
use Rattle.tree_core.proofs.state.State.pump.Goals as goal

pub invariant_of-self-2 : goal.invariant_of-self-2
invariant_of-self-2 c =
    let a = c.self.inside in
    let served : Executes a.file_system (call.Pump c.args.instance c.args.bytes) c.in_ok-reply.field-0.reply c.finish_pump.new.self =
    finished-executes a.file_system a.file_system (call.Pump c.args.instance c.args.bytes) c.in_ok-reply.field-0
    c.in_ok-reply.ensures.begun c.finish_pump.new.self c.in_ok-records.ensures.tree in
    let entry : Entry = record { caller = c.args.caller; call = (call.Pump c.args.instance c.args.bytes); reply = c.in_ok-reply.field-0.reply } in
    IsKept-more a (record { file_system = c.finish_pump.new.self; snapshot = a.snapshot; journal = c.push_reserved.new.self })
    c.self.invariant refl (limits-executed a.file_system c.finish_pump.new.self (call.Pump c.args.instance c.args.bytes) served.tree) entry
    (c.push_reserved.ensures.items ∙ ap (λ es. es ++ entry ∷ []) c.make_room.ensures.items) c.in_ok-make_room.ensures.free c.in_ok-make_room.ensures.small
    served.reply served.tree served.numbered c.law.ensures

pub returns-clause-applied : goal.returns-clause-applied
returns-clause-applied c = record {
  entry =
      let a = c.self.inside in
      let served : Executes a.file_system (call.Pump c.args.instance c.args.bytes) c.in_ok-reply.field-0.reply c.finish_pump.new.self =
      finished-executes a.file_system a.file_system (call.Pump c.args.instance c.args.bytes) c.in_ok-reply.field-0
      c.in_ok-reply.ensures.begun c.finish_pump.new.self c.in_ok-records.ensures.tree in
      let entry : Entry = record { caller = c.args.caller; call = (call.Pump c.args.instance c.args.bytes); reply = c.in_ok-reply.field-0.reply } in
      let items : c.push_reserved.new.self.items ≡ a.journal.items ++ entry ∷ [] =
      c.push_reserved.ensures.items ∙ ap (λ es. es ++ entry ∷ []) c.make_room.ensures.items in
      (λ i. record {
        start = tree_of (limits-executed a.file_system c.finish_pump.new.self (call.Pump c.args.instance c.args.bytes) served.tree i) a.snapshot;
        place = a.snapshot.place;
        entries = items i;
      })
      ∙ (λ i. with_entry (c.self.view_is i)
      (record {
        caller = c.args.caller;
        call = (call.Pump c.args.instance c.args.bytes);
        reply = (sym (ap (λ (r : Receipt). r.reply) c.receipt_and_kept-receipt.ensures.receipt ∙ c.in_ok-given.ensures.given)) i;
      }));
  place = search rules;
  reply =
      ap (λ (r : Receipt). r.reply) c.receipt_and_kept-receipt.ensures.receipt ∙ c.in_ok-given.ensures.given ∙ c.in_ok-reply.ensures.begun.reply
      ∙ ap (λ (t : Tree). reply_of t (call.Pump c.args.instance c.args.bytes)) c.self.invariant.stands
      ∙ ap (λ s. reply_of (now s) (call.Pump c.args.instance c.args.bytes)) c.self.view_is;
  lawful = (invariant_of-self-2 c).lawful;
  err = search rules;
  full = search rules;
  errors = search rules;
}

pub returns-clause-records : goal.returns-clause-records
returns-clause-records c =
    c.in_ok-records.ensures.records ∙ c.in_ok-reply.ensures.records
    ∙ ap (λ (t : Tree). pumped t c.args.instance c.args.bytes) c.self.invariant.stands ∙ ap (λ s. pumped (now s) c.args.instance c.args.bytes) c.self.view_is

pub returns-clause-spelled : goal.returns-clause-spelled
returns-clause-spelled c =
    records-spelled (tree_in c.self.inside.file_system) c.law.ensures c.args.instance c.args.bytes c.in_ok-records.records _
    (c.in_ok-records.ensures.records ∙ c.in_ok-reply.ensures.records)
    (ap (λ (r : Receipt). r.reply) c.receipt_and_kept-receipt.ensures.receipt ∙ c.in_ok-given.ensures.given ∙ c.in_ok-reply.ensures.begun.reply)
