use Rattle.std.proofs.Common.{refl, ◌≡◌, [], ◌∷◌, ◌++◌, sym, ap, subst, ◌∙◌, rules}
use Rattle.tree_core.specs.declared.reply.Entry.{Entry}
use Rattle.tree_core.specs.Journal.{now, with_entry}
use Rattle.tree_core.specs.Kept.{tree_of}
use Rattle.tree_core.specs.Tree.{Tree, reply_of}
use Rattle.tree_core.specs.FileSystems.{tree_in}
use Rattle.tree_core.specs.Calls.{IsSpelled}
use Rattle.tree_core.proofs.Serving.{Executes, finished-executes}
use Rattle.tree_core.proofs.Spelled.{reply-spelled}
use Rattle.tree_core.proofs.Lawful.{limits-executed}
use Rattle.tree_core.proofs.Keeping.{IsKept-same, IsKept-more}
use Rattle.tree_core.proofs.state.State.apply.Goals as goal

pub invariant_of-self-in-Err-begin : goal.invariant_of-self-in-Err-begin
invariant_of-self-in-Err-begin c =
    let a = c.self.inside in
    let same : tree_in c.begin.new.self ≡ tree_in a.file_system = c.in-Err-begin.ensures.err in
    IsKept-same a (record { file_system = c.begin.new.self; snapshot = a.snapshot; journal = c.make_room.new.journal })
    c.self.invariant refl (ap (λ (t : Tree). t.limits) same) c.make_room.ensures.items same

pub invariant_of-self-in-Err-copy : goal.invariant_of-self-in-Err-copy
invariant_of-self-in-Err-copy c =
    let a = c.self.inside in
    let same : tree_in c.begin.new.self ≡ tree_in a.file_system = c.in-Ok.ensures.begun c.in-Err-copy.ensures.memory in
    IsKept-same a (record { file_system = c.begin.new.self; snapshot = a.snapshot; journal = c.make_room.new.journal })
    c.self.invariant refl (ap (λ (t : Tree). t.limits) same) c.make_room.ensures.items same

pub invariant_of-self-2 : goal.invariant_of-self-2
invariant_of-self-2 c =
    let a = c.self.inside in
    let served : Executes a.file_system c.args.call c.in-Ok.begun.reply c.finish.new.self =
    finished-executes a.file_system c.begin.new.self c.args.call c.in-Ok.begun c.in-Ok.ensures c.finish.new.self c.finish.ensures in
    let entry : Entry = record { caller = c.args.caller; call = c.args.call; reply = c.in-Ok.begun.reply } in
    IsKept-more a (record { file_system = c.finish.new.self; snapshot = a.snapshot; journal = c.push_reserved.new.self })
    c.self.invariant refl (limits-executed a.file_system c.finish.new.self c.args.call served.tree) entry
    (c.push_reserved.ensures.items ∙ ap (λ es. es ++ entry ∷ []) c.make_room.ensures.items) c.in_default.ensures.free c.in_default.ensures.small
    served.reply served.tree served.numbered c.law.ensures

pub returns-clause-applied : goal.returns-clause-applied
returns-clause-applied c = record {
  entry =
      let a = c.self.inside in
      let served : Executes a.file_system c.args.call c.in-Ok.begun.reply c.finish.new.self =
      finished-executes a.file_system c.begin.new.self c.args.call c.in-Ok.begun c.in-Ok.ensures c.finish.new.self c.finish.ensures in
      let entry : Entry = record { caller = c.args.caller; call = c.args.call; reply = c.in-Ok.begun.reply } in
      let items : c.push_reserved.new.self.items ≡ a.journal.items ++ entry ∷ [] =
      c.push_reserved.ensures.items ∙ ap (λ es. es ++ entry ∷ []) c.make_room.ensures.items in
      (λ i. record {
        start = tree_of (limits-executed a.file_system c.finish.new.self c.args.call served.tree i) a.snapshot;
        place = a.snapshot.place;
        entries = items i;
      })
      ∙ (λ i. with_entry (c.self.view_is i) (record { caller = c.args.caller; call = c.args.call; reply = (sym c.in-Ok-copy.ensures.ok) i }));
  place = search rules;
  reply =
      c.in-Ok-copy.ensures.ok ∙ c.in-Ok.ensures.reply ∙ ap (λ (t : Tree). reply_of t c.args.call) c.self.invariant.stands
      ∙ ap (λ s. reply_of (now s) c.args.call) c.self.view_is;
  lawful = (invariant_of-self-2 c).lawful;
  err = search rules;
  full = search rules;
  errors = search rules;
}

pub returns-clause-spelled : goal.returns-clause-spelled
returns-clause-spelled c =
    let t = tree_in c.self.inside.file_system in
    subst IsSpelled (sym (c.in-Ok-copy.ensures.ok ∙ c.in-Ok.ensures.reply)) (reply-spelled t c.law.ensures c.args.call)
