use Rattle.std.proofs.Common.{rules, w32, SFits, to_z, of_z, ap, subst, refl, inl, sym, ◌∙◌, not, None, Some, Err}
use Rattle.std.proofs.lemmas.Int.{to_z-of_z}
use Rattle.std.specs.Prelude.{◌≡◌, ◌⊎◌}
use Rattle.tree_paths.specs.declared.refusal.Refusal.TheVariants.{Ebadf, Enomem}
use Rattle.inode_table.specs.contracts.seen.KindPartialEq.TheImpl as derived
use Rattle.inode_table.specs.declared.seen.Kind.{Kind}
use Rattle.inode_table.specs.declared.seen.Kind.TheVariants.{Regular, Directory}
use Rattle.inode_table.specs.Refusals.{find, is_directory_kind}
use Rattle.inode_table.specs.TableWorld.{world_of}
use Rattle.inode_table.specs.World.{look}
use Rattle.watch_table.specs.Masks.{known}
use Rattle.watch_table.specs.Watching.{add_refusal, wd_added}
use Rattle.instance_table.specs.Instances.{Instances, instance_of, watching}
use Rattle.tree_core.specs.declared.call.Call.TheVariants as call
use Rattle.tree_core.specs.declared.file_system.FileSystem.{FileSystem}
use Rattle.tree_core.specs.declared.reply.Reply.TheVariants as reply
use Rattle.tree_core.specs.FileSystems.{tree_in}
use Rattle.tree_core.specs.Tree.{refusal_of}
use Rattle.tree_core.proofs.Serving.{failed-attempts, complete-attempts}
use Rattle.tree_core.proofs.Instances.{copied-none, copied-some, at-instance, either-of, add-bad-there, add-mask-there}
use Rattle.tree_core.proofs.Instances.{add-path-there, add-seen-there, answer-there, watching-there, IsNumbered-changed}
use Rattle.tree_core.proofs.file_system.FileSystem.add_watch.Goals as goal
use Rattle.tree_core.proofs.Parts.{number_seen}

-- the derived test of kinds decides whether a file is a directory
tells-directory : (k : Kind) → derived.ghosts.eq k Directory ≡ is_directory_kind k
tells-directory Regular = refl
tells-directory Directory = refl

pub returns-then-is_none : goal.returns-then-is_none
returns-then-is_none c =
    let m = c.args.self.now in
    let none = copied-none c.find.result (instance_of m.instances c.args.id) c.find.ensures (c.is_none.ensures ∙ ap not c.if-is_none.true) in
    failed-attempts m m (call.AddWatch c.args.id c.args.path.now c.args.mask) (Err Ebadf) Ebadf refl
    (inl (add-bad-there (world_of m.table) m.instances c.args.id c.args.path.now c.args.mask none)) refl

pub returns-in-Some : goal.returns-in-Some
returns-in-Some c =
    let m = c.args.self.now in
    let found = copied-some c.find.result (instance_of m.instances c.args.id) c.find.ensures (c.is_none.ensures ∙ ap not c.if-is_none.false) in
    failed-attempts m m (call.AddWatch c.args.id c.args.path.now c.args.mask) (Err c.in-Some.refusal) c.in-Some.refusal refl
    (inl (add-mask-there (world_of m.table) m.instances c.args.id found.0 c.args.path.now c.args.mask c.of-mask.result.0 found.1
    c.of-mask.ensures c.in-Some.refusal c.in-Some.ensures))
    refl

pub returns-in_err-seen : goal.returns-in_err-seen
returns-in_err-seen c =
    let m = c.args.self.now in
    let found = copied-some c.find.result (instance_of m.instances c.args.id) c.find.ensures (c.is_none.ensures ∙ ap not c.if-is_none.false) in
    let r = c.in_err-seen.field-0.0 in
    let missing = subst (λ p. find (look (world_of m.table)) p ≡ Some r) c.resolve.ensures.names c.in_err-seen.ensures.missing in
    failed-attempts m m (call.AddWatch c.args.id c.args.path.now c.args.mask) c.from_residual.result r c.from_residual.ensures.1
    (inl (add-path-there (world_of m.table) m.instances c.args.id found.0 c.args.path.now c.args.mask c.of-mask.result.0 found.1
    c.of-mask.ensures r c.in_default.ensures missing))
    refl

pub returns : goal.returns
returns c =
    let m = c.args.self.now in
    let found = copied-some c.find.result (instance_of m.instances c.args.id) c.find.ensures (c.is_none.ensures ∙ ap not c.if-is_none.false) in
    let i = found.0 in
    let n = c.of-mask.result.0 in
    let seen = c.in_ok-seen.seen in
    let there = subst (λ p. find (look (world_of m.table)) p ≡ None) c.resolve.ensures.names c.in_ok-seen.ensures.none in
    let at = subst (λ p. look (world_of m.table) p ≡ Some seen) c.resolve.ensures.names c.in_ok-seen.ensures.seen in
    let free = at-instance (λ i. add_refusal i.watches seen.number n c.eq-is_directory.result ≡ None)
    (instance_of m.instances c.args.id) i found.1 c.in_ok-wd.ensures.accepted in
    let wd = at-instance (λ i. c.in_ok-wd.wd ≡ wd_added i.watches seen.number) (instance_of m.instances c.args.id) i found.1 c.in_ok-wd.ensures.wd in
    let fits : SFits w32 c.in_ok-wd.wd = search rules in
    let same = to_z-of_z w32 c.in_ok-wd.wd fits in
    complete-attempts m _ (call.AddWatch c.args.id c.args.path.now c.args.mask) c.complete.result
    (reply.Wd (to_z w32 (of_z w32 c.in_ok-wd.wd))) c.complete.ensures
    (add-seen-there (world_of m.table) m.instances c.args.id i c.args.path.now c.args.mask n found.1 c.of-mask.ensures seen None c.in_default.ensures there at
    (ap (λ d. add_refusal i.watches seen.number n d) (sym (c.eq-is_directory.ensures ∙ tells-directory seen.kind)) ∙ free))
    (ap reply.Wd (same ∙ wd) ∙ answer-there (world_of m.table) m.instances c.args.id i c.args.path.now c.args.mask n found.1 c.of-mask.ensures seen at)
    (ap (λ (x : Instances). record (tree_in m) { instances = x })
    (watching-there (world_of m.table) m.instances c.args.id i c.args.path.now c.args.mask n found.1 c.of-mask.ensures seen
    c.watch.new.self at c.in_ok-wd.ensures.ok))
    (IsNumbered-changed (tree_in m) c.requires c.args.id (watching (number_seen (look (world_of m.table) c.args.path.now)) (known c.args.mask)))
    refl

pub returns-in_err-wd : goal.returns-in_err-wd
returns-in_err-wd c =
    let m : FileSystem = c.args.self.now in
    let found = copied-some c.find.result (instance_of m.instances c.args.id) c.find.ensures (c.is_none.ensures ∙ ap not c.if-is_none.false) in
    let i = found.0 in
    let n = c.of-mask.result.0 in
    let seen = c.in_ok-seen.seen in
    let r = c.in_err-wd.field-0.0 in
    let there = subst (λ p. find (look (world_of m.table)) p ≡ None) c.resolve.ensures.names c.in_ok-seen.ensures.none in
    let at = subst (λ p. look (world_of m.table) p ≡ Some seen) c.resolve.ensures.names c.in_ok-seen.ensures.seen in
    let either = at-instance (λ i. (add_refusal i.watches seen.number n c.eq-is_directory.result ≡ Some r) ⊎ (r ≡ Enomem))
    (instance_of m.instances c.args.id) i found.1 c.in_err-wd.ensures.refusals in
    let why : add_refusal i.watches seen.number n c.eq-is_directory.result ≡ Some r
    → refusal_of (tree_in m) (call.AddWatch c.args.id c.args.path.now c.args.mask) ≡ Some r =
    λ why. add-seen-there (world_of m.table) m.instances c.args.id i c.args.path.now c.args.mask n found.1 c.of-mask.ensures seen
    (Some r) c.in_default.ensures there at
    (ap (λ d. add_refusal i.watches seen.number n d) (sym (c.eq-is_directory.ensures ∙ tells-directory seen.kind)) ∙ why) in
    failed-attempts m _ (call.AddWatch c.args.id c.args.path.now c.args.mask) c.from_residual-in_err-wd.result r c.from_residual-in_err-wd.ensures.1
    (either-of why either)
    (ap (λ (x : Instances). record (tree_in m) { instances = x }) c.in_err-wd.ensures.err)
