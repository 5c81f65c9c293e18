use Rattle.std.proofs.Common.{◌≡◌, ℕ, ◌+◌, ◌<◌, ◌^◌, Option, Some, None, IsSome, IfSome}
use Rattle.std.proofs.Common.{take, drop, true, false, nat_lt, length, ◌&&◌, ◌≤◌, List, refl, sym, ap, subst, ◌∙◌, inl}
use Rattle.std.proofs.Common.{inr, arith}
use Rattle.std.proofs.lemmas.Result.{on_ok_weaker, IfOk-weaker}
use borrow.Author.Tests.{ltb-true, ltb-false}
use Rattle.inode_table.specs.declared.seen.Seen.{Seen}
use Rattle.std.specs.FinMap as finmap
use Rattle.std.specs.Option.{option_map_or}
use Rattle.tree_paths.specs.Rows.{first_row}
use Rattle.inode_table.specs.Bytes.{written}
use Rattle.inode_table.specs.TableWorld.{world_of}
use Rattle.inode_table.specs.World.{World, IsWorld, changed_at, with_path, look}
use Rattle.inode_table.specs.Tree.{TableValue}
use Rattle.inode_table.specs.Resolution.{IsResolved, ResolvedPath}
use Rattle.tree_ops.proofs.Changed.{empty-seen}
use Rattle.tree_ops.proofs.Numbers.{next-free}
use Rattle.tree_ops.specs.declared.call.FileCall.{FileCall}
use Rattle.tree_ops.specs.declared.call.FileCall.TheVariants.{Create, Write, ReadFile, Truncate, Chmod, Mkdir, Link}
use Rattle.tree_ops.specs.declared.call.FileCall.TheVariants.{Unlink, Rmdir, Rename, Rename2, Stat, List as Listed}
use Rattle.tree_ops.specs.declared.answer.Answer.{Answer}
use Rattle.tree_ops.specs.declared.answer.Answer.TheVariants.{Bytes, Names}
use Rattle.tree_ops.specs.CallPaths.{path_of, other_path_of}
use Rattle.tree_ops.specs.ReadyCall.{IsReady, PlanValue}
use Rattle.tree_ops.specs.Refused.{refusal_seen, rows_of, links_seen}
use Rattle.tree_ops.specs.After.{after, answer_of, bytes_at, names_in}
use Rattle.inode_table.specs.Refusals.{is_directory_seen}
use Rattle.tree_ops.specs.declared.moves.Moves.TheVariants.{Nothing}
use Rattle.tree_ops.specs.Moves.{moves_of}
use Rattle.tree_ops.proofs.Moving.{rename-stays, rename2-stays}
use Rattle.tree_ops.proofs.Rows.{make-known, write-known, read-known, truncate-known, chmod-known, link-known}
use Rattle.tree_ops.proofs.Rows.{unlink-known, rmdir-known, find-known, list-known, LinkKnown, ListKnown}
use Rattle.tree_ops.proofs.carrying.perform.Goals as goal

-- no row of the call's kind holds for what the table shows
known : (t : TableValue) (ready view : PlanValue) (shape : FileCall) (r : IsReady t ready) → view ≡ ready → view.call ≡ shape
    → first_row (rows_of (look (world_of t)) r.limits ready.counts shape) ≡ None
unfolding refusal_seen
known t ready view shape r view_is is =
    ap (λ x. first_row (rows_of (look (world_of t)) r.limits ready.counts x)) (sym is ∙ ap (λ (x : PlanValue). x.call) view_is) ∙ r.accepted

-- the call by the path that was resolved
one-path : {t : TableValue} {ready view : PlanValue} {p : List (List ℕ)} → IsReady t ready → view ≡ ready
    → (shape : List (List ℕ) → FileCall) → path_of (shape p) ≡ p → view.call ≡ shape p → view.call ≡ shape view.path.names
one-path r view_is shape at is = is ∙ ap shape (sym (subst (λ (x : PlanValue). x.path.names ≡ path_of x.call) (sym view_is) r.names ∙ ap path_of is ∙ at))

-- the same of a call with two
two-paths : {t : TableValue} {ready view : PlanValue} {p q : List (List ℕ)} → IsReady t ready → view ≡ ready
    → (shape : List (List ℕ) → List (List ℕ) → FileCall)
    → path_of (shape p q) ≡ p → other_path_of (shape p q) ≡ q → view.call ≡ shape p q → view.call ≡ shape view.path.names view.other_path.names
two-paths r view_is shape at other_at is =
    let old = sym (subst (λ (x : PlanValue). x.path.names ≡ path_of x.call) (sym view_is) r.names ∙ ap path_of is ∙ at) in
    let new = sym (subst (λ (x : PlanValue). x.other_path.names ≡ other_path_of x.call) (sym view_is) r.other_names ∙ ap other_path_of is ∙ other_at) in
    is ∙ (λ i. shape (old i) (new i))

-- its path is resolved on the table
resolved : {t : TableValue} {ready view : PlanValue} → IsReady t ready → view ≡ ready → IsResolved t view.path
resolved {t} r view_is = subst (λ (x : PlanValue). IsResolved t x.path) (sym view_is) r.path

small : (o n most : ℕ) → (nat_lt 0 n && nat_lt most (o + n)) ≡ false → 0 < n → most ≤ 16777216 → o + n < 2 ^ 64
small o n most e some bound =
    elim (nat_lt 0 n) as (λ b. nat_lt 0 n ≡ b → (b && nat_lt most (o + n)) ≡ false → o + n < 2 ^ 64) [
      | true ↦ λ _ f. let within : o + n ≤ most = ltb-false most (o + n) f in omega arith
      | false ↦ λ f _. absurd (let none : n ≤ 0 = ltb-false 0 n f in omega arith)
    ] refl e

few : (o : Option Seen) (most : ℕ) → nat_lt (links_seen o) most ≡ true → most ≤ 65000 → IfSome o (λ s. s.links + 1 < 2 ^ 64)
few None most e bound = tt
few (Some s) most e bound = let below : s.links < most = ltb-true s.links most e in omega arith

-- the world after the call, and its answer, are those of the call of this shape
after-at : (new w : World) (ready view : PlanValue) (shape : FileCall) → view ≡ ready → view.call ≡ shape
    → new ≡ after w view.counts shape → new ≡ after w ready.counts ready.call
after-at new w ready view shape view_is is e =
    e ∙ ap (after w view.counts) (sym is) ∙ ap (λ (r : PlanValue). after w r.counts r.call) view_is

answer-at : (a : Answer) (w : World) (ready view : PlanValue) (shape : FileCall) → view ≡ ready → view.call ≡ shape
    → a ≡ answer_of w view.counts shape → a ≡ answer_of w ready.counts ready.call
answer-at a w ready view shape view_is is e =
    e ∙ ap (answer_of w view.counts) (sym is) ∙ ap (λ (r : PlanValue). answer_of w r.counts r.call) view_is

-- the new path of the plan
other-name : {plan view : PlanValue} {path : ResolvedPath} → view ≡ plan → path ≡ plan.other_path → path.names ≡ view.other_path.names
other-name view_is is = ap (λ (p : ResolvedPath). p.names) (is ∙ sym (ap (λ (x : PlanValue). x.other_path) view_is))

-- what is known of the paths of a link
link-at : (t : TableValue) (plan view : PlanValue) (r : IsReady t plan) → view ≡ plan → (p q : List (List ℕ)) (path : ResolvedPath)
    → view.call ≡ Link p q → path ≡ plan.other_path → LinkKnown (look (world_of t)) r.limits view.path.names path.names
link-at t plan view r view_is p q path is other =
    subst (λ new. LinkKnown (look (world_of t)) r.limits view.path.names new) (sym (other-name view_is other))
    (link-known (look (world_of t)) r.limits view.path.names view.other_path.names
    (known t plan view _ r view_is (two-paths r view_is (λ a b. Link a b) refl refl is)))

-- what stands at a path stands there where it is looked up
there-at : {t u : TableValue} {p q : ResolvedPath} → u ≡ t → q ≡ p → IsSome (look (world_of t) p.names) → IsSome (look (world_of u) q.names)
there-at tree path there = subst (λ (x : TableValue × ResolvedPath). IsSome (look (world_of x.0) x.1.names)) (λ i. (sym tree i, sym path i)) there

pub make-requires-clause-directory : goal.make-requires-clause-directory
make-requires-clause-directory c =
    (make-known (look (world_of c.args.table.now)) c.requires.ready.limits c.args.plan.now.counts c.plan.inside.path.now.names c.in-Create.mode
    (known c.args.table.now c.args.plan.now _ _ c.requires.ready c.plan.view_is
    (one-path c.requires.ready c.plan.view_is (λ p. Create p c.in-Create.mode) refl c.in-Create.is))).directory

pub make-requires-clause-free : goal.make-requires-clause-free
make-requires-clause-free c =
    (make-known (look (world_of c.args.table.now)) c.requires.ready.limits c.args.plan.now.counts c.plan.inside.path.now.names c.in-Create.mode
    (known c.args.table.now c.args.plan.now _ _ c.requires.ready c.plan.view_is
    (one-path c.requires.ready c.plan.view_is (λ p. Create p c.in-Create.mode) refl c.in-Create.is))).free

pub make-requires-clause-named : goal.make-requires-clause-named
make-requires-clause-named c =
    (make-known (look (world_of c.args.table.now)) c.requires.ready.limits c.args.plan.now.counts c.plan.inside.path.now.names c.in-Create.mode
    (known c.args.table.now c.args.plan.now _ _ c.requires.ready c.plan.view_is
    (one-path c.requires.ready c.plan.view_is (λ p. Create p c.in-Create.mode) refl c.in-Create.is))).named

pub make-requires-in-Mkdir-clause-directory : goal.make-requires-in-Mkdir-clause-directory
make-requires-in-Mkdir-clause-directory c =
    (make-known (look (world_of c.args.table.now)) c.requires.ready.limits c.args.plan.now.counts c.plan.inside.path.now.names c.in-Mkdir.mode
    (known c.args.table.now c.args.plan.now _ _ c.requires.ready c.plan.view_is
    (one-path c.requires.ready c.plan.view_is (λ p. Mkdir p c.in-Mkdir.mode) refl c.in-Mkdir.is))).directory

pub make-requires-in-Mkdir-clause-free : goal.make-requires-in-Mkdir-clause-free
make-requires-in-Mkdir-clause-free c =
    (make-known (look (world_of c.args.table.now)) c.requires.ready.limits c.args.plan.now.counts c.plan.inside.path.now.names c.in-Mkdir.mode
    (known c.args.table.now c.args.plan.now _ _ c.requires.ready c.plan.view_is
    (one-path c.requires.ready c.plan.view_is (λ p. Mkdir p c.in-Mkdir.mode) refl c.in-Mkdir.is))).free

pub make-requires-in-Mkdir-clause-named : goal.make-requires-in-Mkdir-clause-named
make-requires-in-Mkdir-clause-named c =
    (make-known (look (world_of c.args.table.now)) c.requires.ready.limits c.args.plan.now.counts c.plan.inside.path.now.names c.in-Mkdir.mode
    (known c.args.table.now c.args.plan.now _ _ c.requires.ready c.plan.view_is
    (one-path c.requires.ready c.plan.view_is (λ p. Mkdir p c.in-Mkdir.mode) refl c.in-Mkdir.is))).named

pub write-requires-clause-there : goal.write-requires-clause-there
write-requires-clause-there c =
    (write-known (look (world_of c.args.table.now)) c.requires.ready.limits c.plan.inside.path.now.names c.in-Write.offset (length c.in-Write.bytes)
    (known c.args.table.now c.args.plan.now _ _ c.requires.ready c.plan.view_is
    (one-path c.requires.ready c.plan.view_is (λ p. Write p c.in-Write.offset c.in-Write.bytes) refl c.in-Write.is))).0.there

pub write-requires-clause-regular : goal.write-requires-clause-regular
write-requires-clause-regular c =
    (write-known (look (world_of c.args.table.now)) c.requires.ready.limits c.plan.inside.path.now.names c.in-Write.offset (length c.in-Write.bytes)
    (known c.args.table.now c.args.plan.now _ _ c.requires.ready c.plan.view_is
    (one-path c.requires.ready c.plan.view_is (λ p. Write p c.in-Write.offset c.in-Write.bytes) refl c.in-Write.is))).0.regular

pub write-requires-clause-range : goal.write-requires-clause-range
write-requires-clause-range c some =
    small c.in-Write.offset (length c.as_slice.result.now) c.requires.ready.limits.file_bytes
    (ap (λ (b : List ℕ). nat_lt 0 (length b) && nat_lt c.requires.ready.limits.file_bytes (c.in-Write.offset + length b)) c.as_slice.ensures
    ∙ (write-known (look (world_of c.args.table.now)) c.requires.ready.limits c.plan.inside.path.now.names c.in-Write.offset (length c.in-Write.bytes)
    (known c.args.table.now c.args.plan.now _ _ c.requires.ready c.plan.view_is
    (one-path c.requires.ready c.plan.view_is (λ p. Write p c.in-Write.offset c.in-Write.bytes) refl c.in-Write.is))).1)
    some c.requires.ready.limits.file_bytes_in.1

pub read-requires : goal.read-requires
read-requires c =
    there-at c.new-path.ensures.tree c.new-path.ensures.path
    (read-known (look (world_of c.args.table.now)) c.plan.inside.path.now.names
    (known c.args.table.now c.args.plan.now _ _ c.requires.ready c.plan.view_is
    (one-path c.requires.ready c.plan.view_is (λ p. ReadFile p c.in-ReadFile.offset c.in-ReadFile.count) refl c.in-ReadFile.is))).there

pub truncate-requires-clause-there : goal.truncate-requires-clause-there
truncate-requires-clause-there c =
    (truncate-known (look (world_of c.args.table.now)) c.requires.ready.limits c.plan.inside.path.now.names c.in-Truncate.len
    (known c.args.table.now c.args.plan.now _ _ c.requires.ready c.plan.view_is
    (one-path c.requires.ready c.plan.view_is (λ p. Truncate p c.in-Truncate.len) refl c.in-Truncate.is))).there

pub truncate-requires-clause-regular : goal.truncate-requires-clause-regular
truncate-requires-clause-regular c =
    (truncate-known (look (world_of c.args.table.now)) c.requires.ready.limits c.plan.inside.path.now.names c.in-Truncate.len
    (known c.args.table.now c.args.plan.now _ _ c.requires.ready c.plan.view_is
    (one-path c.requires.ready c.plan.view_is (λ p. Truncate p c.in-Truncate.len) refl c.in-Truncate.is))).regular

pub set_mode-requires : goal.set_mode-requires
set_mode-requires c =
    record {
      resolved = resolved c.requires.ready c.plan.view_is;
      there = chmod-known (look (world_of c.args.table.now)) c.plan.inside.path.now.names c.in-Chmod.mode
          (known c.args.table.now c.args.plan.now _ _ c.requires.ready c.plan.view_is
          (one-path c.requires.ready c.plan.view_is (λ p. Chmod p c.in-Chmod.mode) refl c.in-Chmod.is));
    }

pub add_name-requires-clause-source : goal.add_name-requires-clause-source
add_name-requires-clause-source c =
    (link-at c.args.table.now c.args.plan.now _ c.requires.ready c.plan.view_is _ _ _ c.in-Link.is c.other_path.ensures).file.there

pub add_name-requires-clause-regular : goal.add_name-requires-clause-regular
add_name-requires-clause-regular c =
    (link-at c.args.table.now c.args.plan.now _ c.requires.ready c.plan.view_is _ _ _ c.in-Link.is c.other_path.ensures).file.regular

pub add_name-requires-clause-links : goal.add_name-requires-clause-links
add_name-requires-clause-links c =
    few (look (world_of c.args.table.now) c.plan.inside.path.now.names) c.requires.ready.limits.links
    (link-at c.args.table.now c.args.plan.now _ c.requires.ready c.plan.view_is _ _ _ c.in-Link.is c.other_path.ensures).links
    c.requires.ready.limits.links_in.1

pub add_name-requires-clause-directory : goal.add_name-requires-clause-directory
add_name-requires-clause-directory c =
    (link-at c.args.table.now c.args.plan.now _ c.requires.ready c.plan.view_is _ _ _ c.in-Link.is c.other_path.ensures).directory

pub add_name-requires-clause-free : goal.add_name-requires-clause-free
add_name-requires-clause-free c = (link-at c.args.table.now c.args.plan.now _ c.requires.ready c.plan.view_is _ _ _ c.in-Link.is c.other_path.ensures).free

pub add_name-requires-clause-named : goal.add_name-requires-clause-named
add_name-requires-clause-named c = (link-at c.args.table.now c.args.plan.now _ c.requires.ready c.plan.view_is _ _ _ c.in-Link.is c.other_path.ensures).named

pub unlink-requires-clause-there : goal.unlink-requires-clause-there
unlink-requires-clause-there c =
    (unlink-known (look (world_of c.args.table.now)) c.plan.inside.path.now.names
    (known c.args.table.now c.args.plan.now _ _ c.requires.ready c.plan.view_is
    (one-path c.requires.ready c.plan.view_is (λ p. Unlink p) refl c.in-Unlink.is))).there

pub unlink-requires-clause-regular : goal.unlink-requires-clause-regular
unlink-requires-clause-regular c =
    (unlink-known (look (world_of c.args.table.now)) c.plan.inside.path.now.names
    (known c.args.table.now c.args.plan.now _ _ c.requires.ready c.plan.view_is
    (one-path c.requires.ready c.plan.view_is (λ p. Unlink p) refl c.in-Unlink.is))).regular

pub drop_name-requires-clause-there : goal.drop_name-requires-clause-there
drop_name-requires-clause-there c =
    let known = (rmdir-known (look (world_of c.args.table.now)) c.plan.inside.path.now.names
    (known c.args.table.now c.args.plan.now _ _ c.requires.ready c.plan.view_is
    (one-path c.requires.ready c.plan.view_is (λ p. Rmdir p) refl c.in-Rmdir.is))) in
    empty-seen (look (world_of c.args.table.now) c.plan.inside.path.now.names) known.there known.empty

pub drop_name-requires-clause-named : goal.drop_name-requires-clause-named
drop_name-requires-clause-named c =
    (rmdir-known (look (world_of c.args.table.now)) c.plan.inside.path.now.names
    (known c.args.table.now c.args.plan.now _ _ c.requires.ready c.plan.view_is
    (one-path c.requires.ready c.plan.view_is (λ p. Rmdir p) refl c.in-Rmdir.is))).named

pub stat-requires : goal.stat-requires
stat-requires c =
    there-at c.new.ensures.tree c.new.ensures.path
    (find-known (look (world_of c.args.table.now)) c.plan.inside.path.now.names
    (known c.args.table.now c.args.plan.now _ _ c.requires.ready c.plan.view_is
    (one-path c.requires.ready c.plan.view_is (λ p. Stat p) refl c.in-Stat.is)))

pub returns-in-Create-clause-world : goal.returns-in-Create-clause-world
returns-in-Create-clause-world c =
    on_ok_weaker c.make.result
    (after-at _ (world_of c.args.table.now) _ _ _ c.plan.view_is
    (one-path c.requires.ready c.plan.view_is (λ p. Create p c.in-Create.mode) refl c.in-Create.is))
    c.make.ensures.world

pub returns-in-Mkdir-clause-world : goal.returns-in-Mkdir-clause-world
returns-in-Mkdir-clause-world c =
    on_ok_weaker c.make-in-Mkdir.result
    (after-at _ (world_of c.args.table.now) _ _ _ c.plan.view_is
    (one-path c.requires.ready c.plan.view_is (λ p. Mkdir p c.in-Mkdir.mode) refl c.in-Mkdir.is))
    c.make-in-Mkdir.ensures.world

pub returns-in-Truncate-clause-world : goal.returns-in-Truncate-clause-world
returns-in-Truncate-clause-world c =
    on_ok_weaker c.truncate.result
    (after-at _ (world_of c.args.table.now) _ _ _ c.plan.view_is
    (one-path c.requires.ready c.plan.view_is (λ p. Truncate p c.in-Truncate.len) refl c.in-Truncate.is))
    c.truncate.ensures.world

pub returns-in-Chmod-clause-world : goal.returns-in-Chmod-clause-world
returns-in-Chmod-clause-world c =
    after-at _ (world_of c.args.table.now) _ _ _ c.plan.view_is
    (one-path c.requires.ready c.plan.view_is (λ p. Chmod p c.in-Chmod.mode) refl c.in-Chmod.is) (c.set_mode.ensures.world)

pub returns-in_ok-add_name-in-Link-clause-world : goal.returns-in_ok-add_name-in-Link-clause-world
returns-in_ok-add_name-in-Link-clause-world c =
    after-at _ (world_of c.args.table.now) _ _ _ c.plan.view_is (two-paths c.requires.ready c.plan.view_is (λ p q. Link p q) refl refl c.in-Link.is)
    (c.in_ok-add_name-in-Link.ensures.world
    ∙ (λ i. option_map_or (with_path (world_of c.args.table.now) (other-name c.plan.view_is c.other_path.ensures i))
    (finmap.get (world_of c.args.table.now).paths c.plan.inside.path.now.names) (world_of c.args.table.now)))

pub returns-in-Unlink-clause-world : goal.returns-in-Unlink-clause-world
returns-in-Unlink-clause-world c =
    after-at _ (world_of c.args.table.now) _ _ _ c.plan.view_is
    (one-path c.requires.ready c.plan.view_is (λ p. Unlink p) refl c.in-Unlink.is) (c.unlink.ensures.world)

pub returns-in-Rmdir-clause-world : goal.returns-in-Rmdir-clause-world
returns-in-Rmdir-clause-world c =
    after-at _ (world_of c.args.table.now) _ _ _ c.plan.view_is
    (one-path c.requires.ready c.plan.view_is (λ p. Rmdir p) refl c.in-Rmdir.is) (c.drop_name.ensures.world)

pub returns-in-Write-clause-world : goal.returns-in-Write-clause-world
returns-in-Write-clause-world c =
    on_ok_weaker c.write.result
    (λ e. after-at _ (world_of c.args.table.now) _ _ _ c.plan.view_is
    (one-path c.requires.ready c.plan.view_is (λ p. Write p c.in-Write.offset c.in-Write.bytes) refl c.in-Write.is)
    (e
    ∙ ap (λ x. changed_at (world_of c.args.table.now) c.plan.inside.path.now.names (λ f. record f { bytes = written c.in-Write.offset x f.bytes }))
    c.as_slice.ensures))
    c.write.ensures.world

pub returns-in-ReadFile-clause-answer : goal.returns-in-ReadFile-clause-answer
returns-in-ReadFile-clause-answer c =
    IfOk-weaker c.read.result _ _
    (λ a is. answer-at a (world_of c.args.table.now) _ _ _ c.plan.view_is
    (one-path c.requires.ready c.plan.view_is (λ p. ReadFile p c.in-ReadFile.offset c.in-ReadFile.count) refl c.in-ReadFile.is)
    (is
    ∙ (λ i. Bytes (take c.in-ReadFile.count (drop c.in-ReadFile.offset (bytes_at (world_of (c.new-path.ensures.tree i)) (c.new-path.ensures.path i).names))))))
    c.read.ensures.answer

-- what is known of the path of a list
list-at : (t : TableValue) (plan view : PlanValue) (r : IsReady t plan) → view ≡ plan → (p : List (List ℕ)) → view.call ≡ Listed p
    → ListKnown (look (world_of t)) view.path.names
list-at t plan view r view_is p is = list-known (look (world_of t)) view.path.names (known t plan view _ r view_is (one-path r view_is (λ q. Listed q) refl is))

pub list_names-requires-clause-there : goal.list_names-requires-clause-there
list_names-requires-clause-there c =
    there-at c.new-in-List.ensures.tree c.new-in-List.ensures.path
    (list-at c.args.table.now c.args.plan.now _ c.requires.ready c.plan.view_is _ c.in-List.is).there

pub list_names-requires-clause-directory : goal.list_names-requires-clause-directory
list_names-requires-clause-directory c =
    (λ i. is_directory_seen (look (world_of (c.new-in-List.ensures.tree i)) (c.new-in-List.ensures.path i).names))
    ∙ (list-at c.args.table.now c.args.plan.now _ c.requires.ready c.plan.view_is _ c.in-List.is).directory

pub returns-in-List-clause-answer : goal.returns-in-List-clause-answer
returns-in-List-clause-answer c =
    IfOk-weaker c.list_names.result _ _
    (λ a is. answer-at a (world_of c.args.table.now) _ _ _ c.plan.view_is (one-path c.requires.ready c.plan.view_is (λ p. Listed p) refl c.in-List.is)
    (is ∙ (λ i. Names (names_in (world_of (c.new-in-List.ensures.tree i)) (c.new-in-List.ensures.path i).names))))
    c.list_names.ensures.answer

pub make-requires-clause-unused : goal.make-requires-clause-unused
make-requires-clause-unused c =
    subst (λ n. finmap.get (world_of c.args.table.now).files n ≡ None) (sym (ap (λ (r : PlanValue). r.counts.next_number) c.plan.view_is))
    (next-free (world_of c.args.table.now) c.args.plan.now.counts.next_number c.requires.ready.numbers)

pub make-requires-in-Mkdir-clause-unused : goal.make-requires-in-Mkdir-clause-unused
make-requires-in-Mkdir-clause-unused c =
    subst (λ n. finmap.get (world_of c.args.table.now).files n ≡ None) (sym (ap (λ (r : PlanValue). r.counts.next_number) c.plan.view_is))
    (next-free (world_of c.args.table.now) c.args.plan.now.counts.next_number c.requires.ready.numbers)

-- ---- a rename that moves nothing

rename-at : (t : TableValue) (plan view : PlanValue) → IsReady t plan → view ≡ plan → plan.moves ≡ Nothing → IsWorld (world_of t)
    → (old new : List (List ℕ)) → view.call ≡ Rename old new → world_of t ≡ after (world_of t) plan.counts plan.call
rename-at t plan view r view_is still law old new is =
    let call : plan.call ≡ Rename old new = sym (ap (λ (x : PlanValue). x.call) view_is) ∙ is in
    sym (ap (after (world_of t) plan.counts) call
    ∙ rename-stays (world_of t) law plan.counts old new (ap (moves_of (world_of t)) (sym call) ∙ sym r.moves ∙ still))

rename2-at : (t : TableValue) (plan view : PlanValue) → IsReady t plan → view ≡ plan → plan.moves ≡ Nothing → IsWorld (world_of t)
    → (old new : List (List ℕ)) (flags : ℕ) → view.call ≡ Rename2 old new flags → world_of t ≡ after (world_of t) plan.counts plan.call
rename2-at t plan view r view_is still law old new flags is =
    let call : plan.call ≡ Rename2 old new flags = sym (ap (λ (x : PlanValue). x.call) view_is) ∙ is in
    sym (ap (after (world_of t) plan.counts) call
    ∙ rename2-stays (world_of t) law plan.counts old new flags (ap (moves_of (world_of t)) (sym call) ∙ sym r.moves ∙ still))

pub returns-in-Rename-clause-world : goal.returns-in-Rename-clause-world
returns-in-Rename-clause-world c =
    let t = c.args.table.now in
    elim c.in-Rename.is [
      | inl of ↦ rename-at t c.args.plan.now _ c.requires.ready c.plan.view_is c.requires.moves c.law.ensures.world of.0 of.1 of.2
      | inr of ↦ rename2-at t c.args.plan.now _ c.requires.ready c.plan.view_is c.requires.moves c.law.ensures.world of.0 of.1 of.2 of.3
    ]
