-- The numbers of the instances that a storm makes.
use Rattle.std.proofs.Common.{◌≡◌, ◌+◌, ◌++◌, ℕ, Bool, List, [], ◌∷◌, Option, Some, None, true, refl, sym, ap, ◌∙◌, append_assoc}
use Rattle.tree_paths.specs.declared.limits.Limits.{Limits}
use Rattle.tree_paths.specs.declared.refusal.Refusal.{Refusal}
use Rattle.tree_ops.specs.declared.call.FileCall.{FileCall}
use Rattle.tree_core.specs.declared.call.Call.{Call}
use Rattle.tree_core.specs.declared.call.Call.TheVariants as call
use Rattle.tree_core.specs.declared.reply.Kept.{Kept}
use Rattle.tree_core.specs.declared.reply.Receipt.{Receipt}
use Rattle.tree_core.specs.declared.reply.Reply.{Reply}
use Rattle.tree_core.specs.declared.reply.Reply.TheVariants as reply
use Rattle.tree_core.specs.Tree.{Tree, opening, refusal_of, after_file, accepted, accepted_reply, after}
use Rattle.tree_core.specs.Journal.{Journaled, now, opened}
use Rattle.tree_core.proofs.Parts.{reply_by, tree_by}
use Rattle.tree_core.proofs.Lawful.{now-entry}
use Rattle.shared_tree.specs.Calls.{JoinsJournal, TreeWithPipes, tree_with_pipes}
use Rattle.shared_tree.specs.Pipes.{Fed, fed, feed_of}
use Rattle.shared_tree.specs.Seats.{Seated, seated}
use Rattle.watchtree_storm.specs.Storm.{IsDirectory, IsListening}

-- the number that the next instance gets
abbrev pub next : Journaled → ℕ
next s = (now s).next_id

-- at first
pub next-at-first : (limits : Limits) → next (opened limits) ≡ 1
unfolding opening now
next-at-first limits = refl

file-by : (t : Tree) (f : FileCall) (r : Option Refusal) → (tree_by r t (accepted t (call.File f))).next_id ≡ t.next_id
unfolding after_file
file-by t f None = refl
file-by t f (Some why) = refl

watch-by : (t : Tree) (id : ℕ) (path : List (List ℕ)) (mask : ℕ) (r : Option Refusal)
    → (tree_by r t (accepted t (call.AddWatch id path mask))).next_id ≡ t.next_id
watch-by t id path mask None = refl
watch-by t id path mask (Some why) = refl

same-id : (a b : ℕ) → reply.Instance a ≡ reply.Instance b → a ≡ b
same-id a b e = cc

init-by : (t : Tree) (limit : ℕ) (is_piped : Bool) (id : ℕ) (r : Option Refusal) → reply.Instance id ≡ reply_by r (accepted_reply t (call.Init limit is_piped))
    → (id ≡ t.next_id) × ((tree_by r t (accepted t (call.Init limit is_piped))).next_id ≡ t.next_id + 1)
init-by t limit is_piped id None e = (same-id id t.next_id e, refl)
init-by t limit is_piped id (Some why) e = absurd (cc)

after-call : (old new : Journaled) (seat left : Seated) (c : Call) (r : Receipt) → JoinsJournal old seat c new left r → now new ≡ after (now old) c
after-call old new seat left c r joins = ap now joins.entry ∙ now-entry old (record { caller = seat.number; call = c; reply = r.reply })

-- a call on files leaves it
pub next-of-file : (old new : Journaled) (seat left : Seated) (f : FileCall) (r : Receipt)
    → JoinsJournal old seat (call.File f) new left r → next new ≡ next old
next-of-file old new seat left f r joins =
    ap (λ (t : Tree). t.next_id) (after-call old new seat left (call.File f) r joins)
    ∙ file-by (now old) f (refusal_of (now old) (call.File f))

-- and so does a watch
pub next-of-watch : (old new : Journaled) (seat left : Seated) (id : ℕ) (path : List (List ℕ)) (mask : ℕ) (r : Receipt)
    → JoinsJournal old seat (call.AddWatch id path mask) new left r → next new ≡ next old
next-of-watch old new seat left id path mask r joins =
    ap (λ (t : Tree). t.next_id) (after-call old new seat left (call.AddWatch id path mask) r joins)
    ∙ watch-by (now old) id path mask (refusal_of (now old) (call.AddWatch id path mask))

-- an instance that is made has it, and the one after it is next
pub next-of-made : (old new : Journaled) (seat left : Seated) (limit : ℕ) (is_piped : Bool) (id : ℕ) (r : Receipt)
    → JoinsJournal old seat (call.Init limit is_piped) new left r → r.reply ≡ reply.Instance id
    → (id ≡ next old) × (next new ≡ next old + 1)
next-of-made old new seat left limit is_piped id r joins is =
    let by = init-by (now old) limit is_piped id (refusal_of (now old) (call.Init limit is_piped)) (sym is ∙ joins.reply) in
    (by.0, ap (λ (t : Tree). t.next_id) (after-call old new seat left (call.Init limit is_piped) r joins) ∙ by.1)

-- the feed of an instance that was made is at its pipe
feed-is : (r : Reply) (slots : ℕ) (f : Fed) → Some f ≡ feed_of r slots → (r ≡ reply.Instance f.instance) × (f ≡ fed f.instance [] slots)
feed-is (reply.Instance id) slots f e =
    let is : f ≡ fed id [] slots = cc in
    (ap (λ (x : Fed). reply.Instance x.instance) (sym is), is ∙ ap (λ (x : Fed). fed x.instance [] slots) (sym is))
feed-is (reply.File answer) slots f e = absurd (cc)
feed-is (reply.Wd wd) slots f e = absurd (cc)
feed-is (reply.Records bytes) slots f e = absurd (cc)
feed-is reply.Done slots f e = absurd (cc)
feed-is (reply.Refused why) slots f e = absurd (cc)

-- who made the next instance, and watches the directory by it, listens at its pipe
pub listens : (old mid new : Journaled) (seat between left : Seated) (slots : ℕ) (made told : Receipt) (f : Fed) (path : List (List ℕ))
    → JoinsJournal old seat (call.Init 16384 true) mid between made → Some f ≡ feed_of made.reply slots
    → IsDirectory path → JoinsJournal mid between (call.AddWatch f.instance path 4095) new left told
    → (f ≡ fed (next old) [] slots) × (next new ≡ next old + 1) × IsListening (next old) seat left
listens old mid new seat between left slots made told f path opens feed_is is_dir watches =
    let at = feed-is made.reply slots f feed_is in
    let is = next-of-made old mid seat between 16384 true f.instance made opens at.0 in
    let first : Kept = record { place = made.place; call = call.Init 16384 true; reply = made.reply } in
    let second : Kept = record { place = told.place; call = call.AddWatch f.instance path 4095; reply = told.reply } in (
      at.1 ∙ ap (λ (n : ℕ). fed n [] slots) is.0,
      next-of-watch mid new between left f.instance path 4095 told watches ∙ is.1,
      (
        path,
        first,
        second,
        is_dir,
        refl,
        at.0 ∙ ap reply.Instance is.0,
        ap (λ (n : ℕ). call.AddWatch n path 4095) is.0,
        watches.kept ∙ ap (λ (s : Seated). seated s.number (s.kept ++ second ∷ [])) opens.kept
            ∙ ap (seated seat.number) (append_assoc seat.kept (first ∷ []) (second ∷ [])),
      ),
    )

-- the first instance is made after one call on files
pub first-next : (held : TreeWithPipes) (limits : Limits) (new : Journaled) (seat left : Seated) (f : FileCall)
    (r : Receipt)
    → held ≡ tree_with_pipes (opened limits) [] [] 0 → JoinsJournal held.state seat (call.File f) new left r
    → next new ≡ 1
first-next held limits new seat left f r is joins =
    next-of-file held.state new seat left f r joins ∙ ap (λ (h : TreeWithPipes). next h.state) is ∙ next-at-first limits
