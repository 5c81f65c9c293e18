-- The bytes that reads answered are those of the records that were read.
use Rattle.std.proofs.Common.{◌≡◌, ℕ, Bool, true, false, if◌then◌else◌, ◌==◌, List, [], ◌∷◌, ◌++◌, Option, Some, None, refl, sym, ap, ◌∙◌}
use Rattle.std.proofs.lemmas.Bool.{eqb-true}
use Rattle.std.specs.Option.{option_map_or}
use Rattle.std.proofs.lemmas.Grind.{flat_map-append}
use Rattle.record_codec.specs.Records.{record_bytes, spelling}
use Rattle.tree_paths.specs.declared.refusal.Refusal.{Refusal}
use Rattle.instance_table.specs.declared.instance.Instance.{Instance}
use Rattle.instance_table.specs.Instances.{instance_of}
use Rattle.tree_core.specs.declared.call.Call.{Call}
use Rattle.tree_core.specs.declared.call.Call.TheVariants as call
use Rattle.tree_core.specs.declared.reply.Entry.{Entry}
use Rattle.tree_core.specs.declared.reply.Reply.{Reply}
use Rattle.tree_core.specs.declared.reply.Reply.TheVariants as reply
use Rattle.tree_core.specs.Tree.{Tree, refusal_of, accepted_reply, reply_of, after, oldest}
use Rattle.tree_core.specs.Journal.{IsLawfulFrom}
use Rattle.tree_core.specs.Histories.{where_open, records_for, read_by, read_in}
use Rattle.tree_core.specs.QueueLaws.{bytes_of, bytes_read, BytesAreOfRecords}
use Rattle.tree_core.proofs.Parts.{read_answer, reply_by}

-- ---- one call

none-of-none : (b : Bool) → let none : List ℕ = [] in none ≡ (if b then none else none)
none-of-none true = refl
none-of-none false = refl

refused-bytes : (id : ℕ) (c : Call) (r : Refusal) → bytes_of id c (reply.Refused r) ≡ []
refused-bytes id (call.File f) r = refl
refused-bytes id (call.Init limit is_piped) r = refl
refused-bytes id (call.AddWatch from p mask) r = refl
refused-bytes id (call.RmWatch from wd) r = refl
refused-bytes id (call.Read from count) r = refl
refused-bytes id (call.Pump from count) r = refl
refused-bytes id (call.Close from) r = refl

-- the bytes of the records that a read answers
abbrev answer_bytes : ℕ → Option Instance → List ℕ
answer_bytes bytes o = option_map_or (λ i. spelling (oldest bytes i)) o []

read-bytes : (from id bytes : ℕ) (o : Option Instance)
    → bytes_of id (call.Read from bytes) (read_answer bytes o) ≡ (if from == id then answer_bytes bytes o else [])
read-bytes from id bytes None = none-of-none (from == id)
read-bytes from id bytes (Some i) = refl

pump-bytes : (from id bytes : ℕ) (o : Option Instance)
    → bytes_of id (call.Pump from bytes) (read_answer bytes o) ≡ (if from == id then answer_bytes bytes o else [])
pump-bytes from id bytes None = none-of-none (from == id)
pump-bytes from id bytes (Some i) = refl

-- what a read of one instance answers, and what is read of the other
answered : (m : Bool) (bytes : ℕ) (o : Option Instance)
    → (if m then answer_bytes bytes o else []) ≡ spelling (where_open None o (λ i. if m then oldest bytes i else []))
answered true bytes None = refl
answered true bytes (Some i) = refl
answered false bytes None = refl
answered false bytes (Some i) = refl

same-answer : (t : Tree) (from id bytes : ℕ) (m : Bool) → (from == id) ≡ m
    → (if m then answer_bytes bytes (instance_of t.instances from) else [])
    ≡ (if m then answer_bytes bytes (instance_of t.instances id) else [])
same-answer t from id bytes true e = ap (λ (n : ℕ). answer_bytes bytes (instance_of t.instances n)) (eqb-true from id e)
same-answer t from id bytes false e = refl

nothing-read : (o : Option Instance) → [] ≡ spelling (where_open None o (λ i. []))
nothing-read None = refl
nothing-read (Some i) = refl

accepted-bytes : (t : Tree) (c : Call) (id : ℕ)
    → bytes_of id c (accepted_reply t c) ≡ spelling (where_open None (instance_of t.instances id) (records_for c id))
accepted-bytes t (call.File f) id = nothing-read (instance_of t.instances id)
accepted-bytes t (call.Init limit is_piped) id = nothing-read (instance_of t.instances id)
accepted-bytes t (call.AddWatch from p mask) id = nothing-read (instance_of t.instances id)
accepted-bytes t (call.RmWatch from wd) id = nothing-read (instance_of t.instances id)
accepted-bytes t (call.Read from bytes) id =
    read-bytes from id bytes (instance_of t.instances from) ∙ same-answer t from id bytes (from == id) refl
    ∙ answered (from == id) bytes (instance_of t.instances id)
accepted-bytes t (call.Pump from bytes) id =
    pump-bytes from id bytes (instance_of t.instances from) ∙ same-answer t from id bytes (from == id) refl
    ∙ answered (from == id) bytes (instance_of t.instances id)
accepted-bytes t (call.Close from) id = nothing-read (instance_of t.instances id)

by-refusal : (t : Tree) (c : Call) (id : ℕ) (o : Option Refusal)
    → bytes_of id c (reply_by o (accepted_reply t c)) ≡ spelling (where_open o (instance_of t.instances id) (records_for c id))
by-refusal t c id (Some r) = refused-bytes id c r
by-refusal t c id None = accepted-bytes t c id

step-bytes : (t : Tree) (c : Call) (id : ℕ) → bytes_of id c (reply_of t c) ≡ spelling (read_by t c id)
unfolding read_by
step-bytes t c id = by-refusal t c id (refusal_of t c)

-- ---- a journal

run-bytes : (t : Tree) (es : List Entry) (id : ℕ) → IsLawfulFrom t es → bytes_read id es ≡ spelling (read_in t es id)
run-bytes t [] id h = refl
run-bytes t (e ∷ es) id h =
    ap (λ (r : Reply). bytes_of id e.call r ++ bytes_read id es) h.0
    ∙ ap (λ (bytes : List ℕ). bytes ++ bytes_read id es) (step-bytes t e.call id)
    ∙ ap (λ (bytes : List ℕ). spelling (read_by t e.call id) ++ bytes) (run-bytes (after t e.call) es id h.1)
    ∙ sym (flat_map-append record_bytes (read_by t e.call id) (read_in (after t e.call) es id))

pub bytes_are_of_records : BytesAreOfRecords
bytes_are_of_records = run-bytes
