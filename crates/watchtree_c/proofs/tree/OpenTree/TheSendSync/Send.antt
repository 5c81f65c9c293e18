-- A handle may go to another thread, as the box that it owns may.
use mir.Raw.{raw}
use base.Shift.{Keyless}
use denote.Memory.{lone}
use denote.RawPtr.{Ptr}
use denote.Struct.Struct.{exits_of}
use denote.Struct.Owning.{shape, fields, to}
use denote.Param.Send.{IsSend, AllSend, owning_send, struct_send, sendable}
use Rattle.std.proofs.Crossing as heap
use Rattle.std_alloc.proofs.SendSync.{quiet, lies}
use Rattle.std_heap.proofs.Global.TheSendSync as handle
use Rattle.std.specs.Prelude.{Option, Some, None}
use Rattle.std.specs.Global.{Global}
use Rattle.watchtree_c.specs.contracts.opened.Opened as Opened
use Rattle.watchtree_c.proofs.opened.Opened.TheSendSync.{the_send as opened}
use Rattle.watchtree_c.specs.Owned.{held_owns, Content}
use Rattle.watchtree_c.specs.contracts.tree.OpenTree.{the_row, the_type}

owned_keyless : (alloc : Global) (at : Ptr) (o : Option Content) → Keyless (held_owns alloc at o)
owned_keyless alloc at (Some s) = (lies Opened.the_row opened at s, heap.frees.frees alloc (raw (lone Opened.the_row.mir)) at)
owned_keyless alloc at None = tt

pub send : IsSend the_row
send =
    let all : AllSend (fields the_type) = (search sendable, (handle.the_field_send, tt)) in
    owning_send the_type all (λ d. owned_keyless d.alloc d.at d.state)
    (λ k. quiet (to the_type) (exits_of k (fields the_type)) ((struct_send (shape the_type) all).leaving k))
