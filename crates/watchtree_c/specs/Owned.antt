-- What a handle owns: what C opened, in its box, where it has one. No public clause cites this module.
use Rattle.std.specs.Prelude.{Option, Some, None}
use Rattle.std.specs.Coded.{Coded, coded_option}
use base.Fml.{Fml, ftrue}
use denote.RawPtr.{Ptr}
use Rattle.std.specs.Box.Ownership.{box_owns}
use Rattle.std.specs.Global.{Global}
use Rattle.std.specs.contracts.impls.GlobalAllocator.TheImpl.{ghosts}
use Rattle.watchtree_c.specs.contracts.opened.Opened.{the_row}

-- what is opened, as contracts see it
abbrev pub Content : Type 0
Content = the_row.Denot

abbrev pub held_code : Coded (Option Content)
held_code = coded_option the_row.coded

abbrev pub held_owns : Global → Ptr → Option Content → Fml
held_owns alloc at (Some opened) = box_owns (ghosts.dealloc_token alloc) the_row at opened
held_owns alloc at None = ftrue
