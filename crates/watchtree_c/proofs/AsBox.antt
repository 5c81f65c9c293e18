-- A handle that is open, and its parts, own what a box of what is open owns.
use mir.Syntax.{impl, tnil, dnil}
use mathlib.Core.List.{[]}
use denote.Signature.{Slot, plain}
use Rattle.std_alloc.proofs.BoxSteps.Form.{Bx}
use Rattle.std_heap.specs.contracts.Global as Heap
use Rattle.std_heap.specs.contracts.GlobalAllocator.TheImpl.{ghosts, dict}
use Rattle.std_heap.proofs.Global.TheLaws as heap
use Rattle.std.proofs.Common.{◌≡◌, refl, sym, true, true≢false}
use Rattle.std.specs.Prelude.{Option, Some, None, is_some}
use Rattle.watchtree_c.specs.Owned.{Content}
use Rattle.watchtree_c.specs.contracts.opened.Opened as Opened
use Rattle.watchtree_c.proofs.opened.Opened.TheLaws as opened
use Rattle.watchtree_c.specs.contracts.parts.Parts as Parts
use Rattle.watchtree_c.specs.contracts.tree.OpenTree as OpenTree

abbrev pub E : Bx
E =
    record {
      row = Opened.the_row;
      laws = opened.the_row_laws;
      al = record { row = Heap.the_row; laws = heap.the_row_laws; g = ghosts; d = dict; drops = impl [] tnil dnil };
    }

abbrev pub FromParts : Slot 0
FromParts = plain (λ _. Parts.the_row Opened.the_row Heap.the_row ghosts)

abbrev pub FromHeld : Slot 0
FromHeld = plain (λ _. OpenTree.the_row)

-- a content that is there
pub content_of : (o : Option Content) → is_some o ≡ true → (x : Content) × (o ≡ Some x)
content_of (Some x) e = (x, refl)
content_of None e = absurd (true≢false (sym e))
