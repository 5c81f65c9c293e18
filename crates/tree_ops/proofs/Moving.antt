-- What a plan's moves say of its call.
use Rattle.std.proofs.Common.{◌≡◌, ◌==◌, ℕ, List, Bool, true, false, None, refl, ap, ◌∙◌, if◌then◌else◌}
use Rattle.std.specs.FinMap as finmap
use Rattle.tree_paths.specs.Rows.{first_row}
use Rattle.tree_paths.specs.declared.limits.Limits.{Limits}
use Rattle.inode_table.specs.World.{World, IsWorld, look, with_move, with_swap, without_lost}
use Rattle.inode_table.specs.Refusals.{Look}
use Rattle.tree_ops.specs.declared.call.TheConstants.{RENAME_EXCHANGE}
use Rattle.tree_ops.specs.declared.call.Counts.{Counts}
use Rattle.tree_ops.specs.declared.call.FileCall.{FileCall}
use Rattle.tree_ops.specs.declared.call.FileCall.TheVariants.{Rename, Rename2}
use Rattle.tree_ops.specs.declared.moves.Moves.TheVariants.{Nothing, Move, Exchange}
use Rattle.tree_ops.specs.CallPaths.{path_of, other_path_of}
use Rattle.tree_ops.specs.Moves.{moves_seen, moves_of}
use Rattle.tree_ops.specs.Refused.{are_same_seen, rows_of}
use Rattle.tree_ops.specs.After.{after, after_rename}
use Rattle.tree_ops.proofs.Changed.{after_exchange, renamed-nothing, renamed-moved, exchanged-nothing, exchanged-swapped}
use Rattle.tree_ops.proofs.Rows.{rename-known, move-known, exchange-known, RenameKnown, ExchangeKnown}

-- ---- what moves nothing

pub stays : (b f : Bool) → (if b then Nothing else (if f then Exchange else Move)) ≡ Nothing → b ≡ true
stays true f e = refl
stays false true e = absurd (cc)
stays false false e = absurd (cc)

pub rename-stays : (w : World) → IsWorld w → (counts : Counts) (old new : List (List ℕ)) → moves_of w (Rename old new) ≡ Nothing
    → after w counts (Rename old new) ≡ w
rename-stays w is counts old new e = renamed-nothing w is old new (stays (are_same_seen (look w old) (look w new)) false e)

pub rename2-stays : (w : World) → IsWorld w → (counts : Counts) (old new : List (List ℕ)) (flags : ℕ)
    → moves_of w (Rename2 old new flags) ≡ Nothing → after w counts (Rename2 old new flags) ≡ w
rename2-stays w is counts old new flags e = by (flags == RENAME_EXCHANGE)
  where
    same : are_same_seen (look w old) (look w new) ≡ true
    same = stays (are_same_seen (look w old) (look w new)) (flags == RENAME_EXCHANGE) e

    by : (f : Bool) → (if f then after_exchange w old new else after_rename w old new) ≡ w
    by true = exchanged-nothing w is old new same
    by false = renamed-nothing w is old new same

-- ---- a move

pub moved : (b f : Bool) → (if b then Nothing else (if f then Exchange else Move)) ≡ Move → (b ≡ false) × (f ≡ false)
moved true f e = absurd (cc)
moved false true e = absurd (cc)
moved false false e = (refl, refl)

-- what is known of two paths of which one gets what stands at the other
pub record MoveKnown (at : Look) (old new : List (List ℕ)) : Type 0 where
  pub apart : are_same_seen (at old) (at new) ≡ false
  pub known : RenameKnown at old new

pub moves-known : (at : Look) (limits : Limits) (counts : Counts) (call : FileCall) → first_row (rows_of at limits counts call) ≡ None
    → moves_seen at call ≡ Move → MoveKnown at (path_of call) (other_path_of call)
moves-known at limits counts (Rename old new) none e =
    record { apart = (moved (are_same_seen (at old) (at new)) false e).0; known = rename-known at limits counts old new none }
moves-known at limits counts (Rename2 old new flags) none e =
    let is = moved (are_same_seen (at old) (at new)) (flags == RENAME_EXCHANGE) e in
    record { apart = is.0; known = move-known at limits counts old new flags none is.1 }
moves-known at limits counts _ none e = absurd (cc)

pub moves-world : (w : World) → IsWorld w → (counts : Counts) (call : FileCall) → moves_of w call ≡ Move
    → after w counts call ≡ without_lost (with_move w (path_of call) (other_path_of call)) (finmap.get w.paths (other_path_of call))
moves-world w is counts (Rename old new) e = renamed-moved w is old new (moved (are_same_seen (look w old) (look w new)) false e).0
moves-world w is counts (Rename2 old new flags) e =
    let known = moved (are_same_seen (look w old) (look w new)) (flags == RENAME_EXCHANGE) e in
    ap (λ f. if f then after_exchange w old new else after_rename w old new) known.1 ∙ renamed-moved w is old new known.0
moves-world w is counts _ e = absurd (cc)

-- ---- an exchange

pub exchanged : (b f : Bool) → (if b then Nothing else (if f then Exchange else Move)) ≡ Exchange → (b ≡ false) × (f ≡ true)
exchanged true f e = absurd (cc)
exchanged false true e = (refl, refl)
exchanged false false e = absurd (cc)

-- what is known of two paths that are exchanged
pub record SwapKnown (at : Look) (old new : List (List ℕ)) : Type 0 where
  pub apart : are_same_seen (at old) (at new) ≡ false
  pub known : ExchangeKnown at old new

pub swaps-known : (at : Look) (limits : Limits) (counts : Counts) (call : FileCall) → first_row (rows_of at limits counts call) ≡ None
    → moves_seen at call ≡ Exchange → SwapKnown at (path_of call) (other_path_of call)
swaps-known at limits counts (Rename old new) none e = absurd (let no = (exchanged (are_same_seen (at old) (at new)) false e).1 in cc)
swaps-known at limits counts (Rename2 old new flags) none e =
    let is = exchanged (are_same_seen (at old) (at new)) (flags == RENAME_EXCHANGE) e in
    record { apart = is.0; known = exchange-known at limits counts old new flags none is.1 }
swaps-known at limits counts _ none e = absurd (cc)

pub swaps-world : (w : World) → IsWorld w → (counts : Counts) (call : FileCall) → moves_of w call ≡ Exchange
    → after w counts call ≡ with_swap w (path_of call) (other_path_of call)
swaps-world w is counts (Rename old new) e = absurd (let no = (exchanged (are_same_seen (look w old) (look w new)) false e).1 in cc)
swaps-world w is counts (Rename2 old new flags) e =
    let known = exchanged (are_same_seen (look w old) (look w new)) (flags == RENAME_EXCHANGE) e in
    ap (λ f. if f then after_exchange w old new else after_rename w old new) known.1 ∙ exchanged-swapped w is old new known.0
swaps-world w is counts _ e = absurd (cc)
