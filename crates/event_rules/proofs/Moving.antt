-- The notices of a call, by what it moves.
use Rattle.std.proofs.Common.{◌≡◌, ◌==◌, ◌≤◌, ◌<◌, ◌+◌, ◌^◌, ℕ, List, [], Bool, true, false, ap, ◌∙◌, if◌then◌else◌, arith}
use Rattle.inode_table.specs.World.{World, look}
use Rattle.tree_ops.specs.declared.call.TheConstants.{RENAME_EXCHANGE}
use Rattle.tree_ops.specs.declared.call.FileCall.{FileCall}
use Rattle.tree_ops.specs.declared.call.FileCall.TheVariants.{Rename, Rename2}
use Rattle.tree_ops.specs.declared.moves.Moves.TheVariants.{Nothing, Move, Exchange}
use Rattle.tree_ops.specs.CallPaths.{path_of, other_path_of}
use Rattle.tree_ops.specs.Moves.{moves_of, cookies_of, cookies_for}
use Rattle.tree_ops.specs.Refused.{are_same_seen}
use Rattle.tree_ops.proofs.Moving.{moved, exchanged, stays}
use Rattle.event_rules.specs.Table.{notices_of, rename_told, move_told, swap_told}
use Rattle.event_rules.proofs.EveryCall.{exchange_told}

rename-by : (w : World) (old new : List (List ℕ)) (cookie : ℕ) (b : Bool) → are_same_seen (look w old) (look w new) ≡ b
    → rename_told (look w) old new cookie ≡ (if b then [] else move_told (look w) old new cookie)
unfolding rename_told
rename-by w old new cookie b e = ap (λ c. if c then [] else move_told (look w) old new cookie) e

exchange-by : (w : World) (old new : List (List ℕ)) (cookie : ℕ) (b : Bool) → are_same_seen (look w old) (look w new) ≡ b
    → exchange_told (look w) old new cookie ≡ (if b then [] else swap_told (look w) old new cookie)
exchange-by w old new cookie b e = ap (λ c. if c then [] else swap_told (look w) old new cookie) e

pub rename-tells-nothing : (w : World) (old new : List (List ℕ)) (cookie : ℕ) → moves_of w (Rename old new) ≡ Nothing
    → notices_of w (Rename old new) cookie ≡ []
rename-tells-nothing w old new cookie e = rename-by w old new cookie true (stays (are_same_seen (look w old) (look w new)) false e)

pub rename2-tells-nothing : (w : World) (old new : List (List ℕ)) (flags cookie : ℕ)
    → moves_of w (Rename2 old new flags) ≡ Nothing → notices_of w (Rename2 old new flags) cookie ≡ []
rename2-tells-nothing w old new flags cookie e = by (flags == RENAME_EXCHANGE)
  where
    same : are_same_seen (look w old) (look w new) ≡ true
    same = stays (are_same_seen (look w old) (look w new)) (flags == RENAME_EXCHANGE) e

    by : (f : Bool) → (if f then exchange_told (look w) old new cookie else rename_told (look w) old new cookie) ≡ []
    by true = exchange-by w old new cookie true same
    by false = rename-by w old new cookie true same

pub moves-tell : (w : World) (call : FileCall) (cookie : ℕ) → moves_of w call ≡ Move
    → notices_of w call cookie ≡ move_told (look w) (path_of call) (other_path_of call) cookie
moves-tell w (Rename old new) cookie e = rename-by w old new cookie false (moved (are_same_seen (look w old) (look w new)) false e).0
moves-tell w (Rename2 old new flags) cookie e =
    let is = moved (are_same_seen (look w old) (look w new)) (flags == RENAME_EXCHANGE) e in
    ap (λ f. if f then exchange_told (look w) old new cookie else rename_told (look w) old new cookie) is.1 ∙ rename-by w old new cookie false is.0
moves-tell w _ cookie e = absurd (cc)

pub swaps-tell : (w : World) (call : FileCall) (cookie : ℕ) → moves_of w call ≡ Exchange
    → notices_of w call cookie ≡ swap_told (look w) (path_of call) (other_path_of call) cookie
swaps-tell w (Rename old new) cookie e = absurd (let no = (exchanged (are_same_seen (look w old) (look w new)) false e).1 in cc)
swaps-tell w (Rename2 old new flags) cookie e =
    let is = exchanged (are_same_seen (look w old) (look w new)) (flags == RENAME_EXCHANGE) e in
    ap (λ f. if f then exchange_told (look w) old new cookie else rename_told (look w) old new cookie) is.1 ∙ exchange-by w old new cookie false is.0
swaps-tell w _ cookie e = absurd (cc)

-- an exchange leaves its second cookie in range
pub next-fits : (w : World) (call : FileCall) (cookie : ℕ) → moves_of w call ≡ Exchange → cookie + cookies_of w call ≤ 2 ^ 32 → cookie + 1 < 2 ^ 32
next-fits w call cookie e most =
    let two : cookies_of w call ≡ 2 = ap cookies_for e in
    omega arith
