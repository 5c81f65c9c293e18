-- Whether a read answers a byte.
use Rattle.std.proofs.Common.{◌≡◌, ℕ, zero, suc, false, List, [], take, drop, Some, None, refl}
use Rattle.std.specs.Option.{option_and_then, option_map, unwrap_or}
use Rattle.std.specs.FinMap as finmap
use Rattle.inode_table.specs.World.{World, File, look}
use Rattle.inode_table.proofs.WorldLemmas.{seen_as}
use Rattle.tree_ops.specs.After.{bytes_at}
use Rattle.event_rules.proofs.EveryCall.{has_byte}

-- where nothing is seen there are no bytes
pub bytes-none : (w : World) (p : List (List ℕ)) → look w p ≡ None → bytes_at w p ≡ []
unfolding look
bytes-none w p none =
    elim (finmap.get w.paths p) as (λ o. option_and_then (λ n. option_map (seen_as w p n) (finmap.get w.files n)) o ≡ None
    → unwrap_or (option_map (λ (f : File). f.bytes) (option_and_then (finmap.get w.files) o)) [] ≡ []) [
      | None ↦ λ _. refl
      | Some n ↦ λ e. elim (finmap.get w.files n) as (λ o. option_map (seen_as w p n) o ≡ None → unwrap_or (option_map (λ (f : File). f.bytes) o) [] ≡ []) [
        | None ↦ λ _. refl
        | Some f ↦ λ g. absurd (cc)
      ] e
    ] none

pub nothing-read : (offset count : ℕ) → has_byte (take count (drop offset [])) ≡ false
nothing-read zero zero = refl
nothing-read zero (suc n) = refl
nothing-read (suc m) zero = refl
nothing-read (suc m) (suc n) = refl
