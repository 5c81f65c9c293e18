-- A refusal by its number, which no fault has.
use Rattle.std.proofs.Common.{◌≡◌, ◌==◌, ℕ, ◌<◌, List, [], ◌∷◌, Option, Some, None, refl, sym, ap, ◌∙◌, arith, if◌then◌else◌}
use Rattle.std.specs.Prelude.{pos, neg_ℤ}
use Rattle.std.proofs.lemmas.Int.{ints}
use Rattle.std.proofs.lemmas.Option.{same_Some}
use Rattle.tree_paths.specs.declared.refusal.Refusal.{Refusal}
use Rattle.tree_paths.specs.declared.refusal.Refusal.TheVariants.{Eperm, Enoent, Ebadf, Eagain, Enomem, Ebusy, Eexist}
use Rattle.tree_paths.specs.declared.refusal.Refusal.TheVariants.{Enotdir, Eisdir, Einval, Emfile, Efbig, Enospc}
use Rattle.tree_paths.specs.declared.refusal.Refusal.TheVariants.{Emlink, Enametoolong, Enotempty, JournalFull}
use Rattle.tree_paths.specs.declared.refusal.Refusal.TheVariants.{PipeFull, Piped, CookiesSpent, NotPiped, SeatsSpent}
use Rattle.tree_paths.specs.declared.refusal.Refusal.TheVariants.{NumbersSpent}
use Rattle.tree_paths.specs.Refusals.{refusal_number}
use Rattle.watchtree_script.specs.declared.fault.ScriptFault.{ScriptFault}
use Rattle.watchtree_script.specs.declared.fault.ScriptFault.TheVariants.{BadByte, UnknownCommand, WrongNumber, BadEscape, BadMode, BadHex, BadMask, BadNumber}
use Rattle.watchtree_c.specs.Lines.{fault_number}

-- the first of these with a number
abbrev first_with : ℕ → List Refusal → Option Refusal
first_with n [] = None
first_with n (r ∷ rs) = if refusal_number r == n then Some r else first_with n rs

abbrev refusals : List Refusal
refusals =
    Eperm ∷ Enoent ∷ Ebadf ∷ Eagain ∷ Enomem ∷ Ebusy ∷ Eexist ∷ Enotdir ∷ Eisdir ∷ Einval ∷ Emfile ∷ Efbig ∷ Enospc ∷ Emlink
    ∷ Enametoolong ∷ Enotempty ∷ JournalFull
    ∷ PipeFull ∷ Piped ∷ CookiesSpent ∷ NotPiped ∷ SeatsSpent ∷ NumbersSpent ∷ []

found : (r : Refusal) → first_with (refusal_number r) refusals ≡ Some r
found Eperm = refl
found Enoent = refl
found Ebadf = refl
found Eagain = refl
found Enomem = refl
found Ebusy = refl
found Eexist = refl
found Enotdir = refl
found Eisdir = refl
found Einval = refl
found Emfile = refl
found Efbig = refl
found Enospc = refl
found Emlink = refl
found Enametoolong = refl
found Enotempty = refl
found JournalFull = refl
found PipeFull = refl
found Piped = refl
found CookiesSpent = refl
found NotPiped = refl
found SeatsSpent = refl
found NumbersSpent = refl

-- a number is that of one refusal
pub one_refusal : (r s : Refusal) → refusal_number r ≡ refusal_number s → r ≡ s
one_refusal r s e = same_Some r s (sym (found r) ∙ ap (λ n. first_with n refusals) e ∙ found s)

low : (r : Refusal) → refusal_number r < 1101
low Eperm = omega arith
low Enoent = omega arith
low Ebadf = omega arith
low Eagain = omega arith
low Enomem = omega arith
low Ebusy = omega arith
low Eexist = omega arith
low Enotdir = omega arith
low Eisdir = omega arith
low Einval = omega arith
low Emfile = omega arith
low Efbig = omega arith
low Enospc = omega arith
low Emlink = omega arith
low Enametoolong = omega arith
low Enotempty = omega arith
low JournalFull = omega arith
low PipeFull = omega arith
low Piped = omega arith
low CookiesSpent = omega arith
low NotPiped = omega arith
low SeatsSpent = omega arith
low NumbersSpent = omega arith

high : (f : ScriptFault) → 1100 < fault_number f
high BadByte = omega arith
high UnknownCommand = omega arith
high WrongNumber = omega arith
high BadEscape = omega arith
high BadMode = omega arith
high BadHex = omega arith
high BadMask = omega arith
high BadNumber = omega arith

pub no_fault : (r : Refusal) (f : ScriptFault) → refusal_number r ≡ fault_number f → ⊥
no_fault r f e = let l = low r in let h = high f in omega (arith, e)

pub same_number : (n m : ℕ) → neg_ℤ (pos n) ≡ neg_ℤ (pos m) → n ≡ m
same_number n m e = omega (arith, ints, e)
