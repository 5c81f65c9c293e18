-- Names compared one by one.
use Rattle.std.proofs.Common.{◌≡◌, ℕ, Bool, List, nat_eq}
use Rattle.std.specs.Bool.{Decides}
use Rattle.std.specs.Cmp.Lexicographic.{pointwise}
use Rattle.std.proofs.lemmas.Slice.Eq.{slice_eq-Decides, bytes_eq-Decides}

pub names_eq-Decides : (xs ys : List (List ℕ)) (r : Bool) → r ≡ pointwise (pointwise nat_eq) xs ys → Decides r (xs ≡ ys)
names_eq-Decides xs ys r h = slice_eq-Decides bytes_eq-Decides xs ys r h
