use Rattle.std.proofs.Common.{◌≡◌, ℕ, ◌<◌, Bool, true, false, sym, ap, ◌∙◌, arith, le-leb}
use Rattle.std.specs.Prelude.{◌||◌, nat_le, nat_lt}
use Rattle.std.specs.FinMap as map
use Rattle.std.proofs.lemmas.Bool.Decides.{nat_tests}
use Rattle.watch_table.specs.Watching.{Watching, is_full}
use Rattle.watch_table.specs.Index.{watching_of}
use Rattle.watch_table.proofs.watches.Watches.is_full.Goals as goal

above : (a b : ℕ) → a < b → nat_le b a ≡ false
above a b h = grind (arith, nat_tests)

by_test : (w : Watching) (len : ℕ) (b : Bool) → map.len w.watches ≡ len → nat_le w.most_watches len ≡ b → (b || nat_lt w.last_wd w.next_wd) ≡ is_full w
by_test w len b e f = ap (λ x. x || nat_lt w.last_wd w.next_wd) (sym f) ∙ ap (λ n. nat_le w.most_watches n || nat_lt w.last_wd w.next_wd) (sym e)

pub returns-then-len-self : goal.returns-then-len-self
returns-then-len-self c =
    let a = c.self.inside in
    let len = ap (λ w. map.len w.watches) c.self.view_is ∙ sym c.len.ensures in
    let at_most = le-leb a.most_watches c.len.result c.if-len-self.true in
    at_most ∙ by_test (watching_of a) c.len.result true len at_most ∙ ap is_full c.self.view_is

pub returns-else-len-self : goal.returns-else-len-self
returns-else-len-self c =
    let a = c.self.inside in
    let len = ap (λ w. map.len w.watches) c.self.view_is ∙ sym c.len.ensures in
    by_test (watching_of a) c.len.result false len (above c.len.result a.most_watches c.if-len-self.false) ∙ ap is_full c.self.view_is
