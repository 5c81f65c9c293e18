use Rattle.std.proofs.Common.{◌≡◌, [], ap, sym, ◌∙◌, rules}
use Rattle.std.proofs.lemmas.List.{nil_from_length}
use Rattle.std.specs.FinMap as finmap
use Rattle.file_watchers.specs.Watchers.{WatchMap, watchers_map}
use Rattle.file_watchers.proofs.Zipped.{none-watch, watchers-keys}
use Rattle.file_watchers.proofs.several.Several.is_empty.Goals as goal

pub returns : goal.returns
returns c =
    let ids = c.self.inside.ids.items in
    let ws = c.self.inside.watches.items in
    let none : c.args.self.now ≡ finmap.empty → ids ≡ [] =
    λ e. sym (watchers-keys ids ws c.self.invariant) ∙ ap (λ (m : WatchMap). finmap.keys m) (c.self.view_is ∙ e) ∙ watchers-keys [] [] none-watch in (
      λ h. sym c.self.view_is ∙ ap (λ xs. watchers_map xs ws) (nil_from_length ids (search rules)),
      λ e. let is = none e in search rules,
    )
