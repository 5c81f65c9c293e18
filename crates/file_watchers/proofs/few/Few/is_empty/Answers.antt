use Rattle.std.proofs.Common.{◌≡◌, [], ap, sym, ◌∙◌, rules}
use Rattle.std.proofs.lemmas.List.{nil_from_length}
use Rattle.std.specs.FinMap as finmap
use Rattle.file_watchers.specs.Watchers.{WatchMap, watchers_map}
use Rattle.file_watchers.proofs.Zipped.{none-watch, watchers-keys}
use Rattle.file_watchers.proofs.few.Few.is_empty.Goals as goal

pub returns : goal.returns
returns g c =
    let ids = c.as_slices.result.0.now in
    let ws = c.as_slices.result.1.now in
    let none : c.args.self.now ≡ finmap.empty → ids ≡ [] =
    λ e. sym (watchers-keys ids ws c.as_slices.ensures.watchers) ∙ ap (λ (m : WatchMap). finmap.keys m) (c.as_slices.ensures.map ∙ e)
    ∙ watchers-keys [] [] none-watch in (
      λ h. sym c.as_slices.ensures.map ∙ ap (λ xs. watchers_map xs ws) (nil_from_length ids (search rules)),
      λ e. let is = none e in search rules,
    )
