-- What a row of an index of watchers stands for. No public clause cites this module.
use Rattle.std.specs.FinMap as map
use Rattle.file_watchers.specs.declared.watchers.Row.{Row}
use Rattle.file_watchers.specs.declared.watchers.Row.TheVariants.{One, Four, Eight, Sixteen, Several}
use Rattle.file_watchers.specs.Watchers.{WatchMap}

-- the instances of a row, with their watches
abbrev pub row_map : Row → WatchMap
row_map (One id watch) = map.insert map.empty id watch
row_map (Four four) = four.value
row_map (Eight eight) = eight.value
row_map (Sixteen sixteen) = sixteen.value
row_map (Several several) = several.value
