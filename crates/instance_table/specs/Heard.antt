-- How staged events and ended watches are delivered, one after the other. No public clause cites this module.
use Rattle.std.specs.Prelude.{List, fold}
use Rattle.watch_table.specs.Watching.{removed}
use Rattle.event_queue.specs.Backlogs.{after_offer}
use Rattle.event_rules.specs.declared.staged.StagedEvent.{StagedEvent}
use Rattle.event_rules.specs.declared.staged.StagedEnd.{StagedEnd}
use Rattle.instance_table.specs.declared.instance.Instance.{Instance}
use Rattle.instance_table.specs.Instances.{Instances, changed}

-- an instance that receives an event, and one of which a watch ends
abbrev pub with_event : StagedEvent → Instance → Instance
with_event h i = record i { queue = after_offer i.queue h.event }

abbrev pub ends : StagedEnd → Instance → Instance
ends d i = record i { watches = removed i.watches d.wd }

-- the instances once each event was delivered, and once each of the watches ended
abbrev pub delivered_all : Instances → List StagedEvent → Instances
delivered_all m hs = fold (λ m h. changed m h.id (with_event h)) m hs

abbrev pub ended_all : Instances → List StagedEnd → Instances
ended_all m ds = fold (λ m d. changed m d.id (ends d)) m ds
