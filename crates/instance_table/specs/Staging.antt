-- What notices raise for their recipients.
use Rattle.std.specs.Prelude.{◌≡◌, ℕ, ℤ, ◌==◌, List, Some, map, fold}
use Rattle.std.specs.List.{filter}
use Rattle.record_codec.specs.declared.event.Event.{Event}
use Rattle.watch_table.specs.Watching.{removed}
use Rattle.event_rules.specs.declared.notice.Notice.{Notice}
use Rattle.event_rules.specs.declared.staged.StagedEvent.{StagedEvent}
use Rattle.event_rules.specs.declared.staged.StagedEnd.{StagedEnd}
use Rattle.event_rules.specs.Raised.{events_of, watches_after}
use Rattle.instance_table.specs.declared.instance.Instance.{Instance}
use Rattle.instance_table.specs.declared.staging.Staging.{Staging}
use Rattle.instance_table.specs.Instances.{Instances, instance_of}

-- the events that an instance receives
abbrev pub events_to : ℕ → List StagedEvent → List Event
events_to id hs = map (λ h. h.event) (filter (λ h. id == h.id) hs)

-- the descriptors of the watches of an instance that end
abbrev pub wds_to : ℕ → List StagedEnd → List ℤ
wds_to id ds = map (λ d. d.wd) (filter (λ d. id == d.id) ds)

-- what is staged for each instance is what the notices raise for its watches, and the watches that end leave the others
pub record IsStaged (m : Instances) (ns : List Notice) (s : Staging) : Type 0 where
  pub events : (id : ℕ) (i : Instance) → instance_of m id ≡ Some i
      → events_to id s.staged.events.items ≡ events_of i.watches ns
  pub drops : (id : ℕ) (i : Instance) → instance_of m id ≡ Some i
      → fold removed i.watches (wds_to id s.staged.drops.items) ≡ watches_after i.watches ns
