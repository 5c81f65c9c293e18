-- Journals, and what they stand for.
use Rattle.std.specs.Prelude.{◌≡◌, ℕ, ◌+◌, ◌-◌, ◌^◌, ◌≤◌, ◌⊎◌, List, [], ◌∷◌, ◌++◌, ⊤, Option, None, option_map, length}
use Rattle.std.specs.Prelude.{if◌then◌else◌, nat_le, slice_get}
use Rattle.tree_paths.specs.declared.limits.Limits.{Limits}
use Rattle.instance_table.specs.Instances.{instance_of}
use Rattle.tree_core.specs.declared.reply.Entry.{Entry}
use Rattle.tree_core.specs.Tree.{Tree, opening, reply_of, after}

-- the tree after the calls of a journal
abbrev pub tree_after : Tree → List Entry → Tree
tree_after t [] = t
tree_after t (e ∷ es) = tree_after (after t e.call) es

-- each reply is the one of the tree before it
abbrev pub IsLawfulFrom : Tree → List Entry → Type 0
IsLawfulFrom t [] = ⊤
IsLawfulFrom t (e ∷ es) = (e.reply ≡ reply_of t e.call) × IsLawfulFrom (after t e.call) es

-- what a whole journal stands for
unfoldable pub stands_for : Limits → List Entry → Tree
stands_for limits es = tree_after (opening limits) es

unfoldable pub IsLawful : Limits → List Entry → Type 0
IsLawful limits es = IsLawfulFrom (opening limits) es

-- a state, as its callers see it: the tree at the last cut, at first the opening tree; the sequence number of the last
-- entry before it; and the entries since
pub record Journaled : Type 0 where
  pub start : Tree
  pub place : ℕ
  pub entries : List Entry

-- the tree that a state stands for
unfoldable pub now : Journaled → Tree
now s = tree_after s.start s.entries

-- the sequence number of the last entry
abbrev pub last_place : Journaled → ℕ
last_place s = s.place + length s.entries

-- a state with no entry yet
abbrev pub opened : Limits → Journaled
opened limits = record { start = opening limits; place = 0; entries = [] }

-- a state after one more entry
abbrev pub with_entry : Journaled → Entry → Journaled
with_entry s e = record s { entries = s.entries ++ e ∷ [] }

-- a state whose journal is cut
abbrev pub cut_off : Journaled → Journaled
cut_off s = record { start = now s; place = last_place s; entries = [] }

-- the entry with a sequence number, where one since the cut has it
abbrev pub entry_at : Journaled → ℕ → Option Entry
entry_at s place = if nat_le place s.place then None else slice_get s.entries (place - s.place - 1)

-- the journal is full: there are as many entries since the cut as the limit says, or all sequence numbers were given
abbrev pub IsSpent : Journaled → Type 0
IsSpent s = (s.start.limits.journal ≤ length s.entries) ⊎ (2 ^ 64 ≤ last_place s + 1)

-- the entries that were cut off: a lawful journal that leads to the tree at the cut, with this last sequence number
pub record IsPast (start : Tree) (place : ℕ) (past : List Entry) : Type 0 where
  pub lawful : IsLawful start.limits past
  pub places : length past ≡ place
  pub leads : stands_for start.limits past ≡ start

abbrev pub HasPast : Tree → ℕ → Type 0
HasPast start place = (past : List Entry) × IsPast start place past

-- how many records wait in the instance of a number
unfoldable pub waiting_in : Tree → ℕ → Option ℕ
waiting_in t id = option_map (λ i. length i.queue.waiting) (instance_of t.instances id)
