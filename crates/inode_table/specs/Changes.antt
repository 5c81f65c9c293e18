-- What one step changes: in the rows, and in where paths lead. No public clause cites this module.
use Rattle.std.specs.Prelude.{◌≡◌, ℕ, ◌&&◌, ◌==◌, cond, List, Option, Some, None, ◌+◌, ◌-◌, ◌≢◌, true, ◌++◌}
use Rattle.std.specs.Option.{option_map}
use Rattle.inode_table.specs.Bytes.{resized, written}
use Rattle.inode_table.specs.Rows.{Rows, Label, What, child, what, same_label, Body, bytes_in, key_in}
use Rattle.inode_table.specs.Kept.{is_directory}
use Rattle.inode_table.specs.Tree.{TableValue, at}

module _ {N : Type 0} where
  -- the path has one more end
  pub record AddsPath (old new : List N → Option ℕ) (path : List N) (end : ℕ) : Type 0 where
    pub added : new path ≡ Some end
    pub others : (p : List N) → p ≢ path → new p ≡ old p

  -- the path leads nowhere now
  pub record DropsPath (old new : List N → Option ℕ) (path : List N) : Type 0 where
    pub dropped : new path ≡ None
    pub others : (p : List N) → p ≢ path → new p ≡ old p

  -- the path does not begin with these labels
  abbrev pub Avoids : List N → List N → Type 0
  Avoids front p = (s : List N) → p ≢ front ++ s

  -- what was below the path `from` is below `to`, and what was below `to` is gone
  pub record MovesPath (old new : List N → Option ℕ) (from to : List N) : Type 0 where
    pub moved : (s : List N) → new (to ++ s) ≡ old (from ++ s)
    pub gone : (s : List N) → Avoids to (from ++ s) → new (from ++ s) ≡ None
    pub others : (p : List N) → Avoids from p → Avoids to p → new p ≡ old p

  -- what was below each path is below the other
  pub record SwapsPaths (old new : List N → Option ℕ) (one other : List N) : Type 0 where
    pub to_other : (s : List N) → new (other ++ s) ≡ old (one ++ s)
    pub to_one : (s : List N) → new (one ++ s) ≡ old (other ++ s)
    pub others : (p : List N) → Avoids one p → Avoids other p → new p ≡ old p

-- the names of a directory, where this one now has the key (`None`: it is gone)
pub record SetsKey (old new : Body) (name : Label) (key : Option ℕ) : Type 0 where
  pub bytes : bytes_in new ≡ bytes_in old
  pub keys : (l : Label) → key_in new l ≡ cond (same_label name l) key (key_in old l)

-- the directory now has this at the name (`None`: nothing), and all else stays
pub record SetsChild (old new : Rows) (directory : ℕ) (name : Label) (key : Option ℕ) : Type 0 where
  pub child : (k : ℕ) (l : Label) → child new k l ≡ cond (k == directory && same_label name l) key (child old k l)
  pub what : (k : ℕ) → what new k ≡ what old k

-- a directory to which a path leads
pub record IsOpen (t : TableValue) (directory : ℕ) : Type 0 where
  pub path : List Label
  pub there : at t path ≡ Some directory
  pub kind : is_directory t.rows directory ≡ true

abbrev pub one_link_less : What → What
one_link_less w = record w { links = w.links - 1 }

abbrev pub one_link_more : What → What
one_link_more w = record w { links = w.links + 1 }

-- this node, if any, has one link less, and all else stays
pub record LosesLink (old new : Rows) (node : Option ℕ) : Type 0 where
  pub here : (k : ℕ) → node ≡ Some k → what new k ≡ option_map one_link_less (what old k)
  pub others : (k : ℕ) → node ≢ Some k → what new k ≡ what old k

abbrev pub with_links : ℕ → What → What
with_links n w = record w { links = n }

abbrev pub with_mode : ℕ → What → What
with_mode n w = record w { mode = n }

abbrev pub with_bytes : List ℕ → What → What
with_bytes bs w = record w { bytes = Some bs }

abbrev pub with_written : ℕ → List ℕ → What → What
with_written offset new w = record w { bytes = option_map (written offset new) w.bytes }

abbrev pub with_len : ℕ → What → What
with_len len w = record w { bytes = option_map (resized len) w.bytes }

-- one node changes so, and all else stays
pub record ChangesWhat (old new : Rows) (key : ℕ) (change : What → What) : Type 0 where
  pub here : what new key ≡ option_map change (what old key)
  pub others : (k : ℕ) → k ≢ key → what new k ≡ what old k
