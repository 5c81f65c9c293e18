-- The bytes of a file after a write or a change of its length.
use Rattle.std.specs.Prelude.{ℕ, ◌+◌, ◌-◌, List, [], ◌∷◌, ◌++◌, length, take, drop, replicate}

-- as many bytes (POSIX.1-2017 `truncate`): cut, or filled up with zero bytes
abbrev pub resized : ℕ → List ℕ → List ℕ
resized len bytes = take len bytes ++ replicate (len - length bytes) 0

-- the bytes from an offset on are written over, and a gap is filled with zero bytes (POSIX.1-2017 `pwrite`).
-- A write of no bytes changes nothing
abbrev pub written : ℕ → List ℕ → List ℕ → List ℕ
written offset [] bytes = bytes
written offset (b ∷ new) bytes = resized offset bytes ++ ((b ∷ new) ++ drop (offset + length (b ∷ new)) bytes)
