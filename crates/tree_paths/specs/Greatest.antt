-- The greatest values of limits: the last ones that are given.
use Rattle.std.specs.Prelude.{ℕ, ◌-◌, ◌^◌}

-- a value for each limit of a tree
pub record Greatest : Type 0 where
  -- file numbers, the root counted
  pub numbers : ℕ
  -- bytes of a file
  pub file_bytes : ℕ
  -- links of a file
  pub links : ℕ
  -- instances open at a time
  pub instances : ℕ
  -- instances ever
  pub ids : ℕ
  -- watches of an instance
  pub watches : ℕ
  -- watch descriptors of an instance, ever
  pub wds : ℕ
  -- the limit of a queue, which holds one record more where events were lost
  pub queue : ℕ
  -- cookies
  pub cookies : ℕ
  -- entries of the journal
  pub journal : ℕ
  -- seats
  pub seats : ℕ

-- the greatest value of each
abbrev pub most : Greatest
most = record {
  numbers = 2 ^ 20;
  file_bytes = 2 ^ 24;
  links = 65000;
  instances = 128;
  ids = 2 ^ 31 - 1;
  watches = 8192;
  wds = 2 ^ 31 - 1;
  queue = 65535;
  cookies = 2 ^ 32 - 1;
  journal = 1000000;
  seats = 65536;
}
