-- How much a tree takes at most.
use Rattle.std.proofs.Common.{lit≤}
use Rattle.tree_paths.specs.declared.limits.Limits.{Limits}
use Rattle.tree_paths.specs.Greatest.{most}

-- the greatest limits
abbrev pub full : Limits
full = record {
  numbers = most.numbers;
  file_bytes = most.file_bytes;
  links = most.links;
  instances = most.instances;
  ids = most.ids;
  watches = most.watches;
  wds = most.wds;
  queue = most.queue;
  cookies = most.cookies;
  journal = most.journal;
  seats = most.seats;
  numbers_in = (lit≤ tt, lit≤ tt);
  file_bytes_in = (lit≤ tt, lit≤ tt);
  links_in = (lit≤ tt, lit≤ tt);
  instances_in = (lit≤ tt, lit≤ tt);
  ids_in = (lit≤ tt, lit≤ tt);
  watches_in = (lit≤ tt, lit≤ tt);
  wds_in = (lit≤ tt, lit≤ tt);
  queue_in = (lit≤ tt, lit≤ tt);
  cookies_in = (lit≤ tt, lit≤ tt);
  journal_in = (lit≤ tt, lit≤ tt);
  seats_in = (lit≤ tt, lit≤ tt);
}
