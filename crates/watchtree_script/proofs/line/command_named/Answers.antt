use Rattle.std.proofs.Common.{rules}
use Rattle.std.specs.Prelude.{codes}
use Rattle.watchtree_script.specs.Commands.{command_of}
use Rattle.watchtree_script.proofs.WordLemmas.{word_named}
use Rattle.watchtree_script.proofs.line.command_named.Goals as goal

pub returns-in-mkdir : goal.returns-in-mkdir
unfolding command_of
returns-in-mkdir c =
    word_named c.args.word.now (codes "mkdir") c.in-mkdir.len_at_least c.in-mkdir.len_below (search rules)

pub returns-in-write : goal.returns-in-write
unfolding command_of
returns-in-write c =
    word_named c.args.word.now (codes "write") c.in-write.len_at_least c.in-write.len_below (search rules)

pub returns-in-watch : goal.returns-in-watch
unfolding command_of
returns-in-watch c =
    word_named c.args.word.now (codes "watch") c.in-watch.len_at_least c.in-watch.len_below (search rules)

pub returns-in-chmod : goal.returns-in-chmod
unfolding command_of
returns-in-chmod c =
    word_named c.args.word.now (codes "chmod") c.in-chmod.len_at_least c.in-chmod.len_below (search rules)

pub returns-in-close : goal.returns-in-close
unfolding command_of
returns-in-close c =
    word_named c.args.word.now (codes "close") c.in-close.len_at_least c.in-close.len_below (search rules)

pub returns-in-rmdir : goal.returns-in-rmdir
unfolding command_of
returns-in-rmdir c =
    word_named c.args.word.now (codes "rmdir") c.in-rmdir.len_at_least c.in-rmdir.len_below (search rules)

pub returns-in-create : goal.returns-in-create
unfolding command_of
returns-in-create c =
    word_named c.args.word.now (codes "create") c.in-create.len_at_least c.in-create.len_below (search rules)

pub returns-in-unlink : goal.returns-in-unlink
unfolding command_of
returns-in-unlink c =
    word_named c.args.word.now (codes "unlink") c.in-unlink.len_at_least c.in-unlink.len_below (search rules)

pub returns-in-rename : goal.returns-in-rename
unfolding command_of
returns-in-rename c =
    word_named c.args.word.now (codes "rename") c.in-rename.len_at_least c.in-rename.len_below (search rules)

pub returns-in-rename2 : goal.returns-in-rename2
unfolding command_of
returns-in-rename2 c =
    word_named c.args.word.now (codes "rename2") c.in-rename2.len_at_least c.in-rename2.len_below (search rules)

pub returns-in-unwatch : goal.returns-in-unwatch
unfolding command_of
returns-in-unwatch c =
    word_named c.args.word.now (codes "unwatch") c.in-unwatch.len_at_least c.in-unwatch.len_below (search rules)

pub returns-in-truncate : goal.returns-in-truncate
unfolding command_of
returns-in-truncate c =
    word_named c.args.word.now (codes "truncate") c.in-truncate.len_at_least c.in-truncate.len_below (search rules)
