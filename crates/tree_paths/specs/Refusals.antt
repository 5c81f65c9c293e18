-- How refusals are called and numbered.
use Rattle.std.specs.Prelude.{ℕ, List, codes}
use Rattle.tree_paths.specs.declared.refusal.Refusal.{Refusal}
use Rattle.tree_paths.specs.declared.refusal.Refusal.TheVariants.{Eperm, Enoent, Ebadf, Eagain, Enomem, Ebusy, Eexist}
use Rattle.tree_paths.specs.declared.refusal.Refusal.TheVariants.{Enotdir, Eisdir, Einval, Emfile, Efbig, Enospc}
use Rattle.tree_paths.specs.declared.refusal.Refusal.TheVariants.{Emlink, Enametoolong, Enotempty, JournalFull}
use Rattle.tree_paths.specs.declared.refusal.Refusal.TheVariants.{PipeFull, Piped, CookiesSpent, NotPiped, SeatsSpent}
use Rattle.tree_paths.specs.declared.refusal.Refusal.TheVariants.{NumbersSpent}

-- the symbols of <errno.h> (POSIX.1-2017, 2.3 Error Numbers), and names of this project's own
abbrev pub refusal_name : Refusal → List ℕ
refusal_name Eperm = codes "EPERM"
refusal_name Enoent = codes "ENOENT"
refusal_name Ebadf = codes "EBADF"
refusal_name Eagain = codes "EAGAIN"
refusal_name Enomem = codes "ENOMEM"
refusal_name Ebusy = codes "EBUSY"
refusal_name Eexist = codes "EEXIST"
refusal_name Enotdir = codes "ENOTDIR"
refusal_name Eisdir = codes "EISDIR"
refusal_name Einval = codes "EINVAL"
refusal_name Emfile = codes "EMFILE"
refusal_name Efbig = codes "EFBIG"
refusal_name Enospc = codes "ENOSPC"
refusal_name Emlink = codes "EMLINK"
refusal_name Enametoolong = codes "ENAMETOOLONG"
refusal_name Enotempty = codes "ENOTEMPTY"
refusal_name JournalFull = codes "JournalFull"
refusal_name PipeFull = codes "PipeFull"
refusal_name Piped = codes "Piped"
refusal_name CookiesSpent = codes "CookiesSpent"
refusal_name NotPiped = codes "NotPiped"
refusal_name SeatsSpent = codes "SeatsSpent"
refusal_name NumbersSpent = codes "NumbersSpent"

-- Linux's numbers (errno(3)), and from 1001 on this project's own
abbrev pub refusal_number : Refusal → ℕ
refusal_number Eperm = 1
refusal_number Enoent = 2
refusal_number Ebadf = 9
refusal_number Eagain = 11
refusal_number Enomem = 12
refusal_number Ebusy = 16
refusal_number Eexist = 17
refusal_number Enotdir = 20
refusal_number Eisdir = 21
refusal_number Einval = 22
refusal_number Emfile = 24
refusal_number Efbig = 27
refusal_number Enospc = 28
refusal_number Emlink = 31
refusal_number Enametoolong = 36
refusal_number Enotempty = 39
refusal_number JournalFull = 1001
refusal_number PipeFull = 1002
refusal_number Piped = 1003
refusal_number CookiesSpent = 1004
refusal_number NotPiped = 1005
refusal_number SeatsSpent = 1006
refusal_number NumbersSpent = 1007
