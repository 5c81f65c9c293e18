-- Calls that are printed as lines are read back.
use Rattle.std.proofs.Common.{All, ◌≡◌, ◌==◌, ◌&&◌, ℕ, zero, suc, ◌^◌, ◌<◌, true, false, not, leb, List, [], ◌∷◌, ◌++◌, length}
use Rattle.std.proofs.Common.{Some, Ok, refl, ap, ◌∙◌, arith, append_assoc}
use Rattle.std.specs.Prelude.{filter, codes, decimal, FitsSigned, ℤ}
use Rattle.std.specs.Char.{is_ascii_graphic}
use Rattle.std.specs.Fmt.{signed_decimal}
use Rattle.std.specs.Int.{w32}
use Rattle.std.specs.List.{join_with_byte, list_all}
use Rattle.std.proofs.lemmas.Bool.{and_from, and_parts, cond-true, leb-true, lt-ltb, ne_eqb, or_right}
use Rattle.std.proofs.lemmas.List.Folds.{list_all-append}
use Rattle.std.proofs.lemmas.List.Splits.{slice_split_at, slice_split_none}
use Rattle.record_codec.specs.Names.{IsBytes, IsName}
use Rattle.tree_paths.specs.Paths.{parsed, path_max, pathname_of}
use Rattle.tree_paths.specs.Pieces.{is_nonempty, pieces}
use Rattle.tree_ops.specs.declared.call.FileCall.{FileCall}
use Rattle.tree_ops.specs.declared.call.FileCall.TheVariants as file
use Rattle.tree_core.specs.declared.call.Call.{Call}
use Rattle.tree_core.specs.declared.call.Call.TheVariants as call
use Rattle.watchtree_script.specs.declared.line.Command.{Command}
use Rattle.watchtree_script.specs.declared.line.Command.TheVariants as command
use Rattle.watchtree_script.specs.declared.line.Line.TheVariants.{Run}
use Rattle.watchtree_script.specs.declared.line.OutputFormat.TheVariants as format
use Rattle.watchtree_script.specs.CallLines.{IsScriptCall, IsScriptFileCall, IsScriptPath, call_line, call_text, call_words, format_of, has_line}
use Rattle.watchtree_script.specs.CallLines.{is_short, is_mode, mode_digits_of, mask_text, path_text}
use Rattle.watchtree_script.specs.Commands.{command_of, line_asked, line_of, words_line}
use Rattle.watchtree_script.specs.Commands.{refused, path_of, paths_of, a_path, old_and_new, path_and_mode, id_and_bytes, asking}
use Rattle.watchtree_script.specs.Commands.{write_call, cat_call, truncate_call, rename2_call, watch_call, unwatch_call}
use Rattle.watchtree_script.specs.Laws.{CallsAreReadBack}
use Rattle.watchtree_script.specs.Lines.{is_line_byte, is_silent, lines_of, words_of}
use Rattle.watchtree_script.specs.Replies.{hexadecimal}
use Rattle.watchtree_script.proofs.LineLemmas.{no_feeds}
use Rattle.watchtree_script.proofs.ReadWords.{IsWord, word-decimal, word-hexadecimal, word-mask, word-mode, word-path, word-signed}
use Rattle.watchtree_script.proofs.ReadWords.{mode-read, mask-read, u32-read, u64-read, i32-read, hex-read, path-read}

-- ---- the words of a line

abbrev joined : List (List ℕ) → List ℕ
joined words = join_with_byte 32 words

abbrev AreWords : List (List ℕ) → Type 0
AreWords [] = Unit {0}
AreWords (word ∷ words) = IsWord word × AreWords words

no_space : (b : ℕ) → is_ascii_graphic b ≡ true → (b == 32) ≡ false
no_space b h = let least = leb-true 33 b (and_parts (leb 33 b) (leb b 126) h).0 in ne_eqb b 32 (λ e. omega (arith, e, least))

no_spaces : (word : List ℕ) → list_all is_ascii_graphic word ≡ true → All (λ b. (b == 32) ≡ false) word
no_spaces [] h k d lt = absurd (omega (arith, lt))
no_spaces (b ∷ bs) h zero d lt = no_space b (and_parts (is_ascii_graphic b) (list_all is_ascii_graphic bs) h).0
no_spaces (b ∷ bs) h (suc k) d lt = no_spaces bs (and_parts (is_ascii_graphic b) (list_all is_ascii_graphic bs) h).1 k d (omega (arith, lt))

kept : (word : List ℕ) (words : List (List ℕ)) → 0 < length word → filter is_nonempty (word ∷ words) ≡ word ∷ filter is_nonempty words
kept word words some =
    cond-true (is_nonempty word) (word ∷ filter is_nonempty words) (filter is_nonempty words) (ap not (ne_eqb (length word) 0 (λ e. omega (arith, e))))

words-joined : (word : List ℕ) (words : List (List ℕ)) → IsWord word → AreWords words → words_of (joined (word ∷ words)) ≡ word ∷ words
words-joined word [] h hs = ap (filter is_nonempty) (slice_split_none (λ b. b == 32) word (no_spaces word h.graphic)) ∙ kept word [] h.some
words-joined word (next ∷ words) h hs =
    ap (filter is_nonempty) (slice_split_at (λ b. b == 32) word 32 (joined (next ∷ words)) (no_spaces word h.graphic) refl)
    ∙ kept word (pieces 32 (joined (next ∷ words))) h.some ∙ ap (λ (t : List (List ℕ)). word ∷ t) (words-joined next words hs.0 hs.1)

printable : (word : List ℕ) → list_all is_ascii_graphic word ≡ true → list_all is_line_byte word ≡ true
printable [] h = refl
printable (b ∷ bs) h =
    let parts = and_parts (is_ascii_graphic b) (list_all is_ascii_graphic bs) h in
    and_from (is_line_byte b) (list_all is_line_byte bs) (or_right (b == 32) (is_ascii_graphic b) parts.0) (printable bs parts.1)

joined-printable : (word : List ℕ) (words : List (List ℕ)) → IsWord word → AreWords words → list_all is_line_byte (joined (word ∷ words)) ≡ true
joined-printable word [] h hs = printable word h.graphic
joined-printable word (next ∷ words) h hs =
    list_all-append is_line_byte word (32 ∷ joined (next ∷ words))
    ∙ and_from (list_all is_line_byte word) (list_all is_line_byte (joined (next ∷ words))) (printable word h.graphic) (joined-printable next words hs.0 hs.1)

line-asks : (queue : ℕ) (c : Command) (word : List ℕ) (words : List (List ℕ)) → is_silent (joined (word ∷ words)) ≡ false → IsWord word → AreWords words
    → command_of word ≡ Some c → line_of queue (joined (word ∷ words)) ≡ line_asked queue c words
unfolding line_of words_line
line-asks queue c word words loud h hs is =
    rw (loud, joined-printable word words h hs, words-joined word words h hs, is) refl

-- ---- a line that was made for a call

record IsMade (queue : ℕ) (c : Call) : Type 0 where
  pub printable : list_all is_line_byte (call_text c) ≡ true
  pub asks : line_of queue (call_text c) ≡ Ok (Run c (format_of c))

made : (queue : ℕ) (c : Call) (k : Command) (word : List ℕ) (words : List (List ℕ)) → call_words c ≡ word ∷ words → is_silent (joined (word ∷ words)) ≡ false
    → IsWord word → AreWords words → command_of word ≡ Some k → line_asked queue k words ≡ Ok (Run c (format_of c)) → IsMade queue c
unfolding call_text
made queue c k word words is loud h hs named asked =
    let text : joined (call_words c) ≡ joined (word ∷ words) = ap joined is in
    record {
      printable = ap (list_all is_line_byte) text ∙ joined-printable word words h hs;
      asks = ap (line_of queue) text ∙ line-asks queue k word words loud h hs named ∙ asked;
    }

-- ---- the words of each command

named-create : command_of (codes "create") ≡ Some command.Create
unfolding command_of
named-create = refl

named-mkdir : command_of (codes "mkdir") ≡ Some command.Mkdir
unfolding command_of
named-mkdir = refl

named-write : command_of (codes "write") ≡ Some command.Write
unfolding command_of
named-write = refl

named-cat : command_of (codes "cat") ≡ Some command.Cat
unfolding command_of
named-cat = refl

named-truncate : command_of (codes "truncate") ≡ Some command.Truncate
unfolding command_of
named-truncate = refl

named-chmod : command_of (codes "chmod") ≡ Some command.Chmod
unfolding command_of
named-chmod = refl

named-link : command_of (codes "link") ≡ Some command.Link
unfolding command_of
named-link = refl

named-unlink : command_of (codes "unlink") ≡ Some command.Unlink
unfolding command_of
named-unlink = refl

named-rmdir : command_of (codes "rmdir") ≡ Some command.Rmdir
unfolding command_of
named-rmdir = refl

named-rename : command_of (codes "rename") ≡ Some command.Rename
unfolding command_of
named-rename = refl

named-rename2 : command_of (codes "rename2") ≡ Some command.Rename2
unfolding command_of
named-rename2 = refl

named-stat : command_of (codes "stat") ≡ Some command.Stat
unfolding command_of
named-stat = refl

named-list : command_of (codes "list") ≡ Some command.List
unfolding command_of
named-list = refl

named-init : command_of (codes "init") ≡ Some command.Init
unfolding command_of
named-init = refl

named-watch : command_of (codes "watch") ≡ Some command.Watch
unfolding command_of
named-watch = refl

named-unwatch : command_of (codes "unwatch") ≡ Some command.Unwatch
unfolding command_of
named-unwatch = refl

named-read : command_of (codes "read") ≡ Some command.Read
unfolding command_of
named-read = refl

named-close : command_of (codes "close") ≡ Some command.Close
unfolding command_of
named-close = refl

-- each list of names that is not too long has a text, which stands for it
abbrev pub PathnamesAreParsed : Type 0
PathnamesAreParsed = (names : List (List ℕ)) → All IsName names → length (pathname_of names) < path_max → parsed (pathname_of names) ≡ Ok names

path-parsed : PathnamesAreParsed → (path : List (List ℕ)) → IsScriptPath path → path_of (pathname_of path) ≡ Ok path
unfolding path_of
path-parsed law path h = ap refused (law path h.names h.short)

a-path-read : PathnamesAreParsed → (path : List (List ℕ)) → IsScriptPath path → a_path (path_text path) ≡ Ok path
unfolding a_path
a-path-read law path h = rw (path-read path h.names, path-parsed law path h) refl

paths-parsed : PathnamesAreParsed → (old new : List (List ℕ)) → IsScriptPath old → IsScriptPath new
    → paths_of (pathname_of old) (pathname_of new) ≡ Ok (old, new)
unfolding paths_of
paths-parsed law old new h k = rw (path-parsed law old h, path-parsed law new k) refl

old-and-new-read : PathnamesAreParsed → (old new : List (List ℕ)) → IsScriptPath old → IsScriptPath new
    → old_and_new (path_text old) (path_text new) ≡ Ok (old, new)
unfolding old_and_new
old-and-new-read law old new h k = rw (path-read old h.names, path-read new k.names, paths-parsed law old new h k) refl

path-and-mode-read : PathnamesAreParsed → (path : List (List ℕ)) (mode : ℕ) → IsScriptPath path → mode < 8 ^ 6
    → path_and_mode (path_text path) (mode_digits_of mode) ≡ Ok (path, mode)
unfolding path_and_mode
path-and-mode-read law path mode h small = rw (path-read path h.names, mode-read mode small, path-parsed law path h) refl

id-and-bytes-read : (id bytes : ℕ) → id < 2 ^ 32 → bytes < 2 ^ 32 → id_and_bytes (decimal id) (decimal bytes) ≡ Ok (id, bytes)
unfolding id_and_bytes
id-and-bytes-read id bytes h k = rw (u32-read id h, u32-read bytes k) refl

write-read : PathnamesAreParsed → (path : List (List ℕ)) (offset : ℕ) (bytes : List ℕ) → IsScriptPath path → offset < 2 ^ 64 → IsBytes bytes
    → write_call (path_text path) (decimal offset) (hexadecimal bytes) ≡ Ok (call.File (file.Write path offset bytes))
unfolding write_call
write-read law path offset bytes h small bs = rw (path-read path h.names, u64-read offset small, hex-read bytes bs, path-parsed law path h) refl

cat-read : PathnamesAreParsed → (path : List (List ℕ)) (offset count : ℕ) → IsScriptPath path → offset < 2 ^ 64 → count < 2 ^ 32
    → cat_call (path_text path) (decimal offset) (decimal count) ≡ Ok (call.File (file.ReadFile path offset count))
unfolding cat_call
cat-read law path offset count h small few = rw (path-read path h.names, u64-read offset small, u32-read count few, path-parsed law path h) refl

truncate-read : PathnamesAreParsed → (path : List (List ℕ)) (len : ℕ) → IsScriptPath path → len < 2 ^ 64
    → truncate_call (path_text path) (decimal len) ≡ Ok (call.File (file.Truncate path len))
unfolding truncate_call
truncate-read law path len h small = rw (path-read path h.names, u64-read len small, path-parsed law path h) refl

rename2-read : PathnamesAreParsed → (old new : List (List ℕ)) (flags : ℕ) → IsScriptPath old → IsScriptPath new → flags < 2 ^ 32
    → rename2_call (path_text old) (path_text new) (decimal flags) ≡ Ok (call.File (file.Rename2 old new flags))
unfolding rename2_call
rename2-read law old new flags h k small = rw (path-read old h.names, path-read new k.names, u32-read flags small, paths-parsed law old new h k) refl

watch-read : PathnamesAreParsed → (id : ℕ) (path : List (List ℕ)) (mask : ℕ) → id < 2 ^ 32 → IsScriptPath path → mask < 2 ^ 32
    → watch_call (decimal id) (path_text path) (mask_text mask) ≡ Ok (call.AddWatch id path mask)
unfolding watch_call
watch-read law id path mask few h small = rw (u32-read id few, path-read path h.names, mask-read mask small, path-parsed law path h) refl

unwatch-read : (id : ℕ) (wd : ℤ) → id < 2 ^ 32 → FitsSigned w32 wd → unwatch_call (decimal id) (signed_decimal wd) ≡ Ok (call.RmWatch id wd)
unfolding unwatch_call
unwatch-read id wd few fits = rw (u32-read id few, i32-read wd fits) refl

-- ---- each call

small-number : (n : ℕ) → n < 2 ^ 32 → IsWord (decimal n)
small-number n few = word-decimal n (omega arith)

file-made : PathnamesAreParsed → (queue : ℕ) (f : FileCall) → IsScriptFileCall f → IsMade queue (call.File f)
file-made law queue (file.Create path mode) h =
    made queue (call.File (file.Create path mode)) command.Create (codes "create") (path_text path ∷ mode_digits_of mode ∷ []) refl refl
    (record { some = omega arith; graphic = refl }) (word-path path, (word-mode mode h.1, tt)) named-create
    (ap (asking format.Plain (λ w. call.File (file.Create w.0 w.1))) (path-and-mode-read law path mode h.0 h.1))
file-made law queue (file.Mkdir path mode) h =
    made queue (call.File (file.Mkdir path mode)) command.Mkdir (codes "mkdir") (path_text path ∷ mode_digits_of mode ∷ []) refl refl
    (record { some = omega arith; graphic = refl }) (word-path path, (word-mode mode h.1, tt)) named-mkdir
    (ap (asking format.Plain (λ w. call.File (file.Mkdir w.0 w.1))) (path-and-mode-read law path mode h.0 h.1))
file-made law queue (file.Write path offset bytes) h =
    made queue (call.File (file.Write path offset bytes)) command.Write (codes "write") (path_text path ∷ decimal offset ∷ hexadecimal bytes ∷ []) refl refl
    (record { some = omega arith; graphic = refl }) (word-path path, (word-decimal offset h.1, (word-hexadecimal bytes h.2, tt))) named-write
    (ap (asking format.Plain (λ c. c)) (write-read law path offset bytes h.0 h.1 h.2))
file-made law queue (file.ReadFile path offset count) h =
    made queue (call.File (file.ReadFile path offset count)) command.Cat (codes "cat") (path_text path ∷ decimal offset ∷ decimal count ∷ []) refl refl
    (record { some = omega arith; graphic = refl }) (word-path path, (word-decimal offset h.1, (small-number count h.2, tt))) named-cat
    (ap (asking format.Plain (λ c. c)) (cat-read law path offset count h.0 h.1 h.2))
file-made law queue (file.Truncate path len) h =
    made queue (call.File (file.Truncate path len)) command.Truncate (codes "truncate") (path_text path ∷ decimal len ∷ []) refl refl
    (record { some = omega arith; graphic = refl }) (word-path path, (word-decimal len h.1, tt)) named-truncate
    (ap (asking format.Plain (λ c. c)) (truncate-read law path len h.0 h.1))
file-made law queue (file.Chmod path mode) h =
    made queue (call.File (file.Chmod path mode)) command.Chmod (codes "chmod") (path_text path ∷ mode_digits_of mode ∷ []) refl refl
    (record { some = omega arith; graphic = refl }) (word-path path, (word-mode mode h.1, tt)) named-chmod
    (ap (asking format.Plain (λ w. call.File (file.Chmod w.0 w.1))) (path-and-mode-read law path mode h.0 h.1))
file-made law queue (file.Link old new) h =
    made queue (call.File (file.Link old new)) command.Link (codes "link") (path_text old ∷ path_text new ∷ []) refl refl
    (record { some = omega arith; graphic = refl }) (word-path old, (word-path new, tt)) named-link
    (ap (asking format.Plain (λ w. call.File (file.Link w.0 w.1))) (old-and-new-read law old new h.0 h.1))
file-made law queue (file.Unlink path) h =
    made queue (call.File (file.Unlink path)) command.Unlink (codes "unlink") (path_text path ∷ []) refl refl
    (record { some = omega arith; graphic = refl }) (word-path path, tt) named-unlink
    (ap (asking format.Plain (λ p. call.File (file.Unlink p))) (a-path-read law path h))
file-made law queue (file.Rmdir path) h =
    made queue (call.File (file.Rmdir path)) command.Rmdir (codes "rmdir") (path_text path ∷ []) refl refl
    (record { some = omega arith; graphic = refl }) (word-path path, tt) named-rmdir
    (ap (asking format.Plain (λ p. call.File (file.Rmdir p))) (a-path-read law path h))
file-made law queue (file.Rename old new) h =
    made queue (call.File (file.Rename old new)) command.Rename (codes "rename") (path_text old ∷ path_text new ∷ []) refl refl
    (record { some = omega arith; graphic = refl }) (word-path old, (word-path new, tt)) named-rename
    (ap (asking format.Plain (λ w. call.File (file.Rename w.0 w.1))) (old-and-new-read law old new h.0 h.1))
file-made law queue (file.Rename2 old new flags) h =
    made queue (call.File (file.Rename2 old new flags)) command.Rename2 (codes "rename2") (path_text old ∷ path_text new ∷ decimal flags ∷ []) refl refl
    (record { some = omega arith; graphic = refl }) (word-path old, (word-path new, (small-number flags h.2, tt))) named-rename2
    (ap (asking format.Plain (λ c. c)) (rename2-read law old new flags h.0 h.1 h.2))
file-made law queue (file.Stat path) h =
    made queue (call.File (file.Stat path)) command.Stat (codes "stat") (path_text path ∷ []) refl refl
    (record { some = omega arith; graphic = refl }) (word-path path, tt) named-stat
    (ap (asking format.Plain (λ p. call.File (file.Stat p))) (a-path-read law path h))
file-made law queue (file.List path) h =
    made queue (call.File (file.List path)) command.List (codes "list") (path_text path ∷ []) refl refl
    (record { some = omega arith; graphic = refl }) (word-path path, tt) named-list
    (ap (asking format.Plain (λ p. call.File (file.List p))) (a-path-read law path h))

call-made : PathnamesAreParsed → (queue : ℕ) (c : Call) → IsScriptCall c → IsMade queue c
call-made law queue (call.File f) h = file-made law queue f h
call-made law queue (call.Init limit true) h = absurd cc
call-made law queue (call.Init limit false) h =
    made queue (call.Init limit false) command.Init (codes "init") (decimal limit ∷ []) refl refl
    (record { some = omega arith; graphic = refl }) (small-number limit h.0, tt) named-init
    (ap (asking format.Plain (λ n. call.Init n false)) (u32-read limit h.0))
call-made law queue (call.AddWatch id path mask) h =
    made queue (call.AddWatch id path mask) command.Watch (codes "watch") (decimal id ∷ path_text path ∷ mask_text mask ∷ []) refl refl
    (record { some = omega arith; graphic = refl }) (small-number id h.0, (word-path path, (word-mask mask h.2, tt))) named-watch
    (ap (asking format.Plain (λ c. c)) (watch-read law id path mask h.0 h.1 h.2))
call-made law queue (call.RmWatch id wd) h =
    made queue (call.RmWatch id wd) command.Unwatch (codes "unwatch") (decimal id ∷ signed_decimal wd ∷ []) refl refl
    (record { some = omega arith; graphic = refl }) (small-number id h.0, (word-signed wd h.1, tt)) named-unwatch
    (ap (asking format.Plain (λ c. c)) (unwatch-read id wd h.0 h.1))
call-made law queue (call.Read id bytes) h =
    made queue (call.Read id bytes) command.Read (codes "read") (decimal id ∷ decimal bytes ∷ []) refl refl
    (record { some = omega arith; graphic = refl }) (small-number id h.0, (small-number bytes h.1, tt)) named-read
    (ap (asking format.Records (λ w. call.Read w.0 w.1)) (id-and-bytes-read id bytes h.0 h.1))
call-made law queue (call.Pump id bytes) h = absurd h
call-made law queue (call.Close id) h =
    made queue (call.Close id) command.Close (codes "close") (decimal id ∷ []) refl refl
    (record { some = omega arith; graphic = refl }) (small-number id h, tt) named-close
    (ap (asking format.Plain (λ n. call.Close n)) (u32-read id h))

-- ---- the line of a call among others

short-path : (path : List (List ℕ)) → IsScriptPath path → is_short path ≡ true
short-path path h = lt-ltb (length (pathname_of path)) 4096 h.short

short-paths : (old new : List (List ℕ)) → IsScriptPath old → IsScriptPath new → (is_short old && is_short new) ≡ true
short-paths old new h k = and_from (is_short old) (is_short new) (short-path old h) (short-path new k)

with-mode : (path : List (List ℕ)) (mode : ℕ) → IsScriptPath path → mode < 8 ^ 6 → (is_short path && is_mode mode) ≡ true
with-mode path mode h small = and_from (is_short path) (is_mode mode) (short-path path h) (lt-ltb mode (8 ^ 6) small)

has-line : (c : Call) → IsScriptCall c → has_line c ≡ true
has-line (call.File (file.Create path mode)) h = with-mode path mode h.0 h.1
has-line (call.File (file.Mkdir path mode)) h = with-mode path mode h.0 h.1
has-line (call.File (file.Write path offset bytes)) h = short-path path h.0
has-line (call.File (file.ReadFile path offset count)) h = short-path path h.0
has-line (call.File (file.Truncate path len)) h = short-path path h.0
has-line (call.File (file.Chmod path mode)) h = with-mode path mode h.0 h.1
has-line (call.File (file.Link old new)) h = short-paths old new h.0 h.1
has-line (call.File (file.Unlink path)) h = short-path path h
has-line (call.File (file.Rmdir path)) h = short-path path h
has-line (call.File (file.Rename old new)) h = short-paths old new h.0 h.1
has-line (call.File (file.Rename2 old new flags)) h = short-paths old new h.0 h.1
has-line (call.File (file.Stat path)) h = short-path path h
has-line (call.File (file.List path)) h = short-path path h
has-line (call.Init limit is_piped) h = ap not h.1
has-line (call.AddWatch id path mask) h = short-path path h.1
has-line (call.RmWatch id wd) h = refl
has-line (call.Read id bytes) h = refl
has-line (call.Pump id bytes) h = absurd h
has-line (call.Close id) h = refl

line-first : (c : Call) (script : List ℕ) → has_line c ≡ true → list_all is_line_byte (call_text c) ≡ true
    → lines_of (call_line c ++ script) ≡ call_text c ∷ lines_of script
unfolding call_line
line-first c script has is =
    rw has
    (ap lines_of (append_assoc (call_text c) (10 ∷ []) script) ∙ slice_split_at (λ b. b == 10) (call_text c) 10 script (no_feeds (call_text c) is) refl)

pub calls_are_read_back : PathnamesAreParsed → CallsAreReadBack
calls_are_read_back law queue script c h =
    let is = call-made law queue c h in
    (line-first c script (has-line c h) is.printable, is.asks)
