-- The table of commands: what each line of a script asks for.
use Rattle.std.specs.Prelude.{ℕ, false, not, ◌==◌, List, [], ◌∷◌, length, codes, Option, Some, None, Result, Ok}
use Rattle.std.specs.Prelude.{Err, if◌then◌else◌}
use Rattle.std.specs.List.{list_all, slice_index_or}
use Rattle.std.specs.Str.{bytes_eq}
use Rattle.tree_paths.specs.declared.refusal.Refusal.{Refusal}
use Rattle.tree_paths.specs.Paths.{parsed}
use Rattle.tree_ops.specs.declared.call.FileCall.TheVariants as file
use Rattle.tree_core.specs.declared.call.Call.{Call}
use Rattle.tree_core.specs.declared.call.Call.TheVariants as call
use Rattle.watchtree_script.specs.declared.fault.ScriptFault.TheVariants.{BadByte, UnknownCommand, WrongNumber}
use Rattle.watchtree_script.specs.declared.line.Command.{Command}
use Rattle.watchtree_script.specs.declared.line.Command.TheVariants as command
use Rattle.watchtree_script.specs.declared.line.OutputFormat.{OutputFormat}
use Rattle.watchtree_script.specs.declared.line.OutputFormat.TheVariants as format
use Rattle.watchtree_script.specs.declared.line.Line.{Line}
use Rattle.watchtree_script.specs.declared.line.Line.TheVariants.{Silent, Cut, Run}
use Rattle.watchtree_script.specs.declared.line.LineError.{LineError}
use Rattle.watchtree_script.specs.declared.line.LineError.TheVariants.{Fault, Refused}
use Rattle.watchtree_script.specs.Lines.{words_of, is_silent, is_line_byte}
use Rattle.watchtree_script.specs.Words.{path_word, mode_word, mask_word, u32_word, u64_word, i32_word, hex_word}

-- steps, of which the first without a value says why the line asks for no call
infixl 10 ◌>>=◌
abbrev pub ◌>>=◌ : {A B : Type 0} → Result A LineError → (A → Result B LineError) → Result B LineError
(Ok x) >>= f = f x
(Err e) >>= f = Err e

-- the names of a path, or its refusal: it is answered as that of a call, and no call is made
abbrev pub refused : {A : Type 0} → Result A Refusal → Result A LineError
refused (Ok x) = Ok x
refused (Err refusal) = Err (Refused refusal)

unfoldable pub path_of : List ℕ → Result (List (List ℕ)) LineError
path_of text = refused (parsed text)

-- the word of each command
unfoldable pub command_of : List ℕ → Option Command
command_of word =
    if bytes_eq word (codes "mkdir") then Some command.Mkdir
    else if bytes_eq word (codes "create") then Some command.Create
    else if bytes_eq word (codes "write") then Some command.Write
    else if bytes_eq word (codes "cat") then Some command.Cat
    else if bytes_eq word (codes "truncate") then Some command.Truncate
    else if bytes_eq word (codes "chmod") then Some command.Chmod
    else if bytes_eq word (codes "link") then Some command.Link
    else if bytes_eq word (codes "unlink") then Some command.Unlink
    else if bytes_eq word (codes "rmdir") then Some command.Rmdir
    else if bytes_eq word (codes "rename") then Some command.Rename
    else if bytes_eq word (codes "rename2") then Some command.Rename2
    else if bytes_eq word (codes "stat") then Some command.Stat
    else if bytes_eq word (codes "list") then Some command.List
    else if bytes_eq word (codes "init") then Some command.Init
    else if bytes_eq word (codes "watch") then Some command.Watch
    else if bytes_eq word (codes "unwatch") then Some command.Unwatch
    else if bytes_eq word (codes "read") then Some command.Read
    else if bytes_eq word (codes "hex") then Some command.Hex
    else if bytes_eq word (codes "close") then Some command.Close
    else if bytes_eq word (codes "cut") then Some command.Cut
    else None

-- words by their number, of which a command takes one, none or one, two, or three
abbrev pub nth : List (List ℕ) → ℕ → List ℕ
nth words i = slice_index_or words i []

abbrev pub one : {A : Type 0} → List (List ℕ) → (List ℕ → Result A LineError) → Result A LineError
one words f = if length words == 1 then f (nth words 0) else Err (Fault WrongNumber)

abbrev pub none_or_one : {A : Type 0} → List (List ℕ) → Result A LineError → (List ℕ → Result A LineError)
    → Result A LineError
none_or_one words none f = if length words == 0 then none else one words f

abbrev pub two : {A : Type 0} → List (List ℕ) → (List ℕ → List ℕ → Result A LineError) → Result A LineError
two words f = if length words == 2 then f (nth words 0) (nth words 1) else Err (Fault WrongNumber)

abbrev pub three : {A : Type 0} → List (List ℕ) → (List ℕ → List ℕ → List ℕ → Result A LineError) → Result A LineError
three words f = if length words == 3 then f (nth words 0) (nth words 1) (nth words 2) else Err (Fault WrongNumber)

-- ---- the words after a command. All words of a line are read before a path is parsed, and paths are parsed in order

-- PATH
unfoldable pub a_path : List ℕ → Result (List (List ℕ)) LineError
a_path path = do
  text ← path_word path
  path_of text

-- the names of two paths, of which the old one is read first
unfoldable pub paths_of : List ℕ → List ℕ → Result (List (List ℕ) × List (List ℕ)) LineError
paths_of old new = do
  old_names ← path_of old
  new_names ← path_of new
  Ok (old_names, new_names)

-- OLD NEW
unfoldable pub old_and_new : List ℕ → List ℕ → Result (List (List ℕ) × List (List ℕ)) LineError
old_and_new old new = do
  old_text ← path_word old
  new_text ← path_word new
  paths_of old_text new_text

-- PATH MODE
unfoldable pub path_and_mode : List ℕ → List ℕ → Result (List (List ℕ) × ℕ) LineError
path_and_mode path mode = do
  text ← path_word path
  bits ← mode_word mode
  names ← path_of text
  Ok (names, bits)

-- ID BYTES
unfoldable pub id_and_bytes : List ℕ → List ℕ → Result (ℕ × ℕ) LineError
id_and_bytes id bytes = do
  instance ← u32_word id
  n ← u32_word bytes
  Ok (instance, n)

-- ---- what the commands with words of their own ask for

-- write PATH OFFSET HEX writes bytes into a file
unfoldable pub write_call : List ℕ → List ℕ → List ℕ → Result Call LineError
write_call path offset bytes = do
  text ← path_word path
  at ← u64_word offset
  given ← hex_word bytes
  names ← path_of text
  Ok (call.File (file.Write names at given))

-- cat PATH OFFSET COUNT reads the bytes of a file
unfoldable pub cat_call : List ℕ → List ℕ → List ℕ → Result Call LineError
cat_call path offset count = do
  text ← path_word path
  at ← u64_word offset
  n ← u32_word count
  names ← path_of text
  Ok (call.File (file.ReadFile names at n))

-- truncate PATH LEN gives a file another length
unfoldable pub truncate_call : List ℕ → List ℕ → Result Call LineError
truncate_call path len = do
  text ← path_word path
  n ← u64_word len
  names ← path_of text
  Ok (call.File (file.Truncate names n))

-- rename2 OLD NEW FLAGS renames by flags
unfoldable pub rename2_call : List ℕ → List ℕ → List ℕ → Result Call LineError
rename2_call old new flags = do
  old_text ← path_word old
  new_text ← path_word new
  bits ← u32_word flags
  names ← paths_of old_text new_text
  Ok (call.File (file.Rename2 names.0 names.1 bits))

-- watch ID PATH MASK watches a file for the events of a mask
unfoldable pub watch_call : List ℕ → List ℕ → List ℕ → Result Call LineError
watch_call id path mask = do
  instance ← u32_word id
  text ← path_word path
  bits ← mask_word mask
  names ← path_of text
  Ok (call.AddWatch instance names bits)

-- unwatch ID WD ends a watch
unfoldable pub unwatch_call : List ℕ → List ℕ → Result Call LineError
unwatch_call id wd = do
  instance ← u32_word id
  descriptor ← i32_word wd
  Ok (call.RmWatch instance descriptor)

-- ---- the table

-- words that are read ask for the call that is made of them, and its reply is shown so
abbrev pub asking : {A : Type 0} → OutputFormat → (A → Call) → Result A LineError → Result Line LineError
asking how f (Ok x) = Ok (Run (f x) how)
asking how f (Err e) = Err e

-- the rows of the table: a command with the words behind it. An init without a number takes the limit of the run
abbrev pub line_asked : ℕ → Command → List (List ℕ) → Result Line LineError
line_asked queue command.Mkdir words =
    asking format.Plain (λ w. call.File (file.Mkdir w.0 w.1)) (two words path_and_mode)
line_asked queue command.Create words =
    asking format.Plain (λ w. call.File (file.Create w.0 w.1)) (two words path_and_mode)
line_asked queue command.Write words = asking format.Plain (λ c. c) (three words write_call)
line_asked queue command.Cat words = asking format.Plain (λ c. c) (three words cat_call)
line_asked queue command.Truncate words = asking format.Plain (λ c. c) (two words truncate_call)
line_asked queue command.Chmod words =
    asking format.Plain (λ w. call.File (file.Chmod w.0 w.1)) (two words path_and_mode)
line_asked queue command.Link words = asking format.Plain (λ w. call.File (file.Link w.0 w.1)) (two words old_and_new)
line_asked queue command.Unlink words = asking format.Plain (λ p. call.File (file.Unlink p)) (one words a_path)
line_asked queue command.Rmdir words = asking format.Plain (λ p. call.File (file.Rmdir p)) (one words a_path)
line_asked queue command.Rename words =
    asking format.Plain (λ w. call.File (file.Rename w.0 w.1)) (two words old_and_new)
line_asked queue command.Rename2 words = asking format.Plain (λ c. c) (three words rename2_call)
line_asked queue command.Stat words = asking format.Plain (λ p. call.File (file.Stat p)) (one words a_path)
line_asked queue command.List words = asking format.Plain (λ p. call.File (file.List p)) (one words a_path)
line_asked queue command.Init words =
    asking format.Plain (λ n. call.Init n false) (none_or_one words (Ok queue) u32_word)
line_asked queue command.Watch words = asking format.Plain (λ c. c) (three words watch_call)
line_asked queue command.Unwatch words = asking format.Plain (λ c. c) (two words unwatch_call)
line_asked queue command.Read words = asking format.Records (λ w. call.Read w.0 w.1) (two words id_and_bytes)
line_asked queue command.Hex words = asking format.Hexadecimal (λ w. call.Read w.0 w.1) (two words id_and_bytes)
line_asked queue command.Close words = asking format.Plain (λ id. call.Close id) (one words u32_word)
line_asked queue command.Cut words = if length words == 0 then Ok Cut else Err (Fault WrongNumber)

abbrev pub line_of_word : ℕ → Option Command → List (List ℕ) → Result Line LineError
line_of_word queue None words = Err (Fault UnknownCommand)
line_of_word queue (Some c) words = line_asked queue c words

-- a command's word and the words behind it
unfoldable pub words_line : ℕ → List (List ℕ) → Result Line LineError
words_line queue [] = Err (Fault UnknownCommand)
words_line queue (word ∷ words) = line_of_word queue (command_of word) words

-- what a line asks for, or the first reason why it asks for no call
unfoldable pub line_of : ℕ → List ℕ → Result Line LineError
line_of queue line =
    if is_silent line then Ok Silent
    else if not (list_all is_line_byte line) then Err (Fault BadByte)
    else words_line queue (words_of line)
