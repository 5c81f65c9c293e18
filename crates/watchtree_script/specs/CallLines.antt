-- Calls as the lines of a script that make them, and entries of a journal as such lines with their replies.
use Rattle.std.specs.Prelude.{◌≡◌, ℕ, ◌^◌, ◌<◌, Bool, true, false, not, ◌&&◌, nat_lt, List, [], ◌∷◌, ◌++◌, length}
use Rattle.std.specs.Prelude.{codes}
use Rattle.std.specs.Prelude.{All, decimal, if◌then◌else◌, FitsSigned}
use Rattle.std.specs.Fmt.{digits, signed_decimal}
use Rattle.std.specs.Int.{w32}
use Rattle.std.specs.List.{flat_map, join_with_byte}
use Rattle.std.specs.Str.{byte}
use Rattle.record_codec.specs.Lines.{printed_name}
use Rattle.record_codec.specs.Names.{IsBytes, IsName}
use Rattle.tree_paths.specs.Paths.{path_max, pathname_of}
use Rattle.tree_paths.specs.Pieces.{runs}
use Rattle.tree_ops.specs.declared.call.FileCall.{FileCall}
use Rattle.tree_ops.specs.declared.call.FileCall.TheVariants as file
use Rattle.tree_core.specs.declared.call.Call.{Call}
use Rattle.tree_core.specs.declared.call.Call.TheVariants as call
use Rattle.tree_core.specs.declared.reply.Entry.{Entry}
use Rattle.watchtree_script.specs.declared.line.OutputFormat.{OutputFormat}
use Rattle.watchtree_script.specs.declared.line.OutputFormat.TheVariants.{Plain, Records}
use Rattle.watchtree_script.specs.Replies.{IsReplyText, hexadecimal}
use Rattle.watchtree_script.specs.Words.{octal, mode_digits}

-- PATH: the pathname, of which each byte is printed as one of a name
abbrev pub path_text : List (List ℕ) → List ℕ
path_text path = printed_name (pathname_of path)

-- MODE: octal digits
abbrev pub mode_digits_of : ℕ → List ℕ
mode_digits_of mode = digits 8 false mode

-- MASK: 0x, and hexadecimal digits
abbrev pub mask_text : ℕ → List ℕ
mask_text mask = codes "0x" ++ digits 16 false mask

-- the words of a call on files: its command, and what stands behind it
abbrev pub file_words : FileCall → List (List ℕ)
file_words (file.Create path mode) = codes "create" ∷ path_text path ∷ mode_digits_of mode ∷ []
file_words (file.Mkdir path mode) = codes "mkdir" ∷ path_text path ∷ mode_digits_of mode ∷ []
file_words (file.Write path offset bytes) =
    codes "write" ∷ path_text path ∷ decimal offset ∷ hexadecimal bytes ∷ []
file_words (file.ReadFile path offset count) = codes "cat" ∷ path_text path ∷ decimal offset ∷ decimal count ∷ []
file_words (file.Truncate path len) = codes "truncate" ∷ path_text path ∷ decimal len ∷ []
file_words (file.Chmod path mode) = codes "chmod" ∷ path_text path ∷ mode_digits_of mode ∷ []
file_words (file.Link old new) = codes "link" ∷ path_text old ∷ path_text new ∷ []
file_words (file.Unlink path) = codes "unlink" ∷ path_text path ∷ []
file_words (file.Rmdir path) = codes "rmdir" ∷ path_text path ∷ []
file_words (file.Rename old new) = codes "rename" ∷ path_text old ∷ path_text new ∷ []
file_words (file.Rename2 old new flags) = codes "rename2" ∷ path_text old ∷ path_text new ∷ decimal flags ∷ []
file_words (file.Stat path) = codes "stat" ∷ path_text path ∷ []
file_words (file.List path) = codes "list" ∷ path_text path ∷ []

-- the words of a call. No command is a pump, or makes an instance for a pipe
abbrev pub call_words : Call → List (List ℕ)
call_words (call.File f) = file_words f
call_words (call.Init limit false) = codes "init" ∷ decimal limit ∷ []
call_words (call.Init limit true) = codes "init" ∷ decimal limit ∷ codes "for" ∷ codes "a" ∷ codes "pipe" ∷ []
call_words (call.AddWatch id path mask) = codes "watch" ∷ decimal id ∷ path_text path ∷ mask_text mask ∷ []
call_words (call.RmWatch id wd) = codes "unwatch" ∷ decimal id ∷ signed_decimal wd ∷ []
call_words (call.Read id bytes) = codes "read" ∷ decimal id ∷ decimal bytes ∷ []
call_words (call.Pump id bytes) = codes "pump" ∷ decimal id ∷ decimal bytes ∷ []
call_words (call.Close id) = codes "close" ∷ decimal id ∷ []

-- the words of a call, with a space between each two
unfoldable pub call_text : Call → List ℕ
call_text c = join_with_byte (byte " ") (call_words c)

-- ---- the calls that lines make

-- a path whose pathname is not too long to be read
abbrev pub is_short : List (List ℕ) → Bool
is_short path = nat_lt (length (pathname_of path)) path_max

-- a mode of no more digits than are read
abbrev pub is_mode : ℕ → Bool
is_mode mode = nat_lt mode (octal ^ mode_digits)

abbrev pub file_has_line : FileCall → Bool
file_has_line (file.Create path mode) = is_short path && is_mode mode
file_has_line (file.Mkdir path mode) = is_short path && is_mode mode
file_has_line (file.Write path offset bytes) = is_short path
file_has_line (file.ReadFile path offset count) = is_short path
file_has_line (file.Truncate path len) = is_short path
file_has_line (file.Chmod path mode) = is_short path && is_mode mode
file_has_line (file.Link old new) = is_short old && is_short new
file_has_line (file.Unlink path) = is_short path
file_has_line (file.Rmdir path) = is_short path
file_has_line (file.Rename old new) = is_short old && is_short new
file_has_line (file.Rename2 old new flags) = is_short old && is_short new
file_has_line (file.Stat path) = is_short path
file_has_line (file.List path) = is_short path

-- whether a line of a script makes the call: all but pumps, instances for pipes, long paths and large modes
abbrev pub has_line : Call → Bool
has_line (call.File f) = file_has_line f
has_line (call.Init limit is_piped) = not is_piped
has_line (call.AddWatch id path mask) = is_short path
has_line (call.RmWatch id wd) = true
has_line (call.Read id bytes) = true
has_line (call.Pump id bytes) = false
has_line (call.Close id) = true

-- a path that a line may name
pub record IsScriptPath (path : List (List ℕ)) : Type 0 where
  pub names : All IsName path
  pub short : length (pathname_of path) < path_max

abbrev pub IsScriptFileCall : FileCall → Type 0
IsScriptFileCall (file.Create path mode) = IsScriptPath path × (mode < octal ^ mode_digits)
IsScriptFileCall (file.Mkdir path mode) = IsScriptPath path × (mode < octal ^ mode_digits)
IsScriptFileCall (file.Write path offset bytes) = IsScriptPath path × (offset < 2 ^ 64) × IsBytes bytes
IsScriptFileCall (file.ReadFile path offset count) = IsScriptPath path × (offset < 2 ^ 64) × (count < 2 ^ 32)
IsScriptFileCall (file.Truncate path len) = IsScriptPath path × (len < 2 ^ 64)
IsScriptFileCall (file.Chmod path mode) = IsScriptPath path × (mode < octal ^ mode_digits)
IsScriptFileCall (file.Link old new) = IsScriptPath old × IsScriptPath new
IsScriptFileCall (file.Unlink path) = IsScriptPath path
IsScriptFileCall (file.Rmdir path) = IsScriptPath path
IsScriptFileCall (file.Rename old new) = IsScriptPath old × IsScriptPath new
IsScriptFileCall (file.Rename2 old new flags) = IsScriptPath old × IsScriptPath new × (flags < 2 ^ 32)
IsScriptFileCall (file.Stat path) = IsScriptPath path
IsScriptFileCall (file.List path) = IsScriptPath path

-- a call that lines make: numbers, bytes and names are those of its type, and it has a line
abbrev pub IsScriptCall : Call → Type 0
IsScriptCall (call.File f) = IsScriptFileCall f
IsScriptCall (call.Init limit is_piped) = (limit < 2 ^ 32) × (is_piped ≡ false)
IsScriptCall (call.AddWatch id path mask) = (id < 2 ^ 32) × IsScriptPath path × (mask < 2 ^ 32)
IsScriptCall (call.RmWatch id wd) = (id < 2 ^ 32) × FitsSigned w32 wd
IsScriptCall (call.Read id bytes) = (id < 2 ^ 32) × (bytes < 2 ^ 32)
IsScriptCall (call.Pump id bytes) = ⊥
IsScriptCall (call.Close id) = id < 2 ^ 32

-- ---- the lines

-- the line that makes a call, or a comment where none does
unfoldable pub call_line : Call → List ℕ
call_line c =
    if has_line c then call_text c ++ codes "\n"
    else codes "# " ++ call_text c ++ codes " (no line of a script makes this call)\n"

-- how the line of a call shows its reply
abbrev pub format_of : Call → OutputFormat
format_of (call.Read id bytes) = Records
format_of _ = Plain

-- the lines of a text as comments
abbrev pub commented : List ℕ → List ℕ
commented text = flat_map (λ line. codes "# " ++ line ++ codes "\n") (runs (byte "\n") text)

-- the line of an entry's call, and its reply as comments, with a line for each record
abbrev pub IsEntryText : Entry → List ℕ → Type 0
IsEntryText entry text =
    (reply : List ℕ) × IsReplyText Records entry.reply reply × (text ≡ call_line entry.call ++ commented reply)
