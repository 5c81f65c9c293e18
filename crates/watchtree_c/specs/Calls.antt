-- The calls that C asks for.
use Rattle.std.specs.Prelude.{ℕ, ◌^◌, ◌-◌, List, length, min, Result, Ok, Err}
use Rattle.tree_paths.specs.declared.refusal.Refusal.{Refusal}
use Rattle.tree_paths.specs.Paths.{parsed}
use Rattle.tree_ops.specs.declared.call.FileCall.TheVariants as file
use Rattle.tree_core.specs.declared.call.Call.{Call}
use Rattle.tree_core.specs.declared.call.Call.TheVariants as call

-- a call on the path of a text, or why the text is none
abbrev pub on_path : (List (List ℕ) → Call) → Result (List (List ℕ)) Refusal → Result Call Refusal
on_path f (Ok path) = Ok (f path)
on_path f (Err refusal) = Err refusal

-- a call on two paths, the old one being read first
abbrev pub on_paths : (List (List ℕ) → List (List ℕ) → Call) → Result (List (List ℕ)) Refusal
    → Result (List (List ℕ)) Refusal → Result Call Refusal
on_paths f (Ok old) new = on_path (f old) new
on_paths f (Err refusal) new = Err refusal

abbrev pub mkdir_call : List ℕ → ℕ → Result Call Refusal
mkdir_call path mode = on_path (λ p. call.File (file.Mkdir p mode)) (parsed path)

abbrev pub create_call : List ℕ → ℕ → Result Call Refusal
create_call path mode = on_path (λ p. call.File (file.Create p mode)) (parsed path)

abbrev pub write_call : List ℕ → ℕ → List ℕ → Result Call Refusal
write_call path offset bytes = on_path (λ p. call.File (file.Write p offset bytes)) (parsed path)

abbrev pub read_call : List ℕ → ℕ → ℕ → Result Call Refusal
read_call path offset count = on_path (λ p. call.File (file.ReadFile p offset count)) (parsed path)

abbrev pub truncate_call : List ℕ → ℕ → Result Call Refusal
truncate_call path len = on_path (λ p. call.File (file.Truncate p len)) (parsed path)

abbrev pub chmod_call : List ℕ → ℕ → Result Call Refusal
chmod_call path mode = on_path (λ p. call.File (file.Chmod p mode)) (parsed path)

abbrev pub link_call : List ℕ → List ℕ → Result Call Refusal
link_call old new = on_paths (λ o n. call.File (file.Link o n)) (parsed old) (parsed new)

abbrev pub unlink_call : List ℕ → Result Call Refusal
unlink_call path = on_path (λ p. call.File (file.Unlink p)) (parsed path)

abbrev pub rmdir_call : List ℕ → Result Call Refusal
rmdir_call path = on_path (λ p. call.File (file.Rmdir p)) (parsed path)

abbrev pub stat_call : List ℕ → Result Call Refusal
stat_call path = on_path (λ p. call.File (file.Stat p)) (parsed path)

abbrev pub list_call : List ℕ → Result Call Refusal
list_call path = on_path (λ p. call.File (file.List p)) (parsed path)

abbrev pub rename_call : List ℕ → List ℕ → Result Call Refusal
rename_call old new = on_paths (λ o n. call.File (file.Rename o n)) (parsed old) (parsed new)

abbrev pub rename2_call : List ℕ → List ℕ → ℕ → Result Call Refusal
rename2_call old new flags = on_paths (λ o n. call.File (file.Rename2 o n flags)) (parsed old) (parsed new)

abbrev pub add_watch_call : ℕ → List ℕ → ℕ → Result Call Refusal
add_watch_call instance path mask = on_path (λ p. call.AddWatch instance p mask) (parsed path)

-- as many bytes as a call may ask for
abbrev pub asked_bytes : List ℕ → ℕ
asked_bytes out = min (length out) (2 ^ 32 - 1)
