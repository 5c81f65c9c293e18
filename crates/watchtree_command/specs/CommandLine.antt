-- What the words of the command line stand for.
use Rattle.std.specs.Prelude.{◌≡◌, ◌≤◌, ⊤, ℕ, Bool, true, ◌&&◌, nat_lt, nat_le, List, [], length, Option, Some, None}
use Rattle.std.specs.Prelude.{codes}
use Rattle.std.specs.Prelude.{drop, option_map, option_and_then, Result, Ok, Err, if◌then◌else◌}
use Rattle.std.specs.Char.{is_ascii_digit}
use Rattle.std.specs.List.{list_all, list_any}
use Rattle.std.specs.Str.{bytes_eq}
use Rattle.std.specs.Str.Parse.{digits_value}
use Rattle.clap.specs.Simple.{on_top}
use Rattle.clap.specs.Words.{App, Kinds, Row, Shape, Text, fault_of, first_of, new_app, new_rule, subcommand_of}
use Rattle.clap.specs.Words.{with_rule, with_subcommand}
use Rattle.clap.specs.declared.builder.action.ArgAction.TheVariants.{Set}
use Rattle.tree_paths.specs.Greatest.{most}
use Rattle.watchtree_command.specs.declared.fault.Fault.{Fault}
use Rattle.watchtree_command.specs.declared.fault.Fault.TheVariants as fault
use Rattle.watchtree_command.specs.declared.command_line.Invocation.{Invocation}
use Rattle.watchtree_command.specs.declared.command_line.Invocation.TheVariants.{Run, Storm}

-- the least limit of a queue, and the usual one. The greatest is that of every queue
abbrev pub least_queue : ℕ
least_queue = 1

abbrev pub usual_queue : ℕ
usual_queue = 16384

abbrev pub IsQueueLimit : ℕ → Type 0
IsQueueLimit limit = (least_queue ≤ limit) × (limit ≤ most.queue)

-- how many calls each writer of a storm makes, at least, usually and at most
abbrev pub least_calls : ℕ
least_calls = 1

abbrev pub usual_calls : ℕ
usual_calls = 100

abbrev pub most_calls : ℕ
most_calls = 1000

abbrev pub IsStormCalls : ℕ → Type 0
IsStormCalls calls = (least_calls ≤ calls) × (calls ≤ most_calls)

-- what the words ask for is within its range
abbrev pub IsInvocation : Invocation → Type 0
IsInvocation (Run queue) = IsQueueLimit queue
IsInvocation (Storm calls) = IsStormCalls calls

-- how many digits a number may have
abbrev pub most_digits : ℕ
most_digits = 5

-- N: decimal digits, as many as may be, that stand for a number in a range
unfoldable pub number_within : ℕ → ℕ → List ℕ → Option ℕ
number_within least most text =
    if nat_lt 0 (length text) && nat_le (length text) most_digits && list_all is_ascii_digit text
    && nat_le least (digits_value 10 text) && nat_le (digits_value 10 text) most
    then Some (digits_value 10 text) else None

-- the number that was given, or the usual one
abbrev pub number_or : ℕ → ℕ → ℕ → Option (List ℕ) → Option ℕ
number_or usual least most None = Some usual
number_or usual least most (Some text) = number_within least most text

-- a command to clap: it has no flags of its own for help and version
abbrev pub without_flags : Shape → Shape
without_flags s = record s { disable_help_flag = true; disable_version_flag = true }

-- and a subcommand with one option, which has a value
abbrev pub with_option : Text → Text → Shape
with_option name option =
    (with_rule (on_top without_flags (new_app name))
    (record (new_rule option) { long = Some option; action = Some Set })).top

abbrev pub needs_subcommand : Shape → Shape
needs_subcommand s = record (without_flags s) { disable_help_subcommand = true; subcommand_required = true }

-- the program to clap: `run [--queue VALUE]` or `storm [--calls VALUE]`
abbrev pub program : App
program =
    with_subcommand (with_subcommand (on_top needs_subcommand (new_app (codes "watchtree")))
    (with_option (codes "run") (codes "queue"))) (with_option (codes "storm") (codes "calls"))

-- what a subcommand asks for, with the values of its options: a limit of a queue, or a number of calls
abbrev pub invocation_in : Text × List Row → Option Invocation
invocation_in s =
    if bytes_eq s.0 (codes "run")
    then option_map Run (number_or usual_queue least_queue most.queue (first_of (codes "queue") s.1))
    else if bytes_eq s.0 (codes "storm")
    then option_map Storm (number_or usual_calls least_calls most_calls (first_of (codes "calls") s.1))
    else None

abbrev pub is_dashes : Text → Bool
is_dashes word = bytes_eq word (codes "--")

-- clap finds no fault
abbrev pub unless_fault : {A : Type 0} → Kinds → Option A → Option A
unless_fault [] asked = asked
unless_fault _ asked = None

-- what the words ask for: clap takes them, and none behind the first is `--`
abbrev pub invocation_of : List Text → Option Invocation
invocation_of words =
    if list_any is_dashes (drop 1 words) then None
    else unless_fault (fault_of program words) (option_and_then invocation_in (subcommand_of program words))

-- the result: what the words ask for, a fault if they ask for nothing, or out of memory
abbrev pub Invokes : Option Invocation → Result Invocation Fault → Type 0
Invokes asked (Ok a) = asked ≡ Some a
Invokes asked (Err fault.CommandLine) = asked ≡ None
Invokes asked (Err fault.Memory) = ⊤
Invokes asked (Err _) = ⊥
