-- What clap's answer says of what the words ask for.
use Rattle.std.proofs.Common.{◌≡◌, ◌≢◌, ◌⊎◌, ◌∙◌, Bool, true, false, List, [], ◌∷◌, Option, None, Result, Err, drop, ap}
use Rattle.std.proofs.Common.{refl, sym, subst, inl, inr, option_and_then, if◌then◌else◌}
use Rattle.std.specs.List.{list_any}
use Rattle.clap.specs.Words.{App, HasMatchesOf, IsAmong, Kinds, Text, fault_of, is_simple, is_simple_and_free, subcommand_of, subcommand_rows_of}
use Rattle.clap.specs.declared.parser.matches.ArgMatches.{ArgMatches}
use Rattle.clap.specs.declared.error.kind.ErrorKind.{ErrorKind}
use Rattle.clap.proofs.OnLiterals.{clap_on_literals}
use Rattle.watchtree_command.specs.CommandLine.{Invokes, invocation_in, invocation_of, is_dashes, program, unless_fault}
use Rattle.watchtree_command.specs.declared.command_line.Invocation.{Invocation}
use Rattle.watchtree_command.specs.declared.fault.Fault.{Fault}
use Rattle.watchtree_command.specs.declared.fault.Fault.TheVariants as fault

-- clap's definitions cover the program's whole command line
free : is_simple_and_free program ≡ true
unfolding clap_on_literals
free = refl

simple : is_simple program ≡ true
unfolding clap_on_literals
simple = refl

abbrev Found : Bool → Kinds → Option Invocation → Option Invocation
Found dashes faults asked = if dashes then None else unless_fault faults asked

pub taken : (words : List Text) (a : App) (m : ArgMatches) (r : Result Invocation Fault) → a ≡ program → list_any is_dashes (drop 1 words) ≡ false
    → (is_simple_and_free a ≡ true → fault_of a words ≡ []) → HasMatchesOf a words m
    → Invokes (option_and_then invocation_in (subcommand_rows_of m)) r → Invokes (invocation_of words) r
taken words a m r is dashes faults matches asks =
    let none : fault_of program words ≡ [] = subst (λ a. fault_of a words ≡ []) is (faults (ap is_simple_and_free is ∙ free)) in
    let rows : subcommand_rows_of m ≡ subcommand_of program words = (matches (ap is_simple is ∙ simple)).1 ∙ ap (λ a. subcommand_of a words) is in
    let asked = option_and_then invocation_in (subcommand_of program words) in
    let found : invocation_of words ≡ asked = ap (λ d. Found d (fault_of program words) asked) dashes ∙ ap (λ f. Found false f asked) none in
    subst (λ o. Invokes o r) (ap (option_and_then invocation_in) rows ∙ sym found) asks

no_more : (dashes : Bool) (k : ErrorKind) (faults : Kinds) (asked : Option Invocation) → IsAmong k faults → Found dashes faults asked ≡ None
no_more true k faults asked h = refl
no_more false k [] asked h = absurd h
no_more false k (x ∷ xs) asked h = refl

pub refused : (words : List Text) (a : App) (k oom : ErrorKind) (f : Fault) → a ≡ program
    → (is_simple_and_free a ≡ true → (k ≡ oom) ⊎ IsAmong k (fault_of a words))
    → (k ≡ oom → f ≡ fault.Memory) → (k ≢ oom → f ≡ fault.CommandLine) → Invokes (invocation_of words) (Err f)
refused words a k oom f is faults memory other =
    go f memory other (faults (ap is_simple_and_free is ∙ free))
  where
    go : (f : Fault) → (k ≡ oom → f ≡ fault.Memory) → (k ≢ oom → f ≡ fault.CommandLine)
        → (k ≡ oom) ⊎ IsAmong k (fault_of a words) → Invokes (invocation_of words) (Err f)
    go fault.Memory m o _ = tt
    go fault.CommandLine m o (inl e) = absurd (let is_memory = m e in cc)
    go fault.CommandLine m o (inr h) = no_more (list_any is_dashes (drop 1 words)) k (fault_of program words) _ (subst (λ a. IsAmong k (fault_of a words)) is h)
    go (fault.Run r) m o _ = absurd (let is_other = o (λ e. let is_memory = m e in cc) in cc)
    go (fault.Settle s) m o _ = absurd (let is_other = o (λ e. let is_memory = m e in cc) in cc)
