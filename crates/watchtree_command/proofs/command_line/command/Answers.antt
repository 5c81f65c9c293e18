use Rattle.std.proofs.Common.{rules, ◌≡◌, ◌∙◌, ◌&&◌, Bool, true, false, not, ap, ap₂, codes, refl}
use Rattle.std.proofs.lemmas.Result.{IfOk-weaker}
use Rattle.clap.specs.Simple.{on_top}
use Rattle.clap.specs.Words.{Shape, app_of, new_app, shape_of, with_subcommand}
use Rattle.watchtree_command.specs.CommandLine.{needs_subcommand, with_option}
use Rattle.watchtree_command.proofs.command_line.command.Goals as goal

-- a plain shape has no global argument
no_globals : (a b g x : Bool) → (a && (not b && (not g && x))) ≡ true → g ≡ false
no_globals a b false x e = refl
no_globals true true true x e = cc
no_globals true false true x e = cc
no_globals false b true x e = cc

pub returns : goal.returns
returns c =
    let run_is : shape_of c.in_ok-run.run' ≡ with_option (codes "run") (codes "queue") = c.in_ok-run.ensures in
    let storm_is : shape_of c.in_ok-storm.storm ≡ with_option (codes "storm") (codes "calls") = c.in_ok-storm.ensures in
    let plain_run = ap (λ (s : Shape). s.is_plain) run_is in
    let plain_storm = ap (λ (s : Shape). s.is_plain) storm_is in
    let start_is : app_of c.subcommand_required.result ≡ on_top needs_subcommand (new_app (codes "watchtree")) = search rules in
    let first_is = c.in_ok-subcommand.ensures.shape (no_globals _ _ _ _ plain_run) ∙ ap₂ with_subcommand start_is run_is in
    IfOk-weaker c.subcommand-4.result _ _ (λ m h. h.shape (no_globals _ _ _ _ plain_storm) ∙ ap₂ with_subcommand first_is storm_is) c.subcommand-4.ensures
