use Rattle.std.proofs.Common.{◌≡◌, None, Err, sym, ap, ◌∙◌, inl, w32, rules}
use Rattle.std.specs.Prelude.{pos}
use Rattle.std.proofs.lemmas.Int.{to_z-of_z}
use mir.Val.{SFits}
use Rattle.watch_table.specs.Watching.{is_full, wd_of, with_new_watch}
use Rattle.watch_table.proofs.Watched.{added-new, refused_as_barred, refused_as_full, refused_as_taken}
use Rattle.watch_table.proofs.Watched.{not_refused_watched, not_refused_room, some_none, same_some, wd_added-new}
use Rattle.watch_table.proofs.Watched.{wd_added-watched}
use Rattle.watch_table.proofs.watches.Watches.add.Goals as goal

pub returns-then-is_barred-clause-refused : goal.returns-then-is_barred-clause-refused
returns-then-is_barred-clause-refused c =
    let e = refused_as_barred c.args.self.now c.args.number c.args.mask.0 c.args.is_directory (sym c.is_barred.ensures ∙ c.if-is_barred.true) in
    λ r is. ap (λ x. Err x) (same_some (sym e ∙ is))

pub returns-then-is_barred-clause-refusals : goal.returns-then-is_barred-clause-refusals
returns-then-is_barred-clause-refusals c =
    inl (refused_as_barred c.args.self.now c.args.number c.args.mask.0 c.args.is_directory (sym c.is_barred.ensures ∙ c.if-is_barred.true))

pub returns-then-is_taken-clause-refused : goal.returns-then-is_taken-clause-refused
returns-then-is_taken-clause-refused c =
    let e =
    refused_as_taken c.args.self.now c.args.number c.args.mask.0 c.args.is_directory
    (sym c.is_barred.ensures ∙ c.if-is_barred.false) (sym c.is_taken.ensures ∙ c.if-is_taken.true) in
    λ r is. ap (λ x. Err x) (same_some (sym e ∙ is))

pub returns-then-is_taken-clause-refusals : goal.returns-then-is_taken-clause-refusals
returns-then-is_taken-clause-refusals c =
    inl
    (refused_as_taken c.args.self.now c.args.number c.args.mask.0 c.args.is_directory
    (sym c.is_barred.ensures ∙ c.if-is_barred.false) (sym c.is_taken.ensures ∙ c.if-is_taken.true))

pub returns-in-Some-clause-wd : goal.returns-in-Some-clause-wd
returns-in-Some-clause-wd c =
    let fits : SFits w32 c.in-Some.wd = search rules in
    to_z-of_z w32 c.in-Some.wd fits ∙ sym (wd_added-watched c.args.self.now c.args.number c.in-Some.wd (sym c.in-Some.ensures.wd))

pub returns-in-Some-clause-refused : goal.returns-in-Some-clause-refused
returns-in-Some-clause-refused c =
    let e =
    not_refused_watched c.args.self.now c.args.number c.args.mask.0 c.args.is_directory
    (sym c.is_barred.ensures ∙ c.if-is_barred.false) (sym c.is_taken.ensures ∙ c.if-is_taken.false) c.in-Some.wd
    (sym c.in-Some.ensures.wd) in
    λ r is. absurd (some_none e is)

pub returns-then-is_full-clause-refused : goal.returns-then-is_full-clause-refused
returns-then-is_full-clause-refused c =
    let none : wd_of c.args.self.now c.args.number ≡ None = sym c.in_default.ensures.wd in
    let full = ap is_full (sym c.in_default.ensures.none) ∙ sym c.is_full.ensures ∙ c.if-is_full.true in
    let e = refused_as_full c.args.self.now c.args.number c.args.mask.0 c.args.is_directory (sym c.is_barred.ensures ∙ c.if-is_barred.false) none full in
    λ r is. ap (λ x. Err x) (same_some (sym e ∙ is))

pub returns-then-is_full-clause-refusals : goal.returns-then-is_full-clause-refusals
returns-then-is_full-clause-refusals c =
    let none : wd_of c.args.self.now c.args.number ≡ None = sym c.in_default.ensures.wd in
    let full = ap is_full (sym c.in_default.ensures.none) ∙ sym c.is_full.ensures ∙ c.if-is_full.true in
    inl (refused_as_full c.args.self.now c.args.number c.args.mask.0 c.args.is_directory (sym c.is_barred.ensures ∙ c.if-is_barred.false) none full)

pub returns-in_err-add_new-clause-refused : goal.returns-in_err-add_new-clause-refused
returns-in_err-add_new-clause-refused c =
    let none : wd_of c.args.self.now c.args.number ≡ None = sym c.in_default.ensures.wd in
    let room = ap is_full (sym c.in_default.ensures.none) ∙ sym c.is_full.ensures ∙ c.if-is_full.false in
    let e = not_refused_room c.args.self.now c.args.number c.args.mask.0 c.args.is_directory (sym c.is_barred.ensures ∙ c.if-is_barred.false) none room in
    λ r is. absurd (some_none e is)

pub returns-clause-wd : goal.returns-clause-wd
returns-clause-wd c =
    let none : wd_of c.args.self.now c.args.number ≡ None = sym c.in_default.ensures.wd in
    let wd = c.in_ok-add_new.field-0 in
    let fits : SFits w32 wd = search rules in
    to_z-of_z w32 wd fits ∙ c.in_ok-add_new.ensures.wd ∙ ap (λ w. pos w.next_wd) c.in_default.ensures.none
    ∙ sym (wd_added-new c.args.self.now c.args.number none)

pub returns-clause-watches : goal.returns-clause-watches
returns-clause-watches c =
    let none : wd_of c.args.self.now c.args.number ≡ None = sym c.in_default.ensures.wd in
    c.in_ok-add_new.ensures.watches
    ∙ ap (λ w. with_new_watch w c.args.number c.stored.result) c.in_default.ensures.none
    ∙ ap (with_new_watch c.args.self.now c.args.number) c.stored.ensures
    ∙ sym (added-new c.args.self.now c.args.number c.args.mask.0 none)

pub returns-clause-refused : goal.returns-clause-refused
returns-clause-refused c =
    let none : wd_of c.args.self.now c.args.number ≡ None = sym c.in_default.ensures.wd in
    let room = ap is_full (sym c.in_default.ensures.none) ∙ sym c.is_full.ensures ∙ c.if-is_full.false in
    let e = not_refused_room c.args.self.now c.args.number c.args.mask.0 c.args.is_directory (sym c.is_barred.ensures ∙ c.if-is_barred.false) none room in
    λ r is. absurd (some_none e is)
