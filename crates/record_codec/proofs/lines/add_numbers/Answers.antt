use Rattle.std.proofs.Common.{rules, ◌≡◌, ◌∙◌, ◌++◌, ap, List, ℕ}
use Rattle.std.specs.Prelude.{FitsSigned}
use Rattle.std.specs.Int.{w32, to_be_bytes}
use Rattle.std.proofs.lemmas.Int.{to_z-of_z}
use Rattle.hex.specs.Hex.{encode_lower}
use Rattle.record_codec.specs.Views.{event_seen}
use Rattle.record_codec.proofs.LineLemmas.{numbers-joined}
use Rattle.record_codec.proofs.lines.add_numbers.Goals as goal

pub returns-clause-items : goal.returns-clause-items
returns-clause-items c =
    let fits : FitsSigned w32 c.args.view.now.wd = search rules in
    let wd = simp to_z-of_z at c.add_signed.ensures.items in
    let mask : c.encode_to_slice.new.output ≡ encode_lower (to_be_bytes w32 c.args.view.now.mask) = search rules in
    numbers-joined (event_seen c.args.view.now) c.args.out.now.items c.add_signed.new.out.items c.push_reserved.new.self.items
    c.add.new.out.items c.push_reserved-2.new.self.items c.add_number.new.out.items (record {
      wd = wd;
      space = c.push_reserved.ensures.items;
      mask = c.add.ensures.items ∙ ap (λ (t : List ℕ). c.push_reserved.new.self.items ++ t) mask;
      again = c.push_reserved-2.ensures.items;
      cookie = c.add_number.ensures.items;
    })
