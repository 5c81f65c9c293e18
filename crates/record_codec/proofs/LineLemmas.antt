-- Printed parts, one after another.
use Rattle.std.proofs.Common.{◌≡◌, ℕ, Bool, true, false, ◌&&◌, if◌then◌else◌, List, [], ◌∷◌, ◌++◌, length, refl, append_assoc, Option, Some, None, ap, sym, ◌∙◌}
use Rattle.std.proofs.lemmas.List.{append-nil}
use Rattle.std.specs.Prelude.{codes, decimal}
use Rattle.std.specs.List.{flat_map, list_all}
use Rattle.std.specs.Fmt.{signed_decimal}
use Rattle.std.specs.Int.{w32, to_be_bytes}
use Rattle.hex.specs.Hex.{encode_lower}
use Rattle.percent_encoding.specs.Percent.{percent_encode_byte}
use Rattle.record_codec.specs.declared.event.Event.{Event}
use Rattle.record_codec.specs.Lines.{is_plain, printed_byte, printed_name, printed_numbers, printed_ending, record_line}

pub length-escape : (b : ℕ) → length (percent_encode_byte b) ≡ 3
unfolding percent_encode_byte
length-escape b = refl

pub printed_name-is : (name : List ℕ) → printed_name name ≡ flat_map printed_byte name
unfolding printed_name
printed_name-is name = refl

plain-and : (a b : Bool) → (a && b) ≡ true → (a ≡ true) × (b ≡ true)
plain-and true b e = (refl, e)
plain-and false b e = absurd (cc)

-- plain bytes are printed as they are
pub plain-name : (name : List ℕ) → list_all is_plain name ≡ true → name ≡ printed_name name
unfolding printed_name
plain-name [] e = refl
plain-name (b ∷ name) e =
    let both = plain-and (is_plain b) (list_all is_plain name) e in
    let byte : printed_byte b ≡ b ∷ [] = ap (λ (p : Bool). if p then b ∷ [] else percent_encode_byte b) both.0 in
    ap (λ (t : List ℕ). b ∷ t) (plain-name name both.1) ∙ ap (λ (t : List ℕ). t ++ flat_map printed_byte name) (sym byte)

-- the text before and after each part that was added
pub record Grows (e : Event) (old a b c d new : List ℕ) : Type 0 where
  pub wd : a ≡ old ++ signed_decimal e.wd
  pub space : b ≡ a ++ codes " "
  pub mask : c ≡ b ++ encode_lower (to_be_bytes w32 e.mask)
  pub again : d ≡ c ++ codes " "
  pub cookie : new ≡ d ++ decimal e.cookie

pub numbers-joined : (e : Event) (old a b c d new : List ℕ) → Grows e old a b c d new → new ≡ old ++ printed_numbers e
unfolding printed_numbers
numbers-joined e old a b c d new h = rw (h.cookie, h.again, h.mask, h.space, h.wd) (simp append_assoc)

pub line-none : (e : Event) (old : List ℕ) → e.name ≡ None → old ++ printed_numbers e ≡ old ++ record_line e
unfolding record_line printed_ending
line-none e old is =
    ap (λ (t : List ℕ). old ++ t) (sym (append-nil (printed_numbers e)) ∙ ap (λ (n : Option (List ℕ)). printed_numbers e ++ printed_ending n) (sym is))

pub line-some : (e : Event) (old name : List ℕ) → e.name ≡ Some name → ((old ++ printed_numbers e) ++ codes " ") ++ printed_name name ≡ old ++ record_line e
unfolding record_line printed_ending
line-some e old name is = rw is (simp append_assoc)
