-- The record that begins records.
use Rattle.std.proofs.Common.{◌≡◌, ◌≢◌, ℕ, ◌+◌, ◌≤◌, List, [], ◌∷◌, ◌++◌, length, drop, refl, sym, ap, subst, ◌∙◌, arith, length-append, IsTrue, Option, Some}
use Rattle.std.specs.Prelude.{IfSome, slice_range}
use Rattle.std.specs.Option.{ForSome, option_copied}
use denote.Ref.{Bor}
use Rattle.record_codec.specs.Names.{IsName, is_name}
use Rattle.std.proofs.lemmas.List.{drop_at}
use Rattle.record_codec.specs.declared.event.Event.{Event}
use Rattle.record_codec.specs.Records.{IsEvent, AreEvents, record_bytes, spelling}
use Rattle.record_codec.specs.Views.{AreRecords}
use Rattle.record_codec.specs.Faults.{number_at}
use Rattle.record_codec.specs.Reads.{event_of, name_of}
use Rattle.record_codec.proofs.RecordLaws.{record_again, len_told}

pub record Begun (bytes : List ℕ) : Type 0 where
  pub event : IsEvent (event_of bytes)
  pub long : 16 + number_at bytes 12 ≤ length bytes
  pub spelled : bytes ≡ record_bytes (event_of bytes) ++ drop (16 + number_at bytes 12) bytes
  pub more : AreRecords (drop (16 + number_at bytes 12) bytes)

begun_by : (bytes : List ℕ) (es : List Event) → AreEvents es → bytes ≡ spelling es → length bytes ≢ 0 → Begun bytes
begun_by bytes [] fits same some = absurd (some (ap length same))
begun_by bytes (e ∷ es) fits same some =
    let rest = spelling es in
    let read : e ≡ event_of bytes = (record_again e rest 0 fits.0).event ∙ ap event_of (sym same) in
    let len : 16 + number_at bytes 12 ≡ length (record_bytes e) = ap (λ (b : List ℕ). 16 + number_at b 12) same ∙ len_told e rest fits.0 in
    let behind : drop (16 + number_at bytes 12) bytes ≡ rest =
    ap (λ (k : ℕ). drop k bytes) len ∙ ap (drop (length (record_bytes e))) same ∙ drop_at (record_bytes e) rest (length (record_bytes e)) refl in
    record {
      event = subst IsEvent read fits.0;
      long = omega (arith, len, ap length same, length-append (record_bytes e) rest);
      spelled = same ∙ ap (λ (k : Event). record_bytes k ++ rest) read ∙ ap (λ (t : List ℕ). record_bytes (event_of bytes) ++ t) (sym behind);
      more = (es, fits.1, behind);
    }

pub begun : (bytes : List ℕ) → AreRecords bytes → length bytes ≢ 0 → Begun bytes
begun bytes records some = begun_by bytes records.0 records.1 records.2 some

pub named_seen : (seen : Option (Bor (List ℕ))) (name : Option (List ℕ)) → option_copied seen ≡ name → IfSome name IsName
    → ForSome seen (λ n. IsTrue (is_name n.now))
named_seen seen name copied named x is =
    let some : name ≡ Some x.now = sym copied ∙ ap option_copied is in
    let it = rw some at named in
    it.named

-- the name of the record that begins records
pub begun_name : (bytes : List ℕ) (len : ℕ) → len ≡ number_at bytes 12 → Begun bytes → IfSome (name_of (slice_range bytes 16 (16 + len))) IsName
unfolding event_of
begun_name bytes len is b = rw is b.event.name

-- what is read of it, and what stands behind
pub next_is : (bytes tail : List ℕ) (e : Event) → Begun bytes → e ≡ event_of bytes → tail ≡ drop (16 + number_at bytes 12) bytes
    → IsEvent e × (bytes ≡ record_bytes e ++ tail) × AreRecords tail
next_is bytes tail e b is behind = rw (is, behind) (b.event, b.spelled, b.more)
