-- How replies are printed.
use Rattle.std.specs.Prelude.{◌≡◌, ℕ, ◌+◌, ◌/◌, ◌%◌, List, [], ◌∷◌, ◌++◌, length, codes, decimal}
use Rattle.std.specs.List.{flat_map}
use Rattle.std.specs.Fmt.{signed_decimal}
use Rattle.hex.specs.Hex.{encode_lower}
use Rattle.tree_paths.specs.declared.refusal.Refusal.{Refusal}
use Rattle.tree_paths.specs.Refusals.{refusal_name, refusal_number}
use Rattle.record_codec.specs.declared.event.Event.{Event}
use Rattle.record_codec.specs.Records.{AreEvents, spelling}
use Rattle.record_codec.specs.Lines.{printed_name, record_line}
use Rattle.inode_table.specs.declared.seen.Kind.{Kind}
use Rattle.inode_table.specs.declared.seen.Kind.TheVariants.{Regular, Directory}
use Rattle.tree_ops.specs.declared.answer.Answer.{Answer}
use Rattle.tree_ops.specs.declared.answer.Answer.TheVariants as answer
use Rattle.tree_core.specs.declared.reply.Reply.{Reply}
use Rattle.tree_core.specs.declared.reply.Reply.TheVariants as reply
use Rattle.watchtree_script.specs.declared.line.OutputFormat.{OutputFormat}
use Rattle.watchtree_script.specs.declared.line.OutputFormat.TheVariants.{Plain, Records, Hexadecimal}

-- ok, and a value
abbrev pub ok_line : List ℕ → List ℕ
ok_line value = codes "ok " ++ value ++ codes "\n"

-- err, with the name and the number of a refusal
abbrev pub refusal_text : Refusal → List ℕ
refusal_text refusal =
    codes "err " ++ refusal_name refusal ++ codes " " ++ decimal (refusal_number refusal) ++ codes "\n"

-- ok alone
abbrev pub done_line : List ℕ
done_line = codes "ok\n"

-- bytes as hexadecimal digits, and a dash for none
abbrev pub hexadecimal : List ℕ → List ℕ
hexadecimal [] = codes "-"
hexadecimal (b ∷ bytes) = encode_lower (b ∷ bytes)

-- a name behind two spaces
abbrev pub name_line : List ℕ → List ℕ
name_line name = codes "  " ++ printed_name name ++ codes "\n"

abbrev pub kind_letter : Kind → List ℕ
kind_letter Regular = codes "f"
kind_letter Directory = codes "d"

-- the last octal digit of a number
abbrev pub octal_digit : ℕ → ℕ
octal_digit n = 48 + n % 8

-- a mode as four octal digits
abbrev pub mode_text : ℕ → List ℕ
mode_text mode = octal_digit (mode / 512) ∷ octal_digit (mode / 64) ∷ octal_digit (mode / 8) ∷ octal_digit mode ∷ []

-- what an accepted call on files answers: a number, a count, the bytes that were read, the names in a directory in a
-- line each, or the number, kind, mode, links and size of a file
abbrev pub answer_text : Answer → List ℕ
answer_text answer.Done = done_line
answer_text (answer.Number number) = ok_line (decimal number)
answer_text (answer.Count count) = ok_line (decimal count)
answer_text (answer.Bytes bytes) = ok_line (hexadecimal bytes)
answer_text (answer.Names names) = ok_line (decimal (length names)) ++ flat_map name_line names
answer_text (answer.Stat number kind mode links size) =
    ok_line (decimal number ++ codes " " ++ kind_letter kind ++ codes " " ++ mode_text mode
    ++ codes " " ++ decimal links ++ codes " " ++ decimal size)

-- a record behind two spaces
abbrev pub event_line : Event → List ℕ
event_line e = codes "  " ++ record_line e ++ codes "\n"

-- the events whose records the bytes are
abbrev pub AreEventsIn : List ℕ → List Event → Type 0
AreEventsIn bytes events = AreEvents events × (bytes ≡ spelling events)

-- the reply of a read: the number of bytes that were read, and behind it nothing more, a line for each record, or one
-- line of the bytes in hexadecimal
abbrev pub IsReadText : OutputFormat → List ℕ → List ℕ → Type 0
IsReadText Plain bytes text = text ≡ ok_line (decimal (length bytes))
IsReadText Records bytes text =
    (events : List Event) × AreEventsIn bytes events
    × (text ≡ ok_line (decimal (length bytes)) ++ flat_map event_line events)
IsReadText Hexadecimal bytes text =
    text ≡ ok_line (decimal (length bytes)) ++ (codes "  " ++ encode_lower bytes ++ codes "\n")

-- the text of a reply, as its command shows it
abbrev pub IsReplyText : OutputFormat → Reply → List ℕ → Type 0
IsReplyText format (reply.File answer) text = text ≡ answer_text answer
IsReplyText format (reply.Instance id) text = text ≡ ok_line (decimal id)
IsReplyText format (reply.Wd wd) text = text ≡ ok_line (signed_decimal wd)
IsReplyText format (reply.Records bytes) text = IsReadText format bytes text
IsReplyText format reply.Done text = text ≡ done_line
IsReplyText format (reply.Refused refusal) text = text ≡ refusal_text refusal
