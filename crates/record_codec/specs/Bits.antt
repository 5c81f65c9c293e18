-- The bits of events, by their names.
use Rattle.std.specs.Prelude.{ℕ, List, [], ◌∷◌}
use Rattle.record_codec.specs.declared.bits.TheConstants.{IN_ACCESS, IN_MODIFY, IN_ATTRIB, IN_CLOSE_WRITE}
use Rattle.record_codec.specs.declared.bits.TheConstants.{IN_CLOSE_NOWRITE, IN_OPEN, IN_MOVED_FROM, IN_MOVED_TO}
use Rattle.record_codec.specs.declared.bits.TheConstants.{IN_CREATE, IN_DELETE, IN_DELETE_SELF, IN_MOVE_SELF}

-- those that a watch asks for
abbrev pub event_bits : List ℕ
event_bits = IN_ACCESS ∷ IN_MODIFY ∷ IN_ATTRIB ∷ IN_CLOSE_WRITE ∷ IN_CLOSE_NOWRITE ∷ IN_OPEN
    ∷ IN_MOVED_FROM ∷ IN_MOVED_TO ∷ IN_CREATE ∷ IN_DELETE ∷ IN_DELETE_SELF ∷ IN_MOVE_SELF ∷ []
