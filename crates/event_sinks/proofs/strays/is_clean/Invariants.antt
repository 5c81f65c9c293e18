use Rattle.std.proofs.Common.{◌≡◌, ◌+◌, drop, length, map}
use Rattle.event_sinks.specs.Marked.{marked, AreNext}
use Rattle.tree_core.specs.declared.reply.Kept.{Kept}
use Rattle.event_sinks.proofs.strays.is_clean.Given as goal

abbrev pub invariant-loop-kept : goal.invariant-loop-kept
invariant-loop-kept l = record {
  len : length l.seen ≡ l.cut + length l.journal;
  so_far : AreNext l.cut l.journal l.seen l.log.number l.last (drop l.kept-index l.log.kept) → AreNext l.cut l.journal l.initial.seen l.log.number 0 l.log.kept;
  back : AreNext l.cut l.journal l.initial.seen l.log.number 0 l.log.kept → AreNext l.cut l.journal l.seen l.log.number l.last (drop l.kept-index l.log.kept);
  marks : marked l.seen (map (λ (k : Kept). k.place) (drop l.kept-index l.log.kept)) ≡ marked l.initial.seen (map (λ (k : Kept). k.place) l.log.kept);
}
