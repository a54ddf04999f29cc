-- The bytes so far are those of the mirrors so far.
use Rattle.std.proofs.Common.{map}
use Rattle.varint.specs.Written.{Written}
use Rattle.mirror.proofs.Mirroring.{bytes_in_turn}
use Rattle.mirror.proofs.put_pairs.Given as goal

abbrev pub invariant-loop-instruction : goal.invariant-loop-instruction
invariant-loop-instruction l = Written l.initial.bytes l.at (bytes_in_turn (map (λ i. i.now) l.yielded)) l.end l.bytes
