-- How far a reader has come, and that it goes on to the end of the bytes.
use Rattle.std.proofs.Common.{◌-◌, length}
use Rattle.varint.proofs.Readings.{Scanning}
use Rattle.varint.proofs.number.scan.Given as goal

abbrev pub invariant-loop-end : goal.invariant-loop-end
invariant-loop-end l = Scanning l.bytes l.at l.end l.value

abbrev pub decreases-loop-end : goal.decreases-loop-end
decreases-loop-end l = length l.bytes - l.end
