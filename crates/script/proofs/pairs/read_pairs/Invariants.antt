-- What was asked for is what is left, behind the pairs so far.
use Rattle.std.proofs.Common.{◌≡◌, ◌-◌, length}
use Rattle.script.specs.Images.{pairs_of, pairs_from}
use Rattle.script.proofs.Turns.{ended}
use Rattle.script.proofs.pairs.read_pairs.Given as goal

abbrev pub invariant-loop : goal.invariant-loop
invariant-loop l = record { left : pairs_of l.bytes ≡ ended l.bytes (pairs_from l.bytes (l.count - l.counter) l.end l.pairs.items); so_many : length l.pairs.items ≡ l.counter }
