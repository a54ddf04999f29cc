-- What was asked for is what is left, behind the instructions so far.
use Rattle.std.proofs.Common.{◌≡◌, ◌+◌, length, drop}
use Rattle.script.specs.Held.{list_of}
use Rattle.script.specs.Images.{decoded, decoded_from}
use Rattle.script.proofs.pairs.decode.Given as goal

abbrev pub invariant-loop-k : goal.invariant-loop-k
invariant-loop-k l = record { left : decoded l.pairs ≡ decoded_from (length l.pairs) (l.k + 1) (drop l.k l.pairs) (list_of l.instructions); so_many : length (list_of l.instructions) ≡ l.k }
