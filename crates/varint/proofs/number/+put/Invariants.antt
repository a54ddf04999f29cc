-- A number has fewer groups without its last one.
use Rattle.varint.proofs.number.+put.Given as goal

abbrev pub decreases-put : goal.decreases-put
decreases-put l = l.n
