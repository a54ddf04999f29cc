-- After some pushes the rest of the run is still to come.
use Rattle.std.proofs.Common.{◌≡◌}
use Rattle.batch.proofs.Steps.{Ran}
use Rattle.batch.proofs.record_until_full.Given as goal

abbrev pub invariant-loop-pushed : goal.invariant-loop-pushed
invariant-loop-pushed g l =
    let entries = g.J.Journal.entries in
    let fits = g.J.Journal.fits in
    Ran (fits l.initial.journal) (entries l.initial.journal) l.batch (entries l.journal) l.pushed × (fits l.journal ≡ fits l.initial.journal)
