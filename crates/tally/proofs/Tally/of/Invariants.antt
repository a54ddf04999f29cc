-- The entries so far are counted.
use Rattle.std.proofs.Common.{take}
use Rattle.report.specs.Owners.{owner_cmp}
use Rattle.tally.specs.Counts.{Counts}
use Rattle.tally.proofs.Tally.of.Given as goal

abbrev pub invariant-loop-entry : goal.invariant-loop-entry
invariant-loop-entry l = Counts owner_cmp (take l.entry-index l.entries) l.counts
