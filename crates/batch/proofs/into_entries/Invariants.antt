-- What has been moved and what is left are the whole.
use Rattle.std.proofs.Common.{◌≡◌, ◌++◌, length, vec_items}
use Rattle.batch.proofs.into_entries.Given as goal

abbrev pub invariant-loop-entry : goal.invariant-loop-entry
invariant-loop-entry g l =
    let entries = g.J.Journal.entries in
    vec_items l.list ++ entries l.journal ≡ vec_items l.initial.list ++ entries l.initial.journal

abbrev pub decreases-loop-entry : goal.decreases-loop-entry
decreases-loop-entry g l = length (g.J.Journal.entries l.journal)
