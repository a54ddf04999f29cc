-- The lines so far and those from there on are all.
use Rattle.std.proofs.Common.{◌≡◌, ◌++◌, drop, vec_items, vec_len}
use Rattle.report.specs.Numbering.{lines_of}
use Rattle.report.proofs.line.lines.Given as goal

abbrev pub invariant-loop-entry : goal.invariant-loop-entry
invariant-loop-entry l = (vec_len l.lines ≡ l.entry-index) × (vec_items l.lines ++ lines_of (drop l.entry-index l.entries) ≡ lines_of l.entries)
