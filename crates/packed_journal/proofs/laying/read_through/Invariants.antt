-- What is still to be read gives the answer.
use Rattle.std.proofs.Common.{◌≡◌, ℕ, ◌-◌, ◌≤◌, List, length}
use Rattle.journal.specs.declared.entry.Entry.{Entry}
use Rattle.packed_journal.specs.Laying.{read_all, read_from}
use Rattle.packed_journal.proofs.laying.read_through.Given as goal

abbrev pub invariant-loop-at : goal.invariant-loop-at
invariant-loop-at l = (most : ℕ) × (length l.bytes - l.at ≤ most) × ((older : List Entry) × (read_all l.bytes ≡ read_from most l.bytes l.at older))

abbrev pub decreases-loop-at : goal.decreases-loop-at
decreases-loop-at l = length l.bytes - l.at
