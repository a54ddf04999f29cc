-- The lines so far are those of the instructions so far.
use Rattle.std.proofs.Common.{◌≡◌, length, vec_items, vec_len}
use Rattle.script_words.specs.Numbering.{lines_of}
use Rattle.script_words.proofs.line.numbered.Given as goal

abbrev pub invariant-loop-instruction : goal.invariant-loop-instruction
invariant-loop-instruction g l = (vec_items l.lines ≡ lines_of l.yielded) × (vec_len l.lines ≡ length l.yielded)
