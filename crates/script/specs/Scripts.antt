-- A script is the list of its instructions, which are numbered from 1.
use Rattle.std.specs.Prelude.{ℕ, zero, suc, Bool, false, ◌||◌, List, slice_index_or}
use Rattle.instruction.specs.declared.instruction.Instruction.{Instruction}
use Rattle.instruction.specs.declared.instruction.Instruction.TheVariants.{Nop}

-- the instruction at an address; before the first and behind the last there is none, which reads as nop
abbrev pub instruction_at : List Instruction → ℕ → Instruction
instruction_at s zero = Nop
instruction_at s (suc a) = slice_index_or s a Nop

-- whether some instruction before an address passes a test
abbrev pub some_before : (Instruction → Bool) → List Instruction → ℕ → Bool
some_before test s zero = false
some_before test s (suc a) = test (instruction_at s a) || some_before test s a
