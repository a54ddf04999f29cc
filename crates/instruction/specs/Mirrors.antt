-- The mirror of an instruction, which takes it back, and of a script. Mirrored instructions have codes of their own.
use Rattle.std.specs.Prelude.{ℕ, List, map, reverse}
use Rattle.instruction.specs.declared.instruction.Instruction.{Instruction}
use Rattle.instruction.specs.declared.instruction.Instruction.TheVariants.{Ipush, Load, Store, Jpc, Jmp, Op, Label, ParBegin, ParEnd, Alloc, Free, Proc, PReturn, Block, End, Fork, Merge, Nop}
use Rattle.instruction.specs.declared.mirror.MirrorInstruction.{MirrorInstruction}
use Rattle.instruction.specs.declared.mirror.MirrorInstruction.TheVariants as mirrored

abbrev pub mirror_of : Instruction → MirrorInstruction
mirror_of (Ipush z) = mirrored.Nop
mirror_of (Load x) = mirrored.Nop
mirror_of (Store x) = mirrored.Restore x
mirror_of (Jpc a) = mirrored.RLabel
mirror_of (Jmp a) = mirrored.RLabel
mirror_of (Op operator) = mirrored.Nop
mirror_of Label = mirrored.Rjmp
mirror_of ParBegin = mirrored.ParEnd
mirror_of ParEnd = mirrored.ParBegin
mirror_of (Alloc x) = mirrored.Free x
mirror_of (Free x) = mirrored.RAlloc x
mirror_of (Proc p) = mirrored.RReturn p
mirror_of (PReturn p) = mirrored.RProc p
mirror_of (Block b) = mirrored.End b
mirror_of (End b) = mirrored.Block b
mirror_of (Fork a) = mirrored.Merge a
mirror_of (Merge a) = mirrored.RFork a
mirror_of Nop = mirrored.Nop

-- the mirrored script: the mirror of the last instruction is the first
abbrev pub mirrors_of : List Instruction → List MirrorInstruction
mirrors_of s = map mirror_of (reverse s)

-- the code of a mirrored instruction, and its operand
abbrev pub mirror_code_and_operand : MirrorInstruction → ℕ × ℕ
mirror_code_and_operand mirrored.Rjmp = (1, 0)
mirror_code_and_operand (mirrored.Restore x) = (2, x)
mirror_code_and_operand mirrored.RLabel = (3, 0)
mirror_code_and_operand mirrored.ParBegin = (4, 0)
mirror_code_and_operand mirrored.ParEnd = (4, 1)
mirror_code_and_operand (mirrored.RAlloc x) = (5, x)
mirror_code_and_operand (mirrored.Free x) = (6, x)
mirror_code_and_operand (mirrored.RProc p) = (7, p)
mirror_code_and_operand (mirrored.RReturn p) = (8, p)
mirror_code_and_operand (mirrored.Block b) = (9, b)
mirror_code_and_operand (mirrored.End b) = (10, b)
mirror_code_and_operand (mirrored.RFork a) = (11, a)
mirror_code_and_operand (mirrored.Merge a) = (12, a)
mirror_code_and_operand mirrored.Nop = (15, 0)
