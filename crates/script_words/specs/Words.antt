-- The words for instructions and mirrored instructions.
use Rattle.std.specs.Prelude.{ℕ, List, ◌++◌, pos, codes, decimal}
use Rattle.instruction.specs.declared.instruction.Instruction.{Instruction}
use Rattle.instruction.specs.declared.instruction.Instruction.TheVariants.{Ipush, Load, Store, Jpc, Jmp, Op, Label, ParBegin, ParEnd, Alloc, Free, Proc, PReturn, Block, End, Fork, Merge, Nop}
use Rattle.instruction.specs.declared.mirror.MirrorInstruction.{MirrorInstruction}
use Rattle.instruction.specs.declared.mirror.MirrorInstruction.TheVariants as mirrored
use Rattle.script_words.specs.declared.operand.Operand.{Operand}
use Rattle.script_words.specs.declared.operand.Operand.TheVariants.{Absent, Number, Operation}
use Rattle.script_words.specs.Operands.{operand_text}

abbrev pub instruction_name : Instruction → List ℕ
instruction_name (Ipush z) = codes "ipush"
instruction_name (Load x) = codes "load"
instruction_name (Store x) = codes "store"
instruction_name (Jpc a) = codes "jpc"
instruction_name (Jmp a) = codes "jmp"
instruction_name (Op operator) = codes "op"
instruction_name Label = codes "label"
instruction_name ParBegin = codes "par"
instruction_name ParEnd = codes "par"
instruction_name (Alloc x) = codes "alloc"
instruction_name (Free x) = codes "free"
instruction_name (Proc p) = codes "proc"
instruction_name (PReturn p) = codes "p_return"
instruction_name (Block b) = codes "block"
instruction_name (End b) = codes "end"
instruction_name (Fork a) = codes "fork"
instruction_name (Merge a) = codes "merge"
instruction_name Nop = codes "nop"

abbrev pub operand_of : Instruction → Operand
operand_of (Ipush z) = Number z
operand_of (Load x) = Number (pos x)
operand_of (Store x) = Number (pos x)
operand_of (Jpc a) = Number (pos a)
operand_of (Jmp a) = Number (pos a)
operand_of (Op operator) = Operation operator
operand_of Label = Absent
operand_of ParBegin = Number (pos 0)
operand_of ParEnd = Number (pos 1)
operand_of (Alloc x) = Number (pos x)
operand_of (Free x) = Number (pos x)
operand_of (Proc p) = Number (pos p)
operand_of (PReturn p) = Number (pos p)
operand_of (Block b) = Number (pos b)
operand_of (End b) = Number (pos b)
operand_of (Fork a) = Number (pos a)
operand_of (Merge a) = Number (pos a)
operand_of Nop = Absent

abbrev pub mirror_name : MirrorInstruction → List ℕ
mirror_name mirrored.Rjmp = codes "rjmp"
mirror_name (mirrored.Restore x) = codes "restore"
mirror_name mirrored.RLabel = codes "r_label"
mirror_name mirrored.ParBegin = codes "par"
mirror_name mirrored.ParEnd = codes "par"
mirror_name (mirrored.RAlloc x) = codes "r_alloc"
mirror_name (mirrored.Free x) = codes "free"
mirror_name (mirrored.RProc p) = codes "r_proc"
mirror_name (mirrored.RReturn p) = codes "r_return"
mirror_name (mirrored.Block b) = codes "block"
mirror_name (mirrored.End b) = codes "end"
mirror_name (mirrored.RFork a) = codes "r_fork"
mirror_name (mirrored.Merge a) = codes "merge"
mirror_name mirrored.Nop = codes "nop"

abbrev pub mirror_operand_of : MirrorInstruction → Operand
mirror_operand_of mirrored.Rjmp = Absent
mirror_operand_of (mirrored.Restore x) = Number (pos x)
mirror_operand_of mirrored.RLabel = Absent
mirror_operand_of mirrored.ParBegin = Number (pos 0)
mirror_operand_of mirrored.ParEnd = Number (pos 1)
mirror_operand_of (mirrored.RAlloc x) = Number (pos x)
mirror_operand_of (mirrored.Free x) = Number (pos x)
mirror_operand_of (mirrored.RProc p) = Number (pos p)
mirror_operand_of (mirrored.RReturn p) = Number (pos p)
mirror_operand_of (mirrored.Block b) = Number (pos b)
mirror_operand_of (mirrored.End b) = Number (pos b)
mirror_operand_of (mirrored.RFork a) = Number (pos a)
mirror_operand_of (mirrored.Merge a) = Number (pos a)
mirror_operand_of mirrored.Nop = Absent

-- position, name and operand
abbrev pub line_text : ℕ → List ℕ → Operand → List ℕ
line_text position name operand = decimal position ++ (codes "  " ++ (name ++ operand_text operand))
