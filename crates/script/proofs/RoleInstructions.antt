-- The instruction that has a role, for the roles that only one has.
use Rattle.std.proofs.Common.{◌≡◌, ℕ, List, ap, ◌∙◌, arith}
use Rattle.instruction.specs.declared.instruction.Instruction.{Instruction}
use Rattle.instruction.specs.declared.instruction.Instruction.TheVariants.{Jpc, Jmp, Label, ParBegin, ParEnd, Proc, PReturn, Block, End, Fork, Merge}
use Rattle.script.specs.declared.role.FrameKind.{FrameKind}
use Rattle.script.specs.declared.role.FrameKind.TheVariants.{Procedure, Branch, Forked}
use Rattle.script.specs.declared.role.Role.{Role}
use Rattle.script.specs.declared.role.Role.TheVariants.{Plain, JumpsIf, Jumps, Arrives, BeginsBlock, EndsBlock, Opens, Closes}
use Rattle.script.specs.Scripts.{instruction_at}
use Rattle.script.specs.Roles.{role_of}
use Rattle.script.specs.Frames.{role_at}

abbrev pub opener : FrameKind → Instruction
opener (Procedure p) = Proc p
opener Branch = ParBegin
opener (Forked n) = Fork n

abbrev pub closer : FrameKind → Instruction
closer (Procedure p) = PReturn p
closer Branch = ParEnd
closer (Forked n) = Merge n

-- a plain role has several, so the instruction itself stands for it
abbrev pub instruction_for : Instruction → Role → Instruction
instruction_for i Plain = i
instruction_for i (JumpsIf a) = Jpc a
instruction_for i (Jumps a) = Jmp a
instruction_for i Arrives = Label
instruction_for i (BeginsBlock b) = Block b
instruction_for i (EndsBlock b) = End b
instruction_for i (Opens kind) = opener kind
instruction_for i (Closes kind) = closer kind

has_the_role : (i : Instruction) → i ≡ instruction_for i (role_of i)
has_the_role i = grind arith

pub instruction_by_role : (s : List Instruction) (a : ℕ) (r : Role) → role_at s a ≡ r → instruction_at s a ≡ instruction_for (instruction_at s a) r
instruction_by_role s a r e = has_the_role (instruction_at s a) ∙ ap (instruction_for (instruction_at s a)) e
