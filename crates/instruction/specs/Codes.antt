-- The codes and operands of the instructions, in a script of n instructions.
use Rattle.std.specs.Prelude.{ℕ, Bool, cond, ◌&&◌, Some, None, Option, ◌==◌, nat_le}
use Rattle.varint.specs.Zigzag.{folded, unfolded}
use Rattle.instruction.specs.declared.instruction.Instruction.{Instruction}
use Rattle.instruction.specs.declared.instruction.Instruction.TheVariants.{Ipush, Load, Store, Jpc, Jmp, Op, Label, ParBegin, ParEnd, Alloc, Free, Proc, PReturn, Block, End, Fork, Merge, Nop}
use Rattle.instruction.specs.declared.instruction.Operator.{Operator}
use Rattle.instruction.specs.declared.instruction.Operator.TheVariants.{Add, Multiply, Subtract, Greater, Equal}

-- the number of an operator
abbrev pub operator_number : Operator → ℕ
operator_number Add = 0
operator_number Multiply = 1
operator_number Subtract = 2
operator_number Greater = 3
operator_number Equal = 4

-- the code of an instruction, and its operand
abbrev pub code_and_operand : ℕ → Instruction → ℕ × ℕ
code_and_operand n (Ipush z) = (1, folded z)
code_and_operand n (Load x) = (2, x)
code_and_operand n (Store x) = (3, x)
code_and_operand n (Jpc a) = (4, a)
code_and_operand n (Jmp a) = (5, a)
code_and_operand n (Op operator) = (6, operator_number operator)
code_and_operand n Label = (7, n)
code_and_operand n ParBegin = (8, 0)
code_and_operand n ParEnd = (8, 1)
code_and_operand n (Alloc x) = (9, x)
code_and_operand n (Free x) = (10, x)
code_and_operand n (Proc p) = (11, p)
code_and_operand n (PReturn p) = (12, p)
code_and_operand n (Block b) = (13, b)
code_and_operand n (End b) = (14, b)
code_and_operand n (Fork a) = (15, a)
code_and_operand n (Merge a) = (16, a)
code_and_operand n Nop = (21, 0)

-- an instruction, if its operand may stand there
abbrev pub only : Bool → Instruction → Option Instruction
only allowed i = cond allowed (Some i) None

-- from 0 to 63
abbrev pub is_variable : ℕ → Bool
is_variable x = nat_le x 63

-- from 1 to 255
abbrev pub is_name : ℕ → Bool
is_name b = nat_le 1 b && nat_le b 255

-- from 1 to n
abbrev pub is_target : ℕ → ℕ → Bool
is_target n a = nat_le 1 a && nat_le a n

abbrev pub op_of : ℕ → Option Instruction
op_of k =
    cond (k == 0) (Some (Op Add)) (
    cond (k == 1) (Some (Op Multiply)) (
    cond (k == 2) (Some (Op Subtract)) (
    cond (k == 3) (Some (Op Greater)) (
    cond (k == 4) (Some (Op Equal)) None))))

-- the instruction of a code and an operand
abbrev pub instruction_of : ℕ → ℕ → ℕ → Option Instruction
instruction_of n code x =
    cond (code == 1) (Some (Ipush (unfolded x))) (
    cond (code == 2) (only (is_variable x) (Load x)) (
    cond (code == 3) (only (is_variable x) (Store x)) (
    cond (code == 4) (only (is_target n x) (Jpc x)) (
    cond (code == 5) (only (is_target n x) (Jmp x)) (
    cond (code == 6) (op_of x) (
    cond (code == 7) (only (x == n) Label) (
    cond (code == 8) (cond (x == 0) (Some ParBegin) (only (x == 1) ParEnd)) (
    cond (code == 9) (only (is_variable x) (Alloc x)) (
    cond (code == 10) (only (is_variable x) (Free x)) (
    cond (code == 11) (only (is_name x) (Proc x)) (
    cond (code == 12) (only (is_name x) (PReturn x)) (
    cond (code == 13) (only (is_name x) (Block x)) (
    cond (code == 14) (only (is_name x) (End x)) (
    cond (code == 15) (only (is_name x) (Fork x)) (
    cond (code == 16) (only (is_name x) (Merge x)) (
    only (code == 21 && x == 0) Nop))))))))))))))))
