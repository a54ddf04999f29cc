-- The words for operators.
use Rattle.std.specs.Prelude.{ℕ, List, codes}
use Rattle.instruction.specs.declared.instruction.Operator.{Operator}
use Rattle.instruction.specs.declared.instruction.Operator.TheVariants.{Add, Multiply, Subtract, Greater, Equal}

abbrev pub operator_name : Operator → List ℕ
operator_name Add = codes "add"
operator_name Multiply = codes "multiply"
operator_name Subtract = codes "subtract"
operator_name Greater = codes "greater"
operator_name Equal = codes "equal"
