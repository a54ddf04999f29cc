-- What stands behind the name of an instruction.
use Rattle.std.specs.Prelude.{ℕ, List, [], ◌++◌, codes}
use Rattle.std.specs.Fmt.{signed_decimal}
use Rattle.instruction.specs.OperatorWords.{operator_name}
use Rattle.script_words.specs.declared.operand.Operand.{Operand}
use Rattle.script_words.specs.declared.operand.Operand.TheVariants.{Absent, Number, Operation}

abbrev pub operand_text : Operand → List ℕ
operand_text Absent = []
operand_text (Number n) = codes " " ++ signed_decimal n
operand_text (Operation operator) = codes " " ++ operator_name operator
