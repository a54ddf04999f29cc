-- The calls of a script.
use Rattle.std.specs.Prelude.{ℕ, cond, List, Some, None, Ok, Err, Option, Result, ◌==◌}
use Rattle.arrayvec.specs.ArrayVec.{ArrayVec}
use Rattle.instruction.specs.declared.instruction.Instruction.{Instruction}
use Rattle.script.specs.declared.instructions.Instructions.{Instructions}
use Rattle.script.specs.declared.script.Script.{Script}
use Rattle.script.specs.declared.refusal.ImageRefusal.{ImageRefusal}
use Rattle.script.specs.Regions.{partner}
use Rattle.script.specs.Held.{list_of}

-- the instructions of a script
abbrev pub instructions_of : Script → List Instruction
instructions_of script = list_of script.instructions

-- an address, if it is one: no address is 0
abbrev pub some_address : ℕ → Option ℕ
some_address a = cond (a == 0) None (Some a)

-- the partner of an address, if it has one
abbrev pub partner_of : List Instruction → ℕ → Option ℕ
partner_of s a = some_address (partner s a)

-- what a reader answered, by what an accepted value means
abbrev pub answer_by : {X Y : Type 0} → (X → Y) → Result X ImageRefusal → Result Y ImageRefusal
answer_by meaning (Ok x) = Ok (meaning x)
answer_by meaning (Err refusal) = Err refusal

-- by the codes and operands
abbrev pub gathered : Result (ArrayVec (ℕ × ℕ)) ImageRefusal → Result (List (ℕ × ℕ)) ImageRefusal
gathered answer = answer_by (λ pairs. pairs.items) answer

-- by the instructions
abbrev pub held : Result Instructions ImageRefusal → Result (List Instruction) ImageRefusal
held answer = answer_by list_of answer

abbrev pub answered : Result Script ImageRefusal → Result (List Instruction) ImageRefusal
answered answer = answer_by instructions_of answer
