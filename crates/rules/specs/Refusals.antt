-- What a refused caller is told: the number of the refusal, and its values.
use Rattle.std.specs.Prelude.{ℕ, List, [], ◌∷◌}
use Rattle.script.specs.Refusals as image
use Rattle.rules.specs.declared.refusal.Cause.{Cause}
use Rattle.rules.specs.declared.refusal.Cause.TheVariants.{StackShort, StackFull, OutOfRange, NoVariable, AlreadyDeclared, TooManyVariables, PathFull, WrongNames, TooManyProcesses}
use Rattle.rules.specs.declared.refusal.Refusal.{Refusal}
use Rattle.rules.specs.declared.refusal.Refusal.TheVariants.{Image, TooManyFigures, ScriptLoaded, RunStands, NoRow, NoScript, NoForwardRun, CannotGo, NothingToTakeBack, NobodyCanGo, JournalFull, Halted, BufferTooShort}

abbrev pub cause_number : Cause → ℕ
cause_number StackShort = 1
cause_number StackFull = 2
cause_number OutOfRange = 3
cause_number NoVariable = 4
cause_number AlreadyDeclared = 5
cause_number TooManyVariables = 6
cause_number PathFull = 7
cause_number WrongNames = 8
cause_number TooManyProcesses = 9

abbrev pub told : Refusal → ℕ × List ℕ
told (Image refusal) = ((image.told refusal).0, (image.told refusal).1 ∷ [])
told TooManyFigures = (5, [])
told ScriptLoaded = (6, [])
told RunStands = (6, [])
told NoRow = (7, [])
told NoScript = (8, [])
told NoForwardRun = (8, [])
told CannotGo = (9, [])
told NothingToTakeBack = (10, [])
told NobodyCanGo = (11, [])
told JournalFull = (12, [])
told (Halted halt) = (13, cause_number halt.cause ∷ halt.process ∷ halt.address ∷ [])
told BufferTooShort = (15, [])

abbrev pub number_told : Refusal → ℕ
number_told refusal = (told refusal).0
