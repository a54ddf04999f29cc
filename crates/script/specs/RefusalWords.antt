-- The words for a refused image.
use Rattle.std.specs.Prelude.{ℕ, List, ◌++◌, codes, decimal}
use Rattle.script.specs.Refusals.{told}
use Rattle.script.specs.declared.refusal.ImageRefusal.{ImageRefusal}
use Rattle.script.specs.declared.refusal.ImageRefusal.TheVariants.{NoNumber, EndsEarly, GoesOn, WrongCount, WrongInstruction, BrokenFrame, EndWithoutBlock, WrongTarget}

-- what the position counts
abbrev pub unit_name : ImageRefusal → List ℕ
unit_name (NoNumber place) = codes "byte"
unit_name (EndsEarly place) = codes "byte"
unit_name (GoesOn place) = codes "byte"
unit_name WrongCount = codes "address"
unit_name (WrongInstruction address) = codes "address"
unit_name (BrokenFrame address) = codes "address"
unit_name (EndWithoutBlock address) = codes "address"
unit_name (WrongTarget address) = codes "address"

abbrev pub reason_words : ImageRefusal → List ℕ
reason_words (NoNumber place) = codes "no number begins here"
reason_words (EndsEarly place) = codes "the bytes end before the last operand"
reason_words (GoesOn place) = codes "bytes follow the last operand"
reason_words WrongCount = codes "the count of instructions is not 1 to 1024"
reason_words (WrongInstruction address) = codes "no instruction has this code and operand"
reason_words (BrokenFrame address) = codes "a rule of names or frames is broken"
reason_words (EndWithoutBlock address) = codes "no block has the name of this end"
reason_words (WrongTarget address) = codes "this jump goes where it may not"

-- number, position and reason
abbrev pub refusal_text : ImageRefusal → List ℕ
refusal_text r = decimal (told r).0 ++ (codes " at " ++ (unit_name r ++ (codes " " ++ (decimal (told r).1 ++ (codes ": " ++ reason_words r)))))
