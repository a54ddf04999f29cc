-- What is told of a refused image: the refusal's number, and a place or an address.
use Rattle.std.specs.Prelude.{ℕ}
use Rattle.varint.specs.declared.number.Fault.{Fault}
use Rattle.varint.specs.declared.number.Fault.TheVariants.{Malformed, Ended}
use Rattle.script.specs.declared.refusal.ImageRefusal.{ImageRefusal}
use Rattle.script.specs.declared.refusal.ImageRefusal.TheVariants.{NoNumber, EndsEarly, GoesOn, WrongCount, WrongInstruction, BrokenFrame, EndWithoutBlock, WrongTarget}

abbrev pub told : ImageRefusal → ℕ × ℕ
told (NoNumber place) = (1, place)
told (EndsEarly place) = (2, place)
told (GoesOn place) = (2, place)
told WrongCount = (3, 0)
told (WrongInstruction address) = (3, address)
told (BrokenFrame address) = (4, address)
told (EndWithoutBlock address) = (4, address)
told (WrongTarget address) = (4, address)

-- what a fault of a number in an image is
abbrev pub raised : Fault → ImageRefusal
raised (Malformed place) = NoNumber place
raised (Ended place) = EndsEarly place
