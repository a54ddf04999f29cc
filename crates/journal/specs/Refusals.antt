-- What a refused caller is told: the refusal's number, and a place.
use Rattle.std.specs.Prelude.{ℕ}
use Rattle.varint.specs.declared.number.Fault.{Fault}
use Rattle.varint.specs.declared.number.Fault.TheVariants.{Malformed, Ended}
use Rattle.journal.specs.declared.refusal.LayRefusal.{LayRefusal}
use Rattle.journal.specs.declared.refusal.LayRefusal.TheVariants.{WrongNumber, MissingNumber, UsedBeyondEnd, EntryBeneath}

abbrev pub told : LayRefusal → ℕ × ℕ
told (WrongNumber place) = (14, place)
told (MissingNumber place) = (14, place)
told (UsedBeyondEnd place) = (14, place)
told EntryBeneath = (14, 0)

-- what a fault of a number in a journal's bytes is
abbrev pub raised : Fault → LayRefusal
raised (Malformed place) = WrongNumber place
raised (Ended place) = MissingNumber place
