-- Why a program has no bytes to read.
use Rattle.program_input.specs.declared.failure.Failure.{Failure}
use Rattle.program_input.specs.declared.failure.Failure.TheVariants.{Usage, Unread, Refused, System, OutOfMemory}

-- its words ask for nothing, or the system gives none; there is nothing yet that could be refused, and no lack of memory is told
abbrev pub NoBytes : {R : Type 0} → Failure R → Type 0
NoBytes (Usage usage) = Unit {0}
NoBytes (Unread name error) = Unit {0}
NoBytes (System error) = Unit {0}
NoBytes (Refused refusal) = ⊥
NoBytes OutOfMemory = ⊥
