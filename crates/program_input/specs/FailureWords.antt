-- What is told of a failure.
use Rattle.std.specs.Prelude.{ℕ, List, codes, Some, None, Option}
use Rattle.program_input.specs.declared.failure.Failure.{Failure}
use Rattle.program_input.specs.declared.failure.Failure.TheVariants.{Usage, Unread, Refused, System, OutOfMemory}

-- the words of the usage or of the refusal, or that memory is out; nothing is said here of what the system tells
abbrev pub failure_text : {R : Type 0} → (R → Option (List ℕ)) → Failure R → Option (List ℕ)
failure_text words (Usage usage) = Some usage.now
failure_text words (Unread name error) = None
failure_text words (Refused refusal) = words refusal
failure_text words (System error) = None
failure_text words OutOfMemory = Some (codes "out of memory")
