-- How names come and go; the same conditions hold going forward and going back.
use Rattle.std.specs.Prelude.{ℕ, cond, List, [], ◌∷◌, length, Ok, Err, Result, ◌==◌, nat_lt}
use Rattle.rules.specs.declared.refusal.Cause.{Cause}
use Rattle.rules.specs.declared.refusal.Cause.TheVariants.{PathFull, WrongNames}
use Rattle.rules.specs.State.{Path, names}

-- a path has at most 32 names
abbrev pub with_name : ℕ → Path → Result Path Cause
with_name b path =
    cond (nat_lt (length (names path)) 32) (Ok (record { own = b ∷ path.own; inherited = path.inherited })) (Err PathFull)

-- the innermost name is removed if it is this one, and the process's own
abbrev pub without_innermost : ℕ → List ℕ → List ℕ → Result Path Cause
without_innermost b [] inherited = Err WrongNames
without_innermost b (a ∷ own) inherited = cond (a == b) (Ok (record { own = own; inherited = inherited })) (Err WrongNames)

abbrev pub without_name : ℕ → Path → Result Path Cause
without_name b path = without_innermost b path.own path.inherited
