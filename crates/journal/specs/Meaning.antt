-- What the calls of a journal do to its list, the newest entry first.
use Rattle.std.specs.Prelude.{Bool, cond, List, [], ◌∷◌, Some, None, Ok, Err, Option, Result}
use Rattle.journal.specs.declared.journal.Full.{Full}

-- the list with one entry more, if the longer list fits
abbrev pub pushed : {E : Type 0} → (List E → Bool) → List E → E → List E
pushed fits entries entry = cond (fits (entry ∷ entries)) (entry ∷ entries) entries

-- Ok if the longer list fits, else Full
abbrev pub push_answer : {E : Type 0} → (List E → Bool) → List E → E → Result (Unit {0}) Full
push_answer fits entries entry = cond (fits (entry ∷ entries)) (Ok tt) (Err (record {}))

-- the newest entry, or none
abbrev pub newest_of : {E : Type 0} → List E → Option E
newest_of [] = None
newest_of (entry ∷ older) = Some entry

-- what lies beneath the newest entry
abbrev pub older_of : {E : Type 0} → List E → List E
older_of [] = []
older_of (entry ∷ older) = older
