-- The words for a refusal to lay a journal.
use Rattle.std.specs.Prelude.{ℕ, List, [], ◌++◌, codes, decimal}
use Rattle.journal.specs.Refusals.{told}
use Rattle.journal.specs.declared.refusal.LayRefusal.{LayRefusal}
use Rattle.journal.specs.declared.refusal.LayRefusal.TheVariants.{WrongNumber, MissingNumber, UsedBeyondEnd, EntryBeneath}

-- what the place counts
abbrev pub unit_name : LayRefusal → List ℕ
unit_name (WrongNumber place) = codes "byte "
unit_name (MissingNumber place) = codes "byte "
unit_name (UsedBeyondEnd place) = codes "byte "
unit_name EntryBeneath = []

abbrev pub reason_words : LayRefusal → List ℕ
reason_words (WrongNumber place) = codes "no valid part of an entry begins here"
reason_words (MissingNumber place) = codes "the used bytes end within an entry"
reason_words (UsedBeyondEnd place) = codes "more bytes are said to be used than there are"
reason_words EntryBeneath = codes "there is an entry beneath"

-- number, place and reason
abbrev pub refusal_text : LayRefusal → List ℕ
refusal_text r = decimal (told r).0 ++ (codes " at " ++ (unit_name r ++ (decimal (told r).1 ++ (codes ": " ++ reason_words r))))
