-- The calls of a packed journal, by its bytes and how many of them are used.
use Rattle.std.specs.Prelude.{◌≡◌, ℕ, ◌≤◌, Bool, List, [], ◌∷◌, length, take, Some, None, Ok, Option}
use Rattle.journal.specs.declared.entry.Entry.{Entry}
use Rattle.packed_journal.specs.declared.PackedJournal.{PackedJournal}
use Rattle.packed_journal.specs.declared.last.Last.{Last}
use Rattle.packed_journal.specs.Laying.{laid}
use Rattle.packed_journal.specs.Packing.{packed, bytes_fit, shown}

-- the bytes of a journal
abbrev pub bytes_of : PackedJournal → List ℕ
bytes_of j = j.bytes.now

-- the entries that it shows
abbrev pub list_of : PackedJournal → List Entry
list_of j = shown j.used (bytes_of j)

-- its rule: a list fits where its bytes do
abbrev pub rule_of : PackedJournal → List Entry → Bool
rule_of j = bytes_fit (length (bytes_of j))

-- the journal laid on the first `used` bytes of bs: it shows what they are read as and are the writing of, and a list fits it where its bytes do
pub record LaidOn (bs : List ℕ) (used : ℕ) (j : PackedJournal) : Type 0 where
  pub list : laid bs used ≡ Ok (list_of j)
  pub writing : take used bs ≡ packed (list_of j)
  pub rule : rule_of j ≡ bytes_fit (length bs)
  pub bytes : bytes_of j ≡ bs

-- the newest entry, and the bytes that are used without it: they are the writing of the older ones
abbrev pub LastOf : List ℕ → ℕ → Option Last → Type 0
LastOf bs used None = shown used bs ≡ []
LastOf bs used (Some last) = (shown used bs ≡ last.entry ∷ shown last.start bs) × (last.start ≤ used) × (take last.start bs ≡ packed (shown last.start bs))
