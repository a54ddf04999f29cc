-- A table that holds entries, the oldest in place 0.
use Rattle.std.specs.Prelude.{◌≡◌, ℕ, Bool, List, [], ◌∷◌, reverse, length, take, Some, None, Option, nat_le}
use Rattle.journal.specs.declared.entry.Entry.{Entry}
use Rattle.slot_journal.specs.declared.Newest.{Newest}
use Rattle.slot_journal.specs.declared.SlotJournal.{SlotJournal}

-- the entries in the first n places, the newest first
abbrev pub held : ℕ → List Entry → List Entry
held n slots = reverse (take n slots)

-- a list fits where there are places enough
abbrev pub places_enough : List Entry → List Entry → Bool
places_enough slots l = nat_le (length l) (length slots)

-- the newest entry of the first n places, and its place, if there is one
abbrev pub NewestPlace : List Entry → ℕ → Option Newest → Type 0
NewestPlace slots n None = held n slots ≡ []
NewestPlace slots n (Some p) = held n slots ≡ p.entry ∷ held p.place slots

-- the table of a journal
abbrev pub table_of : SlotJournal → List Entry
table_of j = j.slots.now

-- the entries that it shows
abbrev pub list_of : SlotJournal → List Entry
list_of j = held j.len (table_of j)

-- its rule
abbrev pub rule_of : SlotJournal → List Entry → Bool
rule_of j = places_enough (table_of j)
