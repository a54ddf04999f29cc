-- Entries and the differences of their numbers, wrapped to signed 32 bits; the newest entry stands first.
use Rattle.std.specs.Prelude.{◌≡◌, Bool, List, [], ◌∷◌, ℤ, pos, ◌-ℤ◌, FitsSigned}
use Rattle.std.specs.Int.{int_wrap, w32}
use Rattle.std.proofs.lemmas.Int.{SFits-int_wrap}
use Rattle.journal.specs.declared.entry.Entry.{Entry}

-- the entry with another number, wrapped
abbrev pub renumbered : Entry → ℤ → Entry
renumbered e n = record { owner = e.owner; kind = e.kind; number = int_wrap w32 n; owned = e.owned; sized = (SFits-int_wrap w32 n).sfits }

-- the number of the newest entry, or the base where there is none
abbrev pub newest_number : ℤ → List Entry → ℤ
newest_number base [] = base
newest_number base (e ∷ older) = e.number

-- each number less the one before it; the base stands before the oldest
abbrev pub differences : ℤ → List Entry → List Entry
differences base [] = []
differences base (e ∷ older) = renumbered e (e.number -ℤ newest_number base older) ∷ differences base older

-- the entries that have these differences, and whose newest number is the kept one
abbrev pub originals : ℤ → List Entry → List Entry
originals kept [] = []
originals kept (d ∷ older) = renumbered d kept ∷ originals (int_wrap w32 (kept -ℤ d.number)) older

-- the number before the oldest of them
abbrev pub base_of : ℤ → List Entry → ℤ
base_of kept [] = kept
base_of kept (d ∷ older) = base_of (int_wrap w32 (kept -ℤ d.number)) older

-- a list fits where its differences fit below
abbrev pub differences_fit : (List Entry → Bool) → ℤ → List Entry → Bool
differences_fit fits base l = fits (differences base l)

-- differences and original numbers yield each other back
abbrev pub NumbersComeBack : Type 0
NumbersComeBack =
    ((l : List Entry) → originals (newest_number (pos 0) l) (differences (pos 0) l) ≡ l)
    × ((kept : ℤ) (ds : List Entry) → FitsSigned w32 kept → differences (base_of kept ds) (originals kept ds) ≡ ds)
