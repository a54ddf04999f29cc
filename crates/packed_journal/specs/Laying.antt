-- Laying a journal on used bytes.
use Rattle.std.specs.Prelude.{◌≡◌, ℕ, zero, suc, ◌≤◌, cond, List, [], ◌∷◌, length, take, Ok, Err, Result, nat_le}
use Rattle.journal.specs.declared.entry.Entry.{Entry}
use Rattle.journal.specs.declared.refusal.LayRefusal.{LayRefusal}
use Rattle.journal.specs.declared.refusal.LayRefusal.TheVariants.{UsedBeyondEnd}
use Rattle.entry_codec.specs.Reading.{and_then, entry_at}
use Rattle.packed_journal.specs.Packing.{packed, entries_of, shown}

-- the entries from a place on, at most `most` of them, on top of the older ones; or the first refusal
unfoldable pub read_from : ℕ → List ℕ → ℕ → List Entry → Result (List Entry) LayRefusal
read_from zero bs at older = Ok older
read_from (suc most) bs at older = cond (nat_le (length bs) at) (Ok older) (and_then (entry_at bs at) (λ p. read_from most bs p.1 (p.0 ∷ older)))

-- all bytes as entries: each entry takes a byte at least
unfoldable pub read_all : List ℕ → Result (List Entry) LayRefusal
read_all bs = read_from (length bs) bs 0 []

-- the first `used` bytes as entries
abbrev pub laid : List ℕ → ℕ → Result (List Entry) LayRefusal
laid bs used = cond (nat_le used (length bs)) (read_all (take used bs)) (Err (UsedBeyondEnd (length bs)))

-- what is known where bytes were read through
abbrev pub ReadOn : {J : Type 0} → List ℕ → Result J LayRefusal → Type 0
ReadOn held (Ok j) = (read_all held ≡ Ok (entries_of held)) × (held ≡ packed (entries_of held))
ReadOn held (Err refusal) = read_all held ≡ Err refusal

-- a journal on the first `used` bytes would show what they are read as and are the writing of
pub record CanBeLaid (bs : List ℕ) (used : ℕ) : Type 0 where
  pub list : laid bs used ≡ Ok (shown used bs)
  pub writing : take used bs ≡ packed (shown used bs)

-- what asking answers: that, or the refusal that the rules give
abbrev pub Asked : List ℕ → ℕ → Result (Unit {0}) LayRefusal → Type 0
Asked bs used (Ok _) = CanBeLaid bs used
Asked bs used (Err refusal) = laid bs used ≡ Err refusal

-- the bytes that a list was written to are laid as that list, and bytes that are laid as a list are its writing
abbrev pub YieldEachOtherBack : Type 0
YieldEachOtherBack = (bs : List ℕ) (used : ℕ) (es : List Entry) →
    (((used ≤ length bs) × (take used bs ≡ packed es) → laid bs used ≡ Ok es) × (laid bs used ≡ Ok es → (used ≤ length bs) × (take used bs ≡ packed es)))

-- a list has just one writing: bytes that are laid as the same list are the same
abbrev pub OneWriting : Type 0
OneWriting = (bs cs : List ℕ) (used taken : ℕ) (es : List Entry) → laid bs used ≡ Ok es → laid cs taken ≡ Ok es → take used bs ≡ take taken cs
