-- A list of entries as bytes, and the list that used bytes hold.
use Rattle.std.specs.Prelude.{ℕ, zero, suc, Bool, cond, List, [], ◌∷◌, reverse, length, take, Some, None, Ok, Err, Option, Result, nat_le, nat_lt, slice_index}
use Rattle.std.specs.List.{flat_map}
use Rattle.journal.specs.declared.entry.Entry.{Entry}
use Rattle.journal.specs.declared.refusal.LayRefusal.{LayRefusal}
use Rattle.entry_codec.specs.Reading.{entry_at}
use Rattle.entry_codec.specs.Writing.{entry_bytes}
use Rattle.packed_journal.specs.declared.last.Last.{Last}

-- the bytes of a list: its newest entry stands first in the list and last in the bytes
unfoldable pub packed : List Entry → List ℕ
packed es = flat_map entry_bytes (reverse es)

-- a list fits into so many bytes where its own are no more
abbrev pub bytes_fit : ℕ → List Entry → Bool
bytes_fit size es = nat_le (length (packed es)) size

-- the last place below `end` where a number begins
unfoldable pub last_start : List ℕ → ℕ → Option ℕ
last_start bs zero = None
last_start bs (suc n) = cond (nat_lt (slice_index bs n) 128) (Some n) (last_start bs n)

-- go on with what was found
abbrev pub if_found : {X Y : Type 0} → Option X → (X → Option Y) → Option Y
if_found None next = None
if_found (Some x) next = next x

-- the entry that was read from its start on, if one was
abbrev pub last_from : ℕ → Result (Entry × ℕ) LayRefusal → Option Last
last_from start (Ok p) = Some (record { entry = p.0; start = start })
last_from start (Err refusal) = None

-- the entry whose three numbers are the last ones
unfoldable pub last_entry : List ℕ → Option Last
last_entry bs =
    if_found (last_start bs (length bs)) (λ number.
    if_found (last_start bs number) (λ kind.
    if_found (last_start bs kind) (λ start.
    last_from start (entry_at bs start))))

-- the last entry, and the older ones from its start down
abbrev pub entries_before : (ℕ → List Entry) → Option Last → List Entry
entries_before older None = []
entries_before older (Some last) = last.entry ∷ older last.start

-- the entries that are found so, at most `most` of them
unfoldable pub entries_within : ℕ → List ℕ → List Entry
entries_within zero bs = []
entries_within (suc most) bs = entries_before (λ start. entries_within most (take start bs)) (last_entry bs)

-- all entries that are found from the end of bytes down, the newest first
unfoldable pub entries_of : List ℕ → List Entry
entries_of bs = entries_within (length bs) bs

-- what a journal with so many used bytes of bs shows
abbrev pub shown : ℕ → List ℕ → List Entry
shown used bs = entries_of (take used bs)
