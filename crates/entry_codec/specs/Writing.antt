-- How an entry is written.
use Rattle.std.specs.Prelude.{◌≡◌, ℕ, List, ◌++◌, take, Ok}
use Rattle.varint.specs.Writings.{writing}
use Rattle.varint.specs.Zigzag.{folded}
use Rattle.journal.specs.declared.entry.Entry.{Entry}
use Rattle.journal.specs.Kinds.{kind_number}
use Rattle.entry_codec.specs.Reading.{entry_at}

-- the bytes of an entry
unfoldable pub entry_bytes : Entry → List ℕ
entry_bytes e = writing e.owner ++ (writing (kind_number e.kind) ++ writing (folded e.number))

-- the bytes up to `end`, read at `at`, give the entry back
abbrev pub EntryReadBack : List ℕ → ℕ → Entry → ℕ → Type 0
EntryReadBack ys at e end = entry_at (take end ys) at ≡ Ok (e, end)
