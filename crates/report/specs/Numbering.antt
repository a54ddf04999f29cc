-- The lines for entries, the newest first.
use Rattle.std.specs.Prelude.{List, [], ◌∷◌, length}
use Rattle.journal.specs.declared.entry.Entry.{Entry}
use Rattle.report.specs.declared.line.Line.{Line}

-- the oldest has position 1, and the newest the number of entries
abbrev pub lines_of : List Entry → List Line
lines_of [] = []
lines_of (e ∷ es) = record { position = length (e ∷ es); entry = e } ∷ lines_of es
