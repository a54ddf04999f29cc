-- The lines of a script or of a mirrored script.
use Rattle.std.specs.Prelude.{ℕ, suc, List, [], ◌∷◌}
use Rattle.script_words.specs.declared.line.Line.{Line}

-- what is made of each element and its position; the first has the given one
abbrev pub numbered_from : {X Y : Type 0} → (ℕ → X → Y) → ℕ → List X → List Y
numbered_from line position [] = []
numbered_from line position (x ∷ xs) = line position x ∷ numbered_from line (suc position) xs

abbrev pub lines_of : {I : Type 0} → List I → List (Line I)
lines_of s = numbered_from (λ address i. record { address = address; instruction = i }) 1 s
