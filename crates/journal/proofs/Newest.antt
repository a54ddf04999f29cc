-- A list by its newest entry and what lies beneath.
use Rattle.std.proofs.Common.{◌≡◌, ℕ, List, [], ◌∷◌, Some, arith}
use Rattle.journal.specs.Meaning.{newest_of, older_of}

pub newest_and_older : {E : Type 0} (es : List E) (e : E) → Some e ≡ newest_of es → es ≡ e ∷ older_of es
newest_and_older [] e h = let z : ◌≡◌ {A = ℕ} 0 1 = cc in absurd (omega arith)
newest_and_older (x ∷ xs) e h = cc
