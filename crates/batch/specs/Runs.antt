-- How far a list of entries goes into a journal.
use Rattle.std.specs.Prelude.{ℕ, ◌+◌, Bool, cond, List, [], ◌∷◌, ◌++◌, reverse, take}

-- how many entries go through, one after another, where the journal holds a list already
abbrev pub longest_run : {E : Type 0} → (List E → Bool) → List E → List E → ℕ
longest_run fits held [] = 0
longest_run fits held (entry ∷ entries) = cond (fits (entry ∷ held)) (1 + longest_run fits (entry ∷ held) entries) 0

-- what a journal holds after them: the newest of those that went through, down to the first, on what was held
abbrev pub recorded : {E : Type 0} → (List E → Bool) → List E → List E → List E
recorded fits held batch = reverse (take (longest_run fits held batch) batch) ++ held
