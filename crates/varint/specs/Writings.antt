-- How a number is written: groups of seven bits, the highest first; the first byte is its group, each later byte its group plus 128.
use Rattle.std.specs.Prelude.{ℕ, zero, suc, ◌+◌, ◌/◌, ◌%◌, cond, List, [], ◌∷◌, ◌++◌, nat_lt}

-- the writing of n, with at most `more` groups after the first
unfoldable pub writing_within : ℕ → ℕ → List ℕ
writing_within zero n = n ∷ []
writing_within (suc more) n = cond (nat_lt n 128) (n ∷ []) (writing_within more (n / 128) ++ (128 + n % 128) ∷ [])

-- the writing of n in as few groups as possible (n of them are always enough)
unfoldable pub writing : ℕ → List ℕ
writing n = writing_within n n
