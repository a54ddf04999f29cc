-- What writing leaves.
use Rattle.std.specs.Prelude.{◌≡◌, ℕ, ◌+◌, ◌<◌, ◌≤◌, List, ◌++◌, length, take, drop, Ok, Err, Result}
use Rattle.varint.specs.Readings.{number_at}

-- the bytes xs became ys: `ws` stand from `at` to `end`, and every other byte is as it was
pub record Written (xs : List ℕ) (at : ℕ) (ws : List ℕ) (end : ℕ) (ys : List ℕ) : Type 0 where
  pub ends : end ≡ at + length ws
  pub within : end ≤ length xs
  pub bytes : ys ≡ take at xs ++ (ws ++ drop end xs)

-- `ws` are written where they fit, else nothing is
abbrev pub Wrote : {E : Type 0} → List ℕ → ℕ → List ℕ → Result ℕ E → List ℕ → Type 0
Wrote xs at ws (Ok end) ys = Written xs at ws end ys
Wrote xs at ws (Err e) ys = (length xs < at + length ws) × (ys ≡ xs)

-- the bytes up to `end`, read at `at`, give n back
abbrev pub ReadBack : List ℕ → ℕ → ℕ → ℕ → Type 0
ReadBack ys at n end = number_at (take end ys) at ≡ Ok (n, end)
