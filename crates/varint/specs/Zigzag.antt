-- Signed numbers folded into unsigned ones.
use Rattle.std.specs.Prelude.{ℕ, ◌+◌, ◌*◌, ◌/◌, ◌%◌, cond, ℤ, pos, negsuc, ◌==◌}

-- 2n, or -2n - 1 below 0; `negsuc m` is -m - 1, so that is 2m + 1
abbrev pub folded : ℤ → ℕ
folded (pos n) = 2 * n
folded (negsuc m) = 2 * m + 1

-- the number that folds to z
abbrev pub unfolded : ℕ → ℤ
unfolded z = cond (z % 2 == 0) (pos (z / 2)) (negsuc (z / 2))
