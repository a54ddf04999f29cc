-- How forks and merges start and remove branches, in both directions.
use Rattle.std.specs.Prelude.{ℕ, zero, suc, ◌+◌, ◌*◌, Bool, false, ◌&&◌, List, [], ◌∷◌, length, Some, None, Option, nat_eq, nat_le}
use Rattle.rules.specs.Tables.{found, removed, guard}
use Rattle.rules.specs.State.{Processes}

-- the number of branch k of process p, counted from 1
abbrev pub branch : ℕ → ℕ → ℕ
branch p k = 8 * p + k

-- what becomes of the branches of a process: nothing; one starts for each record; that many go
pub data Branching (P : Type 0) : Type 0 where
  keeps : Branching P
  starts : List P → Branching P
  joins : ℕ → Branching P

-- the processes with branches of p from the k-th on
abbrev pub with_branches : {P : Type 0} → ℕ → ℕ → List P → Processes P → Processes P
with_branches p k [] ps = ps
with_branches p k (b ∷ bs) ps = (branch p k, b) ∷ with_branches p (suc k) bs ps

abbrev pub stands_and : {P : Type 0} → (P → Bool) → Option P → Bool
stands_and test None = false
stands_and test (Some b) = test b

-- the processes without n branches of p from the k-th on, if each of them stands and passes the test
abbrev pub without_branches : {P : Type 0} → (P → Bool) → ℕ → ℕ → ℕ → Processes P → Option (Processes P)
without_branches test p k zero ps = Some ps
without_branches test p k (suc n) ps =
    guard (stands_and test (found nat_eq ps (branch p k))) (without_branches test p (suc k) n (removed nat_eq (branch p k) ps))

-- room for n branches of p: at most 16 processes, and numbers to 32,767
abbrev pub room : {P : Type 0} → ℕ → ℕ → Processes P → Bool
room p n ps = nat_le (length ps + n) 16 && nat_le (branch p n) 32767

abbrev pub branched : {P : Type 0} → (P → Bool) → ℕ → Branching P → Processes P → Option (Processes P)
branched test p keeps ps = Some ps
branched test p (starts bs) ps = guard (room p (length bs) ps) (Some (with_branches p 1 bs ps))
branched test p (joins n) ps = without_branches test p 1 n ps
