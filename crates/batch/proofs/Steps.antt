-- How far a batch has gone into a journal.
use Rattle.std.proofs.Common.{◌≡◌, ℕ, ◌+◌, Bool, List, ◌++◌, reverse, take, drop}
use Rattle.batch.specs.Runs.{longest_run}

-- the entries below a place went through, and the rest of the run is still to come
pub record Ran {E : Type 0} (fits : List E → Bool) (start batch held : List E) (place : ℕ) : Type 0 where
  pub count : longest_run fits start batch ≡ place + longest_run fits held (drop place batch)
  pub list : held ≡ reverse (take place batch) ++ start
