-- Kinds and their numbers yield each other back.
use Rattle.std.proofs.Common.{◌≡◌, ℕ, ◌<◌, Some, arith}
use Rattle.journal.specs.declared.kind.Kind.{Kind}
use Rattle.journal.specs.Kinds.{kind_number, kind_of}

pub kind_of_its_number : (k : Kind) → kind_of (kind_number k) ≡ Some k
kind_of_its_number k = grind arith

pub number_of_its_kind : (n : ℕ) (k : Kind) → kind_of n ≡ Some k → kind_number k ≡ n
number_of_its_kind n k e = grind arith

pub kind_number_below : (k : Kind) → kind_number k < 4294967296
kind_number_below k = grind arith
