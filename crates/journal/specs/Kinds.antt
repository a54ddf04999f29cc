-- The numbers of the kinds.
use Rattle.std.specs.Prelude.{◌≡◌, ℕ, cond, Some, None, Option, Result, MatchResult, ◌==◌}
use Rattle.journal.specs.declared.kind.Kind.{Kind}
use Rattle.journal.specs.declared.kind.UnknownKind.{UnknownKind}
use Rattle.journal.specs.declared.kind.Kind.TheVariants.{Run, Done, Enter, Store, Jump, Alloc, Free, Fork, Merge}

-- the number of a kind
abbrev pub kind_number : Kind → ℕ
kind_number Run = 1
kind_number Done = 2
kind_number Enter = 3
kind_number Store = 4
kind_number Jump = 5
kind_number Alloc = 6
kind_number Free = 7
kind_number Fork = 8
kind_number Merge = 9

-- the kind that has a number
abbrev pub kind_of : ℕ → Option Kind
kind_of n =
    cond (n == 1) (Some Run) (
    cond (n == 2) (Some Done) (
    cond (n == 3) (Some Enter) (
    cond (n == 4) (Some Store) (
    cond (n == 5) (Some Jump) (
    cond (n == 6) (Some Alloc) (
    cond (n == 7) (Some Free) (
    cond (n == 8) (Some Fork) (
    cond (n == 9) (Some Merge) None))))))))

-- what the number n is answered with: its kind, whose number it is, or that no kind has it
abbrev pub KindOrUnknown : ℕ → Result Kind UnknownKind → Type 0
KindOrUnknown n r = MatchResult r (λ kind. (kind_of n ≡ Some kind) × (kind_number kind ≡ n)) (λ unknown. (kind_of n ≡ None) × (unknown.0 ≡ n))
