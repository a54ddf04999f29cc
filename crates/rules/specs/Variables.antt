-- Variables: the figures of the workbook, and what scripts declare. Each stands at a path, which is a list of names, the innermost first.
use Rattle.std.specs.Prelude.{ℕ, Bool, true, false, cond, ◌&&◌, List, [], ◌∷◌, length, ℤ, pos, is_some, Some, None, Ok, Err, Option, Result, ◌==◌, nat_lt, slice_index_or, slice_set}
use Rattle.std.specs.Option.{ok_or}
use Rattle.rules.specs.declared.refusal.Cause.{Cause}
use Rattle.rules.specs.declared.refusal.Cause.TheVariants.{NoVariable, AlreadyDeclared, TooManyVariables}
use Rattle.rules.specs.Tables.{found, changed, removed}

-- a number x and the path that it is declared at
abbrev pub Variable : Type 0
Variable = ℕ × List ℕ

abbrev pub same_names : List ℕ → List ℕ → Bool
same_names [] [] = true
same_names [] (b ∷ bs) = false
same_names (a ∷ ns) [] = false
same_names (a ∷ ns) (b ∷ bs) = a == b && same_names ns bs

abbrev pub same_variable : Variable → Variable → Bool
same_variable v w = v.0 == w.0 && same_names v.1 w.1

pub record Variables : Type 0 where
  -- by row
  pub figures : List ℤ
  -- what scripts have declared, and its value
  pub declared : List (Variable × ℤ)

abbrev pub is_empty : {X : Type 0} → List X → Bool
is_empty [] = true
is_empty (x ∷ xs) = false

-- figures are the variables of the empty path that have the number of a row
abbrev pub is_figure : ℕ → Variable → Bool
is_figure rows v = is_empty v.1 && nat_lt v.0 rows

-- the value of x at exactly this path
abbrev pub value_at : Variables → Variable → Option ℤ
value_at vs v = cond (is_figure (length vs.figures) v) (Some (slice_index_or vs.figures v.0 (pos 0))) (found same_variable vs.declared v)

-- What the rules look at: the value of x at exactly a path, how many figures there are, and how many variables are declared besides.
pub record Seen : Type 0 where
  pub value : Variable → Option ℤ
  pub rows : ℕ
  pub declared : ℕ

abbrev pub seen : Variables → Seen
seen vs = record { value = value_at vs; rows = length vs.figures; declared = length vs.declared }

abbrev pub valued : Variable → Option ℤ → Option (Variable × ℤ) → Option (Variable × ℤ)
valued v None farther = farther
valued v (Some z) farther = Some (v, z)

-- where a process of this path finds x: at the longest beginning of the path that declares it; and its value
abbrev pub visible : Seen → ℕ → List ℕ → Option (Variable × ℤ)
visible s x [] = valued (x, []) (s.value (x, [])) None
visible s x (b ∷ bs) = valued (x, b ∷ bs) (s.value (x, b ∷ bs)) (visible s x bs)

-- x may be declared where it is not yet, and no more than 63 are besides
abbrev pub may_declare : Seen → Variable → Result (Unit {0}) Cause
may_declare s v = cond (is_some (s.value v)) (Err AlreadyDeclared) (cond (nat_lt s.declared 64) (Ok tt) (Err TooManyVariables))

-- x may be removed where it is declared and no figure; its value
abbrev pub may_remove : Seen → Variable → Result ℤ Cause
may_remove s v = cond (is_figure s.rows v) (Err NoVariable) (ok_or (s.value v) NoVariable)

-- What the rules do to them.
pub data Change : Type 0 where
  leaves : Change
  sets : Variable → ℤ → Change
  declares : Variable → ℤ → Change
  removes : Variable → Change

abbrev pub changed_by : Change → Variables → Variables
changed_by leaves vs = vs
changed_by (sets v z) vs =
    cond (is_figure (length vs.figures) v)
    (record { figures = slice_set vs.figures v.0 z; declared = vs.declared })
    (record { figures = vs.figures; declared = changed same_variable v z vs.declared })
changed_by (declares v z) vs = record { figures = vs.figures; declared = (v, z) ∷ vs.declared }
changed_by (removes v) vs = record { figures = vs.figures; declared = removed same_variable v vs.declared }
