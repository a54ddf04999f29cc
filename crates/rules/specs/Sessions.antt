-- Sessions: lists of calls, the newest first, and what is seen of them.
use Rattle.std.specs.Prelude.{ℕ, suc, Bool, true, false, cond, not, ◌&&◌, List, [], ◌∷◌, length, ℤ, is_some, is_ok, Option, Result, ◌==◌, nat_eq}
use Rattle.std.specs.Result.{result_unwrap_or, result_map_both}
use Rattle.journal.specs.declared.entry.Entry.{Entry}
use Rattle.rules.specs.declared.call.Call.{Call}
use Rattle.rules.specs.declared.call.Call.TheVariants.{Enter, Start, Step, Back}
use Rattle.rules.specs.declared.refusal.Refusal.{Refusal}
use Rattle.rules.specs.Tables.{found}
use Rattle.rules.specs.Variables.{Variable, same_variable}
use Rattle.rules.specs.State.{Phase, at_rest, forward, going_back, State}
use Rattle.rules.specs.Calls.{perform}

-- What is seen of a state: the entries, the figures, the declared variables and the numbers of the processes, these two without order.
pub record View : Type 0 where
  pub entries : List Entry
  pub figures : List ℤ
  pub declared : Variable → Option ℤ
  pub processes : ℕ → Bool

abbrev pub stands_in : Phase → ℕ → Bool
stands_in at_rest p = false
stands_in (forward ps) p = is_some (found nat_eq ps p)
stands_in (going_back ps) p = is_some (found nat_eq ps p)

abbrev pub view : State → View
view s = record { entries = s.entries; figures = s.variables.figures; declared = found same_variable s.variables.declared; processes = stands_in s.phase }

-- a call's answer, and the state that it leaves: a refused one leaves it as it was
abbrev pub answer : Call → State → Result (Unit {0}) Refusal
answer call s = result_map_both (λ _. tt) (λ refusal. refusal) (perform call s)

abbrev pub next : Call → State → State
next call s = result_unwrap_or (perform call s) s

-- the state after calls
abbrev pub after : State → List Call → State
after s [] = s
after s (call ∷ earlier) = next call (after s earlier)

-- what each call is answered, and what is seen after it
abbrev pub history : State → List Call → List (Result (Unit {0}) Refusal × View)
history s [] = []
history s (call ∷ earlier) = (answer call (after s earlier), view (after s (call ∷ earlier))) ∷ history s earlier

abbrev pub is_back : Call → Bool
is_back (Enter row z) = false
is_back Start = false
is_back (Step p) = false
is_back (Back p) = true

-- how many calls of a kind were accepted
abbrev pub accepted : (Call → Bool) → State → List Call → ℕ
accepted of_kind s [] = 0
accepted of_kind s (call ∷ earlier) =
    cond (of_kind call && is_ok (perform call (after s earlier))) (suc (accepted of_kind s earlier)) (accepted of_kind s earlier)

abbrev pub backs : State → List Call → ℕ
backs s calls = accepted is_back s calls

-- enters, starts and steps
abbrev pub advances : State → List Call → ℕ
advances s calls = accepted (λ call. not (is_back call)) s calls

abbrev pub size : State → ℕ
size s = length s.entries

-- whether a call makes the journal grow to n entries: it finds n - 1 and leaves n
abbrev pub grows_to : ℕ → Call → State → Bool
grows_to n call s = suc (size s) == n && size (next call s) == n

-- what was seen when the journal last grew to n entries; before it ever did, what was seen at first
abbrev pub seen_at_growth : State → List Call → ℕ → View
seen_at_growth s [] n = view s
seen_at_growth s (call ∷ earlier) n =
    cond (grows_to n call (after s earlier)) (view (next call (after s earlier))) (seen_at_growth s earlier n)
