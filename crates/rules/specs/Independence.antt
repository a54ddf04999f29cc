-- That two processes that can both go back do not stand in each other's way, as a statement that is not proved yet.
use Rattle.std.specs.Prelude.{◌≡◌, ℕ, ◌≤◌, Bool, ◌≢◌, ◌⊎◌, List, [], ◌∷◌, length, Some, None, Ok, nat_eq}
use Rattle.instruction.specs.declared.instruction.Instruction.{Instruction}
use Rattle.instruction.specs.declared.instruction.Instruction.TheVariants.{Fork}
use Rattle.script.specs.Scripts.{instruction_at}
use Rattle.script.specs.Images.{Accepted}
use Rattle.script.specs.Flow.{branches_of}
use Rattle.rules.specs.Tables.{found}
use Rattle.rules.specs.Variables.{Variable, same_variable}
use Rattle.rules.specs.State.{behind, Retreating, Processes, Phase, at_rest, forward, going_back, State, turned_round}
use Rattle.rules.specs.Branches.{branch}
use Rattle.rules.specs.Calls.{back}

-- the processes, as going back sees them
abbrev pub retreating : Phase → Processes Retreating
retreating at_rest = []
retreating (forward ps) = turned_round ps
retreating (going_back ps) = ps

-- a key stands once
abbrev pub Once : {K V : Type 0} → (K → K → Bool) → List (K × V) → Type 0
Once same [] = Unit {0}
Once same (e ∷ es) = (found same es e.0 ≡ None) × Once same es

-- q took the fork at an address last, which has a branch k
pub record WaitsFor (s : List Instruction) (ps : Processes Retreating) (q k : ℕ) : Type 0 where
  pub process : Retreating
  pub stands : found nat_eq ps q ≡ Some process
  pub address : ℕ
  pub behind_fork : process.place ≡ behind address
  pub name : ℕ
  pub fork : instruction_at s address ≡ Fork name
  pub counted : (1 ≤ k) × (k ≤ length (branches_of s address))

-- each process but 0 is a branch of one that stands behind its fork
abbrev pub EachIsBranch : List Instruction → Processes Retreating → Type 0
EachIsBranch s ps =
    (p : ℕ) (r : Retreating) → found nat_eq ps p ≡ Some r → (p ≡ 0) ⊎ ((q : ℕ) × (k : ℕ) × (p ≡ branch q k) × WaitsFor s ps q k)

pub record WellFormed (s : State) : Type 0 where
  pub script : Accepted s.script
  pub numbers : Once nat_eq (retreating s.phase)
  pub variables : Once same_variable s.variables.declared
  pub branches : EachIsBranch s.script (retreating s.phase)

-- the same but for the order of the tables, as going back sees it
pub record Alike (s t : State) : Type 0 where
  pub script : s.script ≡ t.script
  pub figures : s.variables.figures ≡ t.variables.figures
  pub declared : (v : Variable) → found same_variable s.variables.declared v ≡ found same_variable t.variables.declared v
  pub processes : (p : ℕ) → found nat_eq (retreating s.phase) p ≡ found nat_eq (retreating t.phase) p
  pub entries : s.entries ≡ t.entries
  pub fits : s.fits ≡ t.fits

-- either can still go back after the other, and both orders lead to the same
pub record EitherOrder (p q : ℕ) (after_p after_q : State) : Type 0 where
  pub first : State
  pub p_then_q : back q after_p ≡ Ok first
  pub second : State
  pub q_then_p : back p after_q ≡ Ok second
  pub alike : Alike first second

abbrev pub ProcessesGoBackIndependently : Type 0
ProcessesGoBackIndependently =
    (s : State) → WellFormed s → (p q : ℕ) → p ≢ q → (after_p after_q : State) → back p s ≡ Ok after_p → back q s ≡ Ok after_q → EitherOrder p q after_p after_q

-- and going back leads from a well-formed state to another, so that it holds again
abbrev pub GoingBackStaysWellFormed : Type 0
GoingBackStaysWellFormed = (s : State) → WellFormed s → (p : ℕ) (t : State) → back p s ≡ Ok t → WellFormed t
