-- The state of the machine.
use Rattle.std.specs.Prelude.{ℕ, zero, suc, Bool, List, ◌++◌, map, ℤ}
use Rattle.journal.specs.declared.entry.Entry.{Entry}
use Rattle.instruction.specs.declared.instruction.Instruction.{Instruction}
use Rattle.rules.specs.Variables.{Variables}

-- the names of a process, innermost first: its own ones, and inside out those of its parent when it was started, which are not its own to remove
pub record Path : Type 0 where
  pub own : List ℕ
  pub inherited : List ℕ

abbrev pub names : Path → List ℕ
names path = path.own ++ path.inherited

-- a process of a forward run
pub record Running : Type 0 where
  pub path : Path
  -- the newest first
  pub operands : List ℤ
  pub returns : List ℕ
  -- the address that it takes next, and the one that it took last; 0 for none
  pub next : ℕ
  pub last : ℕ
  pub finished : Bool

-- where a process stands that goes back: directly behind the address that it took last (0: before the first), or gone back, all the way to its beginning
pub data Place : Type 0 where
  behind : ℕ → Place
  gone_back : Place

-- a process of a run that goes back
pub record Retreating : Type 0 where
  pub path : Path
  pub place : Place

-- processes by their numbers
abbrev pub Processes : Type 0 → Type 0
Processes P = List (ℕ × P)

pub data Phase : Type 0 where
  at_rest : Phase
  forward : Processes Running → Phase
  going_back : Processes Retreating → Phase

pub record State : Type 0 where
  -- no instruction: no script is loaded
  pub script : List Instruction
  pub variables : Variables
  pub phase : Phase
  -- of the journal that the machine holds, the newest first
  pub entries : List Entry
  -- the journal's capacity rule
  pub fits : List Entry → Bool

-- Turning round: a process leaves behind what only going forward needs. Process 0 has no beginning to be gone back to but the start of the run.
abbrev pub place_after : ℕ → ℕ → Place
place_after zero last = behind last
place_after (suc p) zero = gone_back
place_after (suc p) (suc a) = behind (suc a)

abbrev pub turned : ℕ × Running → ℕ × Retreating
turned p = (p.0, record { path = p.1.path; place = place_after p.0 p.1.last })

abbrev pub turned_round : Processes Running → Processes Retreating
turned_round ps = map turned ps
