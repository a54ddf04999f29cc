-- What acceptance of a script gives: where control can come to, and how forks, branches and merges belong together.
use Rattle.std.specs.Prelude.{◌≡◌, ℕ, zero, suc, ◌<◌, ◌≤◌, Bool, true, cond, not, ◌||◌, ◌⊎◌, List, [], ◌∷◌, length, Some, slice_index_or}
use Rattle.instruction.specs.declared.instruction.Instruction.{Instruction}
use Rattle.instruction.specs.declared.instruction.Instruction.TheVariants.{Jpc, Jmp, Label, ParBegin, ParEnd, Proc, PReturn, Block, End, Fork, Merge}
use Rattle.script.specs.declared.role.Role.{Role}
use Rattle.script.specs.Scripts.{instruction_at}
use Rattle.script.specs.Roles.{given_name, leaves, before_branch, begins_branch, after_branch, opens_procedure}
use Rattle.script.specs.Frames.{role_at}
use Rattle.script.specs.Regions.{region, partner}
use Rattle.script.specs.Images.{Accepted}

-- whether control can go on from an instruction to the next one: not from jmp, p_return, fork and par end
abbrev pub falls : Role → Bool
falls role = not (leaves role || before_branch role)

-- whether control can come to an instruction from the one before it: not to proc, par begin and merge
abbrev pub fallen_into : Role → Bool
fallen_into role = not (opens_procedure role || after_branch role)

-- at t there is a label of the region of the instruction at a
pub record LabelFor (s : List Instruction) (a t : ℕ) : Type 0 where
  pub within : (1 ≤ t) × (t ≤ length s)
  pub label : instruction_at s t ≡ Label
  pub same_region : region s t ≡ region s a

-- at t there is a proc, and directly behind a there is a label of its region, where the procedure returns to
pub record CallFrom (s : List Instruction) (a t : ℕ) : Type 0 where
  pub within : (1 ≤ t) × (t ≤ length s)
  pub name : ℕ
  pub proc : instruction_at s t ≡ Proc name
  pub returns : LabelFor s a (suc a)

-- the branches from an address on, each with the addresses of its par begin and its par end: the next one begins directly behind it
unfoldable pub branches_from : List Instruction → ℕ → ℕ → List (ℕ × ℕ)
branches_from s zero a = []
branches_from s (suc most) a = cond (begins_branch (role_at s a)) ((a, partner s a) ∷ branches_from s most (suc (partner s a))) []

-- the branches of the fork at an address
abbrev pub branches_of : List Instruction → ℕ → List (ℕ × ℕ)
branches_of s f = branches_from s (length s) (suc f)

-- the address directly behind branches that begin at an address
abbrev pub behind : ℕ → List (ℕ × ℕ) → ℕ
behind a [] = a
behind a (b ∷ bs) = behind (suc b.1) bs

-- a branch of the fork at f, from its par begin to its par end
pub record BranchOf (s : List Instruction) (f begin end : ℕ) : Type 0 where
  pub order : (f < begin) × (begin < end) × (end < partner s f)
  pub begins : instruction_at s begin ≡ ParBegin
  pub ends : instruction_at s end ≡ ParEnd
  pub partners : (partner s begin ≡ end) × (partner s end ≡ begin)
  pub own_region : (region s begin ≡ begin) × (region s end ≡ begin)
  pub only_end : (a : ℕ) → instruction_at s a ≡ ParEnd → region s a ≡ begin → a ≡ end

-- a fork of the name n at f, and its merge
pub record ForkAt (s : List Instruction) (f n : ℕ) : Type 0 where
  pub order : (1 ≤ f) × (f < partner s f) × (partner s f ≤ length s)
  pub merge : instruction_at s (partner s f) ≡ Merge n
  pub back : partner s (partner s f) ≡ f
  pub same_region : region s (partner s f) ≡ region s f
  pub count : (2 ≤ length (branches_of s f)) × (length (branches_of s f) ≤ 7)
  pub directly : behind (suc f) (branches_of s f) ≡ partner s f
  pub each : (k : ℕ) → k < length (branches_of s f) → BranchOf s f (slice_index_or (branches_of s f) k (0, 0)).0 (slice_index_or (branches_of s f) k (0, 0)).1

-- what begins at a is a region of its own, and ends at the closer that belongs to it
pub record StretchAt (s : List Instruction) (a : ℕ) (closer : Instruction) : Type 0 where
  pub own_region : region s a ≡ a
  pub closes : instruction_at s (partner s a) ≡ closer
  pub back : partner s (partner s a) ≡ a

pub record Flow (s : List Instruction) : Type 0 where
  -- where a run begins
  pub first : fallen_into (role_at s 1) ≡ true
  pub whole : region s 1 ≡ 0
  -- going on to the next address, which may be the one behind the last
  pub on : (a : ℕ) → 1 ≤ a → a ≤ length s → falls (role_at s a) ≡ true → (fallen_into (role_at s (suc a)) ≡ true) × (region s (suc a) ≡ region s a)
  pub jpc : (a t : ℕ) → instruction_at s a ≡ Jpc t → LabelFor s a t
  pub jmp : (a t : ℕ) → instruction_at s a ≡ Jmp t → LabelFor s a t ⊎ CallFrom s a t
  pub fork : (a n : ℕ) → instruction_at s a ≡ Fork n → ForkAt s a n
  pub merge : (a n : ℕ) → instruction_at s a ≡ Merge n → (instruction_at s (partner s a) ≡ Fork n) × (partner s (partner s a) ≡ a)
  -- a name is given once, and an end has its block
  pub names : (a b n : ℕ) → given_name (role_at s a) ≡ Some n → given_name (role_at s b) ≡ Some n → a ≡ b
  pub end : (a n : ℕ) → instruction_at s a ≡ End n → (b : ℕ) × (instruction_at s b ≡ Block n)
  -- a procedure and a branch are regions of their own, up to their end
  pub proc : (a p : ℕ) → instruction_at s a ≡ Proc p → StretchAt s a (PReturn p)
  pub branch : (a : ℕ) → instruction_at s a ≡ ParBegin → StretchAt s a ParEnd
  pub proc_end : (a p : ℕ) → instruction_at s a ≡ PReturn p → instruction_at s (region s a) ≡ Proc p
  pub branch_end : (a : ℕ) → instruction_at s a ≡ ParEnd → instruction_at s (region s a) ≡ ParBegin

-- every accepted script has it
abbrev pub AcceptedScriptsFlow : Type 0
AcceptedScriptsFlow = (s : List Instruction) → Accepted s → Flow s
