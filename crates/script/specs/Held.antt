-- What the tables of the code hold.
use Rattle.std.specs.Prelude.{◌≡◌, ℕ, suc, ◌<◌, List, length, take, slice_index}
use Rattle.instruction.specs.declared.instruction.Instruction.{Instruction}
use Rattle.script.specs.declared.instructions.Instructions.{Instructions}
use Rattle.script.specs.Regions.{region, partner}

-- the instructions that are in use
abbrev pub list_of : Instructions → List Instruction
list_of held = take held.count held.items

-- a table that has what f says of each of n addresses, from address 1 on
abbrev pub Has : (ℕ → ℕ) → ℕ → List ℕ → Type 0
Has f n table = (k : ℕ) → k < n → slice_index table k ≡ f (suc k)

abbrev pub HasPartners : List Instruction → List ℕ → Type 0
HasPartners s table = Has (partner s) (length s) table

abbrev pub HasRegions : List Instruction → List ℕ → Type 0
HasRegions s table = Has (region s) (length s) table
