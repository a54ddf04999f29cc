-- The worked cases of the formats, evaluated by the definitions.
use Rattle.std.specs.Prelude.{◌≡◌, ℕ, List, [], ◌∷◌, pos, negsuc, Some, None, Ok, Err, Option, Result}
use Rattle.std.proofs.Common.{lit<, lit≤}
use Rattle.varint.specs.declared.number.Fault.TheVariants.{Malformed, Ended}
use Rattle.varint.specs.Writings.{writing}
use Rattle.varint.specs.Readings.{number_at}
use Rattle.varint.specs.Zigzag.{folded, unfolded}
use Rattle.journal.specs.declared.entry.Entry.{Entry}
use Rattle.journal.specs.declared.kind.Kind.TheVariants as kind
use Rattle.entry_codec.specs.Reading.{entry_at}
use Rattle.entry_codec.specs.Writing.{entry_bytes}
use Rattle.instruction.specs.declared.instruction.Instruction.{Instruction}
use Rattle.instruction.specs.declared.instruction.Instruction.TheVariants.{Ipush, Load, Store, Op, ParBegin, ParEnd, Alloc, Free, Block, End, Fork, Merge}
use Rattle.instruction.specs.declared.instruction.Operator.TheVariants.{Add}
use Rattle.script.specs.declared.refusal.ImageRefusal.{ImageRefusal}
use Rattle.script.specs.Refusals.{told}
use Rattle.script.specs.Images.{image, read_image}
use Rattle.script.specs.Flow.{branches_of}
use Rattle.mirror.specs.Mirrored.{mirror_image}

-- process 10 stored over 150
abbrev pub stored : Entry
stored = record { owner = 10; kind = kind.Store; number = pos 150; owned = lit≤ tt; sized = lit< tt }

-- adds 1 to row 0, in a block that declares a variable
abbrev pub adder : List Instruction
adder = Block 1 ∷ Alloc 40 ∷ Load 0 ∷ Ipush (pos 1) ∷ Op Add ∷ Store 0 ∷ Free 40 ∷ End 1 ∷ []

abbrev pub adder_image : List ℕ
adder_image = 8 ∷ 13 ∷ 1 ∷ 9 ∷ 40 ∷ 2 ∷ 0 ∷ 1 ∷ 2 ∷ 6 ∷ 0 ∷ 3 ∷ 0 ∷ 10 ∷ 40 ∷ 14 ∷ 1 ∷ []

-- two branches that store into row 0
abbrev pub racers : List Instruction
racers = Fork 1 ∷ ParBegin ∷ Ipush (pos 5) ∷ Store 0 ∷ ParEnd ∷ ParBegin ∷ Ipush (pos 6) ∷ Store 0 ∷ ParEnd ∷ Merge 1 ∷ []

-- what a refused caller is told, if it is refused
abbrev pub told_of : Result (List Instruction) ImageRefusal → Option (ℕ × ℕ)
told_of (Ok s) = None
told_of (Err refusal) = Some (told refusal)

pub record WorkedCases : Type 0 where
  -- numbers and entries
  pub number : writing 300 ≡ 2 ∷ 172 ∷ []
  pub number_read : number_at (2 ∷ 172 ∷ []) 0 ≡ Ok (300, 2)
  pub padded : number_at (0 ∷ 172 ∷ []) 0 ≡ Err (Malformed 0)
  pub missing : number_at [] 0 ≡ Err (Ended 0)
  pub folding : folded (negsuc 0) ≡ 1
  pub unfolding_back : unfolded 1 ≡ negsuc 0
  pub entry : entry_bytes stored ≡ 10 ∷ 4 ∷ 2 ∷ 172 ∷ []
  pub entry_read : entry_at (10 ∷ 4 ∷ 2 ∷ 172 ∷ []) 0 ≡ Ok (stored, 4)
  -- scripts
  pub script_read : read_image adder_image ≡ Ok adder
  pub script_written : image adder ≡ adder_image
  pub script_mirrored : mirror_image adder ≡ 8 ∷ 9 ∷ 1 ∷ 5 ∷ 40 ∷ 2 ∷ 0 ∷ 15 ∷ 0 ∷ 15 ∷ 0 ∷ 15 ∷ 0 ∷ 6 ∷ 40 ∷ 10 ∷ 1 ∷ []
  pub padded_image : told_of (read_image (0 ∷ 172 ∷ [])) ≡ Some (1, 0)
  pub fork_read : read_image (image racers) ≡ Ok racers
  pub fork_branches : branches_of racers 1 ≡ (2, 5) ∷ (6, 9) ∷ []
