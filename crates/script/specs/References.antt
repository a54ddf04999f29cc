-- The rules of ends and jumps, which refer to another instruction.
use Rattle.std.specs.Prelude.{ℕ, zero, suc, ◌+◌, Bool, cond, ◌&&◌, ◌||◌, List, length, Ok, Err, Result, ◌==◌}
use Rattle.instruction.specs.declared.instruction.Instruction.{Instruction}
use Rattle.script.specs.declared.role.Role.{Role}
use Rattle.script.specs.declared.role.Role.TheVariants.{JumpsIf, Jumps, EndsBlock}
use Rattle.script.specs.declared.refusal.ImageRefusal.{ImageRefusal}
use Rattle.script.specs.declared.refusal.ImageRefusal.TheVariants.{EndWithoutBlock, WrongTarget}
use Rattle.script.specs.Scripts.{some_before}
use Rattle.script.specs.Roles.{role_of, block_name, is_named, arrives, opens_procedure}
use Rattle.script.specs.Frames.{role_at}
use Rattle.script.specs.Regions.{region}

-- a block of the name stands somewhere
abbrev pub has_block : List Instruction → ℕ → Bool
has_block s b = some_before (λ i. is_named b (block_name (role_of i))) s (suc (length s))

-- at t there is a label of the region of the instruction at a
abbrev pub label_for : List Instruction → ℕ → ℕ → Bool
label_for s a t = arrives (role_at s t) && region s t == region s a

-- a jmp may go to a proc if a label of the jmp's region directly follows it
abbrev pub call_from : List Instruction → ℕ → ℕ → Bool
call_from s a t = opens_procedure (role_at s t) && label_for s a (a + 1)

abbrev pub fine_or : Bool → ImageRefusal → Result (Unit {0}) ImageRefusal
fine_or fine refusal = cond fine (Ok tt) (Err refusal)

-- what is wrong with what an instruction refers to, if something is
abbrev pub judged_by : List Instruction → ℕ → Role → Result (Unit {0}) ImageRefusal
judged_by s a (JumpsIf t) = fine_or (label_for s a t) (WrongTarget a)
judged_by s a (Jumps t) = fine_or (label_for s a t || call_from s a t) (WrongTarget a)
judged_by s a (EndsBlock b) = fine_or (has_block s b) (EndWithoutBlock a)
judged_by s a role = Ok tt

abbrev pub reference_judged : List Instruction → ℕ → Result (Unit {0}) ImageRefusal
reference_judged s a = judged_by s a (role_at s a)

abbrev pub refused_or : Result (Unit {0}) ImageRefusal → Result (Unit {0}) ImageRefusal → Result (Unit {0}) ImageRefusal
refused_or (Err refusal) rest = Err refusal
refused_or (Ok fine) rest = rest

-- the first wrong one of the last `left` instructions, from an address on
unfoldable pub references_from : List Instruction → ℕ → ℕ → Result (Unit {0}) ImageRefusal
references_from s zero a = Ok tt
references_from s (suc left) a = refused_or (reference_judged s a) (references_from s left (suc a))

abbrev pub references_judged : List Instruction → Result (Unit {0}) ImageRefusal
references_judged s = references_from s (length s) 1
