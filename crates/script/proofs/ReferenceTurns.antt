-- The turns of judging ends and jumps.
use Rattle.std.proofs.Common.{◌≡◌, ℕ, suc, ◌+◌, ◌-◌, ◌<◌, ◌≤◌, List, length, Ok, arith}
use Rattle.instruction.specs.declared.instruction.Instruction.{Instruction}
use Rattle.script.specs.References.{reference_judged, refused_or, references_from}

pub references_next : (s : List Instruction) (a : ℕ) → a ≤ length s
    → references_from s (suc (length s) - a) a ≡ refused_or (reference_judged s a) (references_from s (suc (length s) - (a + 1)) (a + 1))
unfolding references_from
references_next s a h = grind arith

pub references_end : (s : List Instruction) (a : ℕ) → length s < a → references_from s (suc (length s) - a) a ≡ Ok tt
unfolding references_from
references_end s a h = grind arith
