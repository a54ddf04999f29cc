-- The mirrored script has as many instructions as the script.
use Rattle.std.proofs.Common.{◌≡◌, List, length, reverse, ◌∙◌}
use Rattle.std.proofs.lemmas.List.{length-map, length-reverse}
use Rattle.instruction.specs.declared.instruction.Instruction.{Instruction}
use Rattle.instruction.specs.Mirrors.{mirror_of, mirrors_of}

pub as_many_mirrors : (s : List Instruction) → length (mirrors_of s) ≡ length s
as_many_mirrors s = length-map (reverse s) mirror_of ∙ length-reverse s
