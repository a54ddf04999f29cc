-- The mirrored script as an image.
use Rattle.std.specs.Prelude.{ℕ, List, map}
use Rattle.std.specs.List.{flat_map}
use Rattle.instruction.specs.declared.instruction.Instruction.{Instruction}
use Rattle.instruction.specs.Mirrors.{mirror_of, mirrors_of, mirror_code_and_operand}
use Rattle.script.specs.Images.{pair_bytes, image_of}

-- the code and the operand of an instruction's mirror
abbrev pub mirror_pair : Instruction → ℕ × ℕ
mirror_pair i = mirror_code_and_operand (mirror_of i)

-- the codes and operands of the mirrored script
abbrev pub mirror_pairs : List Instruction → List (ℕ × ℕ)
mirror_pairs s = map mirror_code_and_operand (mirrors_of s)

-- their bytes, one pair behind the other
abbrev pub mirror_bytes : List Instruction → List ℕ
mirror_bytes s = flat_map pair_bytes (mirror_pairs s)

-- the image of the mirrored script
abbrev pub mirror_image : List Instruction → List ℕ
mirror_image s = image_of (mirror_pairs s)
