-- What having an image says, part by part.
use Rattle.std.proofs.Common.{◌≡◌, ◌≤◌, true, leb, List, length}
use Rattle.std.proofs.lemmas.Bool.{and_parts, and_from, leb-true, le-leb}
use Rattle.instruction.specs.declared.instruction.Instruction.{Instruction}
use Rattle.script.specs.Images.{are_writable, has_image}

pub image_parts : (s : List Instruction) → has_image s ≡ true → (1 ≤ length s) × (length s ≤ 1024) × (are_writable (length s) s ≡ true)
image_parts s e =
    let p = and_parts (leb 1 (length s)) _ e in
    let q = and_parts (leb (length s) 1024) _ p.1 in
    (leb-true 1 (length s) p.0, leb-true (length s) 1024 q.0, q.1)

pub parts_image : (s : List Instruction) → 1 ≤ length s → length s ≤ 1024 → are_writable (length s) s ≡ true → has_image s ≡ true
parts_image s some few writable = and_from _ _ (le-leb 1 (length s) some) (and_from _ _ (le-leb (length s) 1024 few) writable)
