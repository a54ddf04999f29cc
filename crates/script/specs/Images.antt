-- Images: the count of the instructions, then the code and the operand of each, all as numbers, and no more bytes.
use Rattle.std.specs.Prelude.{◌≡◌, ℕ, zero, suc, Bool, true, cond, ◌&&◌, List, [], ◌∷◌, ◌++◌, map, length, is_some, ok_or, Ok, Err, Result, nat_le, nat_lt}
use Rattle.std.specs.List.{flat_map}
use Rattle.varint.specs.declared.number.Fault.{Fault}
use Rattle.varint.specs.Writings.{writing}
use Rattle.varint.specs.Readings.{number_at}
use Rattle.instruction.specs.declared.instruction.Instruction.{Instruction}
use Rattle.instruction.specs.Codes.{instruction_of, code_and_operand}
use Rattle.script.specs.declared.refusal.ImageRefusal.{ImageRefusal}
use Rattle.script.specs.declared.refusal.ImageRefusal.TheVariants.{GoesOn, WrongCount, WrongInstruction}
use Rattle.script.specs.Refusals.{raised}
use Rattle.script.specs.Frames.{frames_judged}
use Rattle.script.specs.References.{references_judged}

-- Writing

abbrev pub pair_bytes : ℕ × ℕ → List ℕ
pair_bytes p = writing p.0 ++ writing p.1

-- the image of codes and operands
abbrev pub image_of : List (ℕ × ℕ) → List ℕ
image_of ps = writing (length ps) ++ flat_map pair_bytes ps

-- the image of a script
abbrev pub image : List Instruction → List ℕ
image s = image_of (map (code_and_operand (length s)) s)

-- Reading

-- go on with what was read, or with the refusal
abbrev pub and_then : {X Y : Type 0} → Result X ImageRefusal → (X → Result Y ImageRefusal) → Result Y ImageRefusal
and_then (Ok x) next = next x
and_then (Err refusal) next = Err refusal

abbrev pub or_raised : {X : Type 0} → Result X Fault → Result X ImageRefusal
or_raised (Ok x) = Ok x
or_raised (Err fault) = Err (raised fault)

-- the number that begins at a place, and the place after it
abbrev pub image_number : List ℕ → ℕ → Result (ℕ × ℕ) ImageRefusal
image_number bs place = or_raised (number_at bs place)

-- the count is 1 to 1,024
abbrev pub count_judged : ℕ → Result (Unit {0}) ImageRefusal
count_judged n = cond (nat_le 1 n && nat_le n 1024) (Ok tt) (Err WrongCount)

-- the code and the operand from a place on, and the place after them
abbrev pub pair_at : List ℕ → ℕ → Result ((ℕ × ℕ) × ℕ) ImageRefusal
pair_at bs place =
    and_then (image_number bs place) (λ code.
    and_then (image_number bs code.1) (λ operand.
    Ok ((code.0, operand.0), operand.1)))

-- `left` pairs from a place on, behind the earlier ones; and the place after them
unfoldable pub pairs_from : List ℕ → ℕ → ℕ → List (ℕ × ℕ) → Result (List (ℕ × ℕ) × ℕ) ImageRefusal
pairs_from bs zero place earlier = Ok (earlier, place)
pairs_from bs (suc left) place earlier = and_then (pair_at bs place) (λ p. pairs_from bs left p.1 (earlier ++ p.0 ∷ []))

-- no byte follows
abbrev pub end_judged : List ℕ → ℕ → Result (Unit {0}) ImageRefusal
end_judged bs place = cond (nat_le (length bs) place) (Ok tt) (Err (GoesOn place))

-- all codes and operands of an image
abbrev pub pairs_of : List ℕ → Result (List (ℕ × ℕ)) ImageRefusal
pairs_of bs =
    and_then (image_number bs 0) (λ count.
    and_then (count_judged count.0) (λ _.
    and_then (pairs_from bs count.0 count.1 []) (λ pairs.
    and_then (end_judged bs pairs.1) (λ _.
    Ok pairs.0))))

-- the instructions of pairs, in a script of n instructions, from an address on, behind the earlier ones
unfoldable pub decoded_from : ℕ → ℕ → List (ℕ × ℕ) → List Instruction → Result (List Instruction) ImageRefusal
decoded_from n a [] earlier = Ok earlier
decoded_from n a (p ∷ ps) earlier =
    and_then (ok_or (instruction_of n p.0 p.1) (WrongInstruction a)) (λ i. decoded_from n (suc a) ps (earlier ++ i ∷ []))

abbrev pub decoded : List (ℕ × ℕ) → Result (List Instruction) ImageRefusal
decoded ps = decoded_from (length ps) 1 ps []

-- all numbers are read before any code or operand is judged
abbrev pub instructions_read : List ℕ → Result (List Instruction) ImageRefusal
instructions_read bs = and_then (pairs_of bs) (λ pairs. decoded pairs)

-- all frames are judged before any end or jump
abbrev pub judged : List Instruction → Result (List Instruction) ImageRefusal
judged s = and_then (frames_judged s) (λ _. and_then (references_judged s) (λ _. Ok s))

abbrev pub read_image : List ℕ → Result (List Instruction) ImageRefusal
read_image bs = and_then (instructions_read bs) (λ s. judged s)

-- Accepted scripts

-- an instruction of a script of n instructions: its operand is a 32-bit number that may stand there
abbrev pub is_writable : ℕ → Instruction → Bool
is_writable n i = nat_lt (code_and_operand n i).1 4294967296 && is_some (instruction_of n (code_and_operand n i).0 (code_and_operand n i).1)

abbrev pub are_writable : ℕ → List Instruction → Bool
are_writable n [] = true
are_writable n (i ∷ is) = is_writable n i && are_writable n is

-- 1 to 1,024 instructions, each with an operand that may stand there
abbrev pub has_image : List Instruction → Bool
has_image s = nat_le 1 (length s) && (nat_le (length s) 1024 && are_writable (length s) s)

-- a script that keeps every rule
pub record Accepted (s : List Instruction) : Type 0 where
  pub image : has_image s ≡ true
  pub frames : frames_judged s ≡ Ok tt
  pub references : references_judged s ≡ Ok tt

-- what is read as a script is its image, and the image of an accepted script is read as the script
abbrev pub ImagesAndScripts : Type 0
ImagesAndScripts = (bs : List ℕ) (s : List Instruction) → (read_image bs ≡ Ok s → Accepted s × (bs ≡ image s)) × (Accepted s → read_image (image s) ≡ Ok s)

-- a script has just one image
abbrev pub OneImage : Type 0
OneImage = (bs cs : List ℕ) (s : List Instruction) → read_image bs ≡ Ok s → read_image cs ≡ Ok s → bs ≡ cs
