-- Codes and instructions yield each other back.
use Rattle.std.proofs.Common.{◌≡◌, ℕ, ◌≤◌, Bool, true, false, cond, ◌&&◌, eqb, is_some, Some, Option, sym, refl, ap, ◌∙◌, arith}
use Rattle.std.proofs.lemmas.Bool.{eqb-true}
use Rattle.varint.specs.Zigzag.{unfolded}
use Rattle.varint.proofs.Foldings.{folded_unfolded}
use Rattle.instruction.specs.declared.instruction.Instruction.{Instruction}
use Rattle.instruction.specs.declared.instruction.Instruction.TheVariants.{Ipush, Label, ParBegin, ParEnd, Nop}
use Rattle.instruction.specs.Codes.{code_and_operand, instruction_of, op_of, only}

-- what stands under one code of the table has that code, or it stands further on in the table
row : (n code x k : ℕ) (here further : Option Instruction) (i : Instruction) → cond (eqb code k) here further ≡ Some i
    → (here ≡ Some i → code_and_operand n i ≡ (k, x)) → (further ≡ Some i → code_and_operand n i ≡ (code, x)) → code_and_operand n i ≡ (code, x)
row n code x k here further i e f g =
    elim (eqb code k) as (λ t. eqb code k ≡ t → cond t here further ≡ Some i → code_and_operand n i ≡ (code, x)) [
      | true ↦ λ q h. f h ∙ ap (λ c. (c, x)) (sym (eqb-true code k q))
      | false ↦ λ q h. g h
    ] refl e

-- what stands in a row
allowed : (n : ℕ) (test : Bool) (j i : Instruction) → only test j ≡ Some i → code_and_operand n i ≡ code_and_operand n j
allowed n true j i e = let q : j ≡ i = cc in ap (code_and_operand n) (sym q)
allowed n false j i e = let z : ◌≡◌ {A = ℕ} 0 1 = cc in absurd (omega arith)

pushed : (n x : ℕ) (i : Instruction) → Some (Ipush (unfolded x)) ≡ Some i → code_and_operand n i ≡ (1, x)
pushed n x i e = let q : Ipush (unfolded x) ≡ i = cc in ap (code_and_operand n) (sym q) ∙ ap (λ z. (1, z)) (folded_unfolded x)

operated : (n x : ℕ) (i : Instruction) → op_of x ≡ Some i → code_and_operand n i ≡ (6, x)
operated n x i e = grind arith

labelled : (n x : ℕ) (i : Instruction) → only (eqb x n) Label ≡ Some i → code_and_operand n i ≡ (7, x)
labelled n x i e = grind arith

branched : (n x : ℕ) (i : Instruction) → cond (eqb x 0) (Some ParBegin) (only (eqb x 1) ParEnd) ≡ Some i → code_and_operand n i ≡ (8, x)
branched n x i e = grind arith

idle : (n code x : ℕ) (i : Instruction) → only (eqb code 21 && eqb x 0) Nop ≡ Some i → code_and_operand n i ≡ (code, x)
idle n code x i e = grind arith

pub code_of_its_instruction : (n code x : ℕ) (i : Instruction) → instruction_of n code x ≡ Some i → code_and_operand n i ≡ (code, x)
code_of_its_instruction n code x i e =
    row n code x 1 _ _ i e (pushed n x i) (λ e.
    row n code x 2 _ _ i e (allowed n _ _ i) (λ e.
    row n code x 3 _ _ i e (allowed n _ _ i) (λ e.
    row n code x 4 _ _ i e (allowed n _ _ i) (λ e.
    row n code x 5 _ _ i e (allowed n _ _ i) (λ e.
    row n code x 6 _ _ i e (operated n x i) (λ e.
    row n code x 7 _ _ i e (labelled n x i) (λ e.
    row n code x 8 _ _ i e (branched n x i) (λ e.
    row n code x 9 _ _ i e (allowed n _ _ i) (λ e.
    row n code x 10 _ _ i e (allowed n _ _ i) (λ e.
    row n code x 11 _ _ i e (allowed n _ _ i) (λ e.
    row n code x 12 _ _ i e (allowed n _ _ i) (λ e.
    row n code x 13 _ _ i e (allowed n _ _ i) (λ e.
    row n code x 14 _ _ i e (allowed n _ _ i) (λ e.
    row n code x 15 _ _ i e (allowed n _ _ i) (λ e.
    row n code x 16 _ _ i e (allowed n _ _ i) (λ e. idle n code x i e))))))))))))))))

pub instruction_of_its_code : (n : ℕ) (i : Instruction) → is_some (instruction_of n (code_and_operand n i).0 (code_and_operand n i).1) ≡ true → instruction_of n (code_and_operand n i).0 (code_and_operand n i).1 ≡ Some i
instruction_of_its_code n i e = grind arith

pub code_small : (n : ℕ) (i : Instruction) → (code_and_operand n i).0 ≤ 21
code_small n i = grind arith
