-- What ends and jumps refer to in a script whose references are judged to be right.
use Rattle.std.proofs.Common.{◌≡◌, ℕ, zero, suc, ◌+◌, ◌<◌, ◌≤◌, Bool, true, ◌||◌, eqb, ◌⊎◌, List, length, Ok, Result, sym, ap, ◌∙◌, subst, inl, inr, ⊎_elim, add-one, arith}
use Rattle.std.proofs.lemmas.Bool.{and_parts, or_cases, eqb-true, cases_lt}
use Rattle.instruction.specs.declared.instruction.Instruction.{Instruction}
use Rattle.instruction.specs.declared.instruction.Instruction.TheVariants.{Jpc, Jmp, Block, End}
use Rattle.script.specs.declared.role.FrameKind.TheVariants.{Procedure}
use Rattle.script.specs.declared.role.Role.{Role}
use Rattle.script.specs.declared.role.Role.TheVariants.{Plain, JumpsIf, Jumps, Arrives, BeginsBlock, EndsBlock, Opens}
use Rattle.script.specs.declared.refusal.ImageRefusal.{ImageRefusal}
use Rattle.script.specs.declared.refusal.ImageRefusal.TheVariants.{EndWithoutBlock, WrongTarget}
use Rattle.script.specs.Scripts.{instruction_at}
use Rattle.script.specs.Roles.{role_of, block_name, is_named, arrives, opens_procedure}
use Rattle.script.specs.Frames.{role_at}
use Rattle.script.specs.Regions.{region}
use Rattle.script.specs.References.{has_block, label_for, call_from, fine_or, judged_by, reference_judged, refused_or, references_from, references_judged}
use Rattle.script.specs.Flow.{LabelFor, CallFrom}
use Rattle.script.proofs.Searches.{found_before}
use Rattle.script.proofs.OpenFrames.{not_plain_is_within, arrives_within}
use Rattle.script.proofs.RoleInstructions.{instruction_by_role}

-- nothing is wrong with any reference
none_refused : (r rest : Result (Unit {0}) ImageRefusal) → refused_or r rest ≡ Ok tt → (r ≡ Ok tt) × (rest ≡ Ok tt)
none_refused r rest e = grind arith

judged_is_right : (s : List Instruction) (left a : ℕ) → references_from s left a ≡ Ok tt → (b : ℕ) → a ≤ b → b < a + left → reference_judged s b ≡ Ok tt
unfolding references_from
judged_is_right s zero a e b l u = absurd (omega arith)
judged_is_right s (suc left) a e b l u =
    let n = none_refused (reference_judged s a) (references_from s left (suc a)) e in
    ⊎_elim
    (λ o. judged_is_right s left (suc a) n.1 b o (omega arith))
    (λ o. let q : a ≡ b = omega arith in subst (λ i. reference_judged s i ≡ Ok tt) q n.0)
    (cases_lt a b)

-- what the tests of a target say
fine_if : (fine : Bool) (refusal : ImageRefusal) → fine_or fine refusal ≡ Ok tt → fine ≡ true
fine_if fine refusal e = grind arith

arrives_only : (r : Role) → arrives r ≡ true → r ≡ Arrives
arrives_only r e = grind arith

opens_procedure_lem : (r : Role) → opens_procedure r ≡ true → (p : ℕ) × (r ≡ Opens (Procedure p))
opens_procedure_lem r e = grind arith

label_for_lem : (s : List Instruction) (a t : ℕ) → label_for s a t ≡ true → LabelFor s a t
label_for_lem s a t e =
    let p = and_parts (arrives (role_at s t)) (eqb (region s t) (region s a)) e in
    let r : role_at s t ≡ Arrives = arrives_only (role_at s t) p.0 in
    record {
      within = arrives_within s t p.0;
      label = instruction_by_role s t Arrives r;
      same_region = eqb-true (region s t) (region s a) p.1;
    }

call_from_lem : (s : List Instruction) (a t : ℕ) → call_from s a t ≡ true → CallFrom s a t
call_from_lem s a t e =
    let p = and_parts (opens_procedure (role_at s t)) (label_for s a (a + 1)) e in
    let o = opens_procedure_lem (role_at s t) p.0 in
    let r = o.1 in
    record {
      within = not_plain_is_within s t (λ q. grind arith);
      name = o.0;
      proc = instruction_by_role s t (Opens (Procedure o.0)) r;
      returns = subst (LabelFor s a) (add-one a) (label_for_lem s a (a + 1) p.1);
    }

begins_block_only : (n : ℕ) (r : Role) → is_named n (block_name r) ≡ true → r ≡ BeginsBlock n
begins_block_only n r e = grind arith

module _ (s : List Instruction) (judged : references_judged s ≡ Ok tt) where
  right_by : (a : ℕ) (r : Role) → role_at s a ≡ r → (r ≡ Plain → ⊥) → judged_by s a r ≡ Ok tt
  right_by a r e n =
      let i = not_plain_is_within s a (λ p. n (sym e ∙ p)) in
      subst (λ r. judged_by s a r ≡ Ok tt) e (judged_is_right s (length s) 1 judged a (omega arith) (omega arith))

  pub jpc_to_label : (a t : ℕ) → instruction_at s a ≡ Jpc t → LabelFor s a t
  jpc_to_label a t e = label_for_lem s a t (fine_if (label_for s a t) (WrongTarget a) (right_by a (JumpsIf t) (ap role_of e) (λ p. grind arith)))

  pub jmp_to_label_or_proc : (a t : ℕ) → instruction_at s a ≡ Jmp t → LabelFor s a t ⊎ CallFrom s a t
  jmp_to_label_or_proc a t e =
      ⊎_elim
      (λ l. inl (label_for_lem s a t l))
      (λ c. inr (call_from_lem s a t c))
      (or_cases (label_for s a t) (call_from s a t) (fine_if (label_for s a t || call_from s a t) (WrongTarget a) (right_by a (Jumps t) (ap role_of e) (λ p. grind arith))))

  pub end_has_block : (a n : ℕ) → instruction_at s a ≡ End n → (b : ℕ) × (instruction_at s b ≡ Block n)
  end_has_block a n e =
      let found = found_before (λ i. is_named n (block_name (role_of i))) s (suc (length s)) (fine_if (has_block s n) (EndWithoutBlock a) (right_by a (EndsBlock n) (ap role_of e) (λ p. grind arith))) in
      (found.0, instruction_by_role s found.0 (BeginsBlock n) (begins_block_only n (role_at s found.0) found.1))
