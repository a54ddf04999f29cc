-- Every accepted script has the flow that the rules are for.
use Rattle.std.proofs.Common.{◌≡◌, ℕ, suc, ◌+◌, ◌-◌, true, false, List, Ok, sym, refl, ap, ◌∙◌, subst, arith}
use Rattle.std.proofs.lemmas.Bool.{both_ways}
use Rattle.instruction.specs.declared.instruction.Instruction.{Instruction}
use Rattle.instruction.specs.declared.instruction.Instruction.TheVariants.{Fork}
use Rattle.script.specs.declared.role.FrameKind.{FrameKind}
use Rattle.script.specs.declared.role.FrameKind.TheVariants.{Procedure, Branch, Forked}
use Rattle.script.specs.declared.role.Role.{Role}
use Rattle.script.specs.declared.role.Role.TheVariants.{Opens, Closes}
use Rattle.script.specs.declared.frames.Frame.{Frame}
use Rattle.script.specs.Scripts.{instruction_at}
use Rattle.script.specs.Roles.{role_of}
use Rattle.script.specs.Frames.{role_at, beside_by, without, frames_judged}
use Rattle.script.specs.Regions.{open_before, around, region_from, innermost, region, partner}
use Rattle.script.specs.Flow.{falls, fallen_into, StretchAt, AcceptedScriptsFlow}
use Rattle.script.proofs.OpenFrames.{keeps, stands_beside}
use Rattle.script.proofs.Nesting.{Chain, done, onward, Passing, keeping, opening, closing, passing, branches_up_to_merge}
use Rattle.script.proofs.Partners.{closer_closes, opener_is_closed, partners}
use Rattle.script.proofs.RoleInstructions.{opener, closer, instruction_by_role}
use Rattle.script.proofs.Forks.{opener_region, closer_region, fork_at}
use Rattle.script.proofs.GivenNames.{given_once}
use Rattle.script.proofs.Targets.{jpc_to_label, jmp_to_label_or_proc, end_has_block}

-- control does not go on from a branch, or from a fork, to what stands behind
stops_before : {s : List Instruction} {a k m : ℕ} → Chain s a k m → (x : ℕ) → a ≡ suc x → falls (role_at s x) ≡ false → (b : ℕ) → m ≡ suc b → falls (role_at s b) ≡ false
stops_before {s} done x e f b g = let q : x ≡ b = omega arith in subst (λ n. falls (role_at s n) ≡ false) q f
stops_before (onward {c = c} l rest) x e f b g = stops_before rest c refl (ap falls l.closer) b g

-- what stands beside an instruction keeps control from going on to a proc or a par begin
fallen_into_lem : (r before after : Role) → beside_by r before after ≡ true → falls before ≡ true → ((n : ℕ) → r ≡ Closes (Forked n) → ⊥) → fallen_into r ≡ true
fallen_into_lem r before after b f m = grind arith

-- the region where control comes from and goes to
fallen_into_region : (r : Role) (a : ℕ) (fs : List Frame) → fallen_into r ≡ true → innermost (around r a fs) ≡ innermost fs
fallen_into_region r a fs e = grind arith

keeping_is_around : (r : Role) (a : ℕ) (fs : List Frame) → keeps r ≡ true → fs ≡ around r a fs
keeping_is_around r a fs e = grind arith

closed_region : (kind : FrameKind) (x : ℕ) (fs : List Frame) → falls (Closes kind) ≡ true → innermost (without kind fs) ≡ region_from kind x (innermost fs)
closed_region kind x fs e = grind arith

module _ (s : List Instruction) (judged : frames_judged s ≡ Ok tt) where
  merge_is_not_fallen_into : (a n : ℕ) → falls (role_at s a) ≡ true → role_at s (suc a) ≡ Closes (Forked n) → ⊥
  merge_is_not_fallen_into a n f r =
      let w = closer_closes s judged (suc a) (Forked n) r in
      both_ways (falls (role_at s a)) (stops_before (branches_up_to_merge s judged n w.0 (suc a) w.1) w.0 refl (ap falls w.1.opener) a refl) f

  -- where control goes on, the frames behind are those around
  innermost_behind : (a : ℕ) → falls (role_at s a) ≡ true → innermost (open_before s (suc a)) ≡ region s a
  unfolding region
  innermost_behind a f = at (passing s judged a)
    where
      at : Passing s a → innermost (open_before s (suc a)) ≡ innermost (around (role_at s a) a (open_before s a))
      at (keeping k e) = ap innermost (e ∙ keeping_is_around (role_at s a) a (open_before s a) k)
      at (opening kind r e) = rw (e, r)
      at (closing kind x l) = rw (l.behind, l.closer, l.before) (closed_region kind x (open_before s x) (sym (ap falls l.closer) ∙ f))

  goes_on : (a : ℕ) → falls (role_at s a) ≡ true → (fallen_into (role_at s (suc a)) ≡ true) × (region s (suc a) ≡ region s a)
  unfolding region
  goes_on a f =
      let before : suc a - 1 ≡ a = omega arith in
      let i = fallen_into_lem (role_at s (suc a)) (role_at s (suc a - 1)) (role_at s (suc a + 1)) (stands_beside s judged (suc a)) (ap (λ n. falls (role_at s n)) before ∙ f) (λ n r. merge_is_not_fallen_into a n f r) in
      (i, fallen_into_region (role_at s (suc a)) (suc a) (open_before s (suc a)) i ∙ innermost_behind a f)

  -- a p_return and a par end stand in the region of their opener
  region_has_opener : (a : ℕ) (kind : FrameKind) → role_at s a ≡ Closes kind → ((x outer : ℕ) → region_from kind x outer ≡ x) → instruction_at s (region s a) ≡ opener kind
  region_has_opener a kind r own =
      let w = closer_closes s judged a kind r in
      let o = w.1.opener in
      let e : region s a ≡ w.0 = closer_region w.1 ∙ opener_region s w.0 kind o ∙ own w.0 (innermost (open_before s w.0)) in
      ap (instruction_at s) e ∙ instruction_by_role s w.0 (Opens kind) o

  stretch_at : (a : ℕ) (kind : FrameKind) → role_at s a ≡ Opens kind → ((x outer : ℕ) → region_from kind x outer ≡ x) → StretchAt s a (closer kind)
  stretch_at a kind r own =
      let w = opener_is_closed s judged a kind r in
      let p = partners s judged w.1 in
      record {
        own_region = opener_region s a kind r ∙ own a (innermost (open_before s a));
        closes = ap (instruction_at s) p.0 ∙ instruction_by_role s w.0 (Closes kind) w.1.closer;
        back = ap (partner s) p.0 ∙ p.1;
      }

  merge_of_fork : (a n : ℕ) → role_at s a ≡ Closes (Forked n) → (instruction_at s (partner s a) ≡ Fork n) × (partner s (partner s a) ≡ a)
  merge_of_fork a n r =
      let w = closer_closes s judged a (Forked n) r in
      let p = partners s judged w.1 in
      (ap (instruction_at s) p.1 ∙ instruction_by_role s w.0 (Opens (Forked n)) w.1.opener, ap (partner s) p.1 ∙ p.0)

-- before the first instruction it is the whole script's
whole_script : (s : List Instruction) → region s 0 ≡ 0
unfolding region open_before
whole_script s = refl

pub accepted_scripts_flow : AcceptedScriptsFlow
accepted_scripts_flow s accepted =
    record {
      first = (goes_on s judged 0 refl).0;
      whole = (goes_on s judged 0 refl).1 ∙ whole_script s;
      on = λ a l u f. goes_on s judged a f;
      jpc = jpc_to_label s accepted.references;
      jmp = jmp_to_label_or_proc s accepted.references;
      fork = λ a n i. fork_at s judged a n (ap role_of i);
      merge = λ a n i. merge_of_fork s judged a n (ap role_of i);
      names = given_once s judged;
      end = end_has_block s accepted.references;
      proc = λ a p i. stretch_at s judged a (Procedure p) (ap role_of i) (λ x outer. refl);
      branch = λ a i. stretch_at s judged a Branch (ap role_of i) (λ x outer. refl);
      proc_end = λ a p i. region_has_opener s judged a (Procedure p) (ap role_of i) (λ x outer. refl);
      branch_end = λ a i. region_has_opener s judged a Branch (ap role_of i) (λ x outer. refl);
    }
  where
    judged : frames_judged s ≡ Ok tt
    judged = accepted.frames
