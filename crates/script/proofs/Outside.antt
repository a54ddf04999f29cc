-- No address outside a script has a partner.
use Rattle.std.proofs.Common.{◌≡◌, ℕ, zero, suc, ◌<◌, ◌≤◌, Bool, cond, ◌&&◌, ◌⊎◌, List, [], ◌∷◌, length, None, refl, ap, ◌∙◌, inl, inr, ⊎_elim, arith}
use Rattle.instruction.specs.declared.instruction.Instruction.{Instruction}
use Rattle.script.specs.declared.role.FrameKind.{FrameKind}
use Rattle.script.specs.declared.role.FrameKind.TheVariants.{Procedure, Branch, Forked}
use Rattle.script.specs.declared.role.Role.{Role}
use Rattle.script.specs.declared.frames.Frame.{Frame}
use Rattle.script.specs.Frames.{role_at, without, open_after, beside, fresh}
use Rattle.script.specs.Linking.{OpenedBefore}
use Rattle.script.specs.Calls.{some_address, partner_of}
use Rattle.script.specs.Regions.{or_none, open_before, closed_by, paired, partner_before}

opened_on : (b : ℕ) (fs : List Frame) → OpenedBefore b fs → OpenedBefore (suc b) fs
opened_on b [] h = tt
opened_on b (f ∷ fs) h = (h.0, omega (arith, h.1), omega (arith, h.2), opened_on b fs h.3)

opened_without : (kind : FrameKind) (b : ℕ) (fs : List Frame) → OpenedBefore b fs → OpenedBefore (suc b) (without kind fs)
opened_without (Procedure p) b fs h = opened_on b fs h
opened_without Branch b [] h = tt
opened_without Branch b (f ∷ fs) h = (h.0, omega (arith, h.1), omega (arith, h.2), opened_on b fs h.3)
opened_without (Forked a) b fs h = opened_on b fs h

opened_after : (r : Role) (b : ℕ) (fs : List Frame) → 1 ≤ b → OpenedBefore b fs → OpenedBefore (suc b) (or_none (open_after r b fs))
opened_after r b fs p h = grind (arith, opened_on, opened_without)

opened_step : (test : Bool) (r : Role) (b : ℕ) (fs : List Frame) → 1 ≤ b → OpenedBefore b fs → OpenedBefore (suc b) (or_none (cond test (open_after r b fs) None))
opened_step test r b fs p h = grind (arith, opened_after)

pub open_opened_before : (s : List Instruction) (b : ℕ) → OpenedBefore b (open_before s b)
unfolding open_before
open_opened_before s zero = tt
open_opened_before s (suc zero) = tt
open_opened_before s (suc (suc b)) = opened_step (beside s (suc b) && fresh s (suc b)) (role_at s (suc b)) (suc b) (open_before s (suc b)) (omega arith) (open_opened_before s (suc b))

paired_outside : (r : Role) (fs : List Frame) (b a p : ℕ) → OpenedBefore b fs → (a ≡ 0) ⊎ (b < a) → 1 ≤ b → paired b (closed_by r fs) a p ≡ p
paired_outside r fs b a p h o l = grind arith

partnerless_before : (s : List Instruction) (a b : ℕ) → b ≤ suc (length s) → (a ≡ 0) ⊎ (length s < a) → partner_before s b a ≡ 0
unfolding partner_before open_before
partnerless_before s a zero l o = refl
partnerless_before s a (suc zero) l o = refl
partnerless_before s a (suc (suc b)) l o =
    paired_outside (role_at s (suc b)) (open_before s (suc b)) (suc b) a (partner_before s (suc b) a) (open_opened_before s (suc b)) (⊎_elim (λ z. inl z) (λ g. inr (omega arith)) o) (omega arith)
    ∙ partnerless_before s a (suc b) (omega arith) o

pub partnerless_at_0 : (s : List Instruction) (a : ℕ) → a < 1 → partner_of s a ≡ None
partnerless_at_0 s a h = ap some_address (partnerless_before s a (suc (length s)) (omega arith) (inl (omega arith)))

pub partnerless_behind : (s : List Instruction) (a : ℕ) → length s < a → partner_of s a ≡ None
partnerless_behind s a h = ap some_address (partnerless_before s a (suc (length s)) (omega arith) (inr h))
