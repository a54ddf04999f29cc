-- The frames that stand open at each address, if those of the whole script are judged to be right.
use Rattle.std.proofs.Common.{◌≡◌, ℕ, zero, suc, ◌+◌, ◌<◌, ◌≤◌, Bool, true, false, cond, ◌&&◌, ltb, List, [], ◌∷◌, length, Some, None, Ok, Option, Result, refl, ap, subst, ⊎_elim, one-add, arith}
use Rattle.std.proofs.lemmas.List.{get_or_past}
use Rattle.std.proofs.lemmas.Bool.{and_parts, cases_lt}
use Rattle.instruction.specs.declared.instruction.Instruction.{Instruction}
use Rattle.script.specs.declared.role.FrameKind.{FrameKind}
use Rattle.script.specs.declared.role.Role.{Role}
use Rattle.script.specs.declared.role.Role.TheVariants.{Plain, Opens, Closes}
use Rattle.script.specs.declared.frames.Frame.{Frame}
use Rattle.script.specs.declared.refusal.ImageRefusal.{ImageRefusal}
use Rattle.script.specs.Roles.{arrives, by_framing, same_kind}
use Rattle.script.specs.Frames.{role_at, beside, fresh, opened, right_count, without, open_after, frames_after, go_on, frames_from, frames_judged}
use Rattle.script.specs.Regions.{open_before}

-- before the first instruction and behind the last all is plain
past_is_plain : (s : List Instruction) (a : ℕ) → length s < a → role_at s a ≡ Plain
past_is_plain s a l = grind (arith, get_or_past)

pub not_plain_is_within : (s : List Instruction) (a : ℕ) → (role_at s a ≡ Plain → ⊥) → (1 ≤ a) × (a ≤ length s)
not_plain_is_within s a h = grind (arith, past_is_plain)

pub arrives_within : (s : List Instruction) (a : ℕ) → arrives (role_at s a) ≡ true → (1 ≤ a) × (a ≤ length s)
arrives_within s a e = grind (arith, not_plain_is_within)

-- no rule breaks at an address
record Kept (s : List Instruction) (a : ℕ) : Type 0 where
  pub stands : beside s a ≡ true
  pub named : fresh s a ≡ true
  pub next : open_after (role_at s a) a (open_before s a) ≡ Some (open_before s (suc a))

cond_is_some : {A : Type 0} (b : Bool) (o : Option A) (x : A) → cond b o None ≡ Some x → (b ≡ true) × (o ≡ Some x)
cond_is_some b o x e = grind arith

went_on : (a : ℕ) (o : Option (List Frame)) (next : List Frame → Result (Unit {0}) ImageRefusal) → go_on a o next ≡ Ok tt → (fs : List Frame) × (o ≡ Some fs) × (next fs ≡ Ok tt)
went_on a o next e = grind arith

kept_after : (s : List Instruction) (a : ℕ) (fs : List Frame) → frames_after s a (open_before s a) ≡ Some fs → Kept s a × (fs ≡ open_before s (suc a))
unfolding open_before
kept_after s a fs e = grind arith

-- at a plain instruction no rule breaks, and the frames stay
kept_if_plain : (s : List Instruction) (a : ℕ) → role_at s a ≡ Plain → Kept s a × (open_before s a ≡ open_before s (suc a))
kept_if_plain s a p = kept_after s a (open_before s a) (rw p)

-- the frames of the last `left` instructions, from an address on, judged in reading order
judged_is_kept : (s : List Instruction) (left a : ℕ) → frames_from s left a (open_before s a) ≡ Ok tt → ((b : ℕ) → a ≤ b → b < a + left → Kept s b) × (open_before s (a + left) ≡ [])
unfolding frames_from
judged_is_kept s zero a e = grind arith
judged_is_kept s (suc left) a e =
    let w = went_on a (frames_after s a (open_before s a)) (λ fs. frames_from s left (suc a) fs) e in
    let k = kept_after s a w.0 w.1 in
    let h = judged_is_kept s left (suc a) (subst (λ fs. frames_from s left (suc a) fs ≡ Ok tt) k.1 w.2) in (
      (λ b l u. ⊎_elim (λ d. h.0 b d (omega arith)) (λ d. let q : a ≡ b = omega arith in subst (Kept s) q k.0) (cases_lt a b)),
      let q : suc a + left ≡ a + suc left = omega arith in subst (λ n. open_before s n ≡ []) q h.1,
    )

none_open_first : (s : List Instruction) → [] ≡ open_before s 1
unfolding open_before
none_open_first s = refl

-- what an instruction does to the frames that stand open: it keeps them, opens one or closes the innermost
abbrev pub keeps : Role → Bool
keeps role = by_framing true (λ kind. false) (λ kind. false) role

pub data Step (r : Role) (a : ℕ) (fs gs : List Frame) : Type 0 where
  stays : keeps r ≡ true → gs ≡ fs → Step r a fs gs
  opens : (kind : FrameKind) → r ≡ Opens kind → gs ≡ opened kind a 0 ∷ fs → Step r a fs gs
  closes : (f : Frame) (rest : List Frame) → r ≡ Closes f.kind → right_count f.kind f.branches ≡ true → fs ≡ f ∷ rest → gs ≡ without f.kind rest → Step r a fs gs

same_kind_is_equal : (k l : FrameKind) → same_kind k l ≡ true → k ≡ l
same_kind_is_equal k l e = grind arith

step_by_role : (r : Role) (a : ℕ) (fs gs : List Frame) → open_after r a fs ≡ Some gs → Step r a fs gs
step_by_role (Opens kind) a fs gs e =
    let c = cond_is_some (ltb (length fs) 16) (Some (opened kind a 0 ∷ fs)) gs e in
    opens kind refl (cc)
step_by_role (Closes kind) a [] gs e = absurd (grind arith)
step_by_role (Closes kind) a (f ∷ fs) gs e =
    let c = cond_is_some (same_kind kind f.kind && right_count kind f.branches) (Some (without kind fs)) gs e in
    let p = and_parts (same_kind kind f.kind) (right_count kind f.branches) c.0 in
    let q : kind ≡ f.kind = same_kind_is_equal kind f.kind p.0 in
    let w : gs ≡ without kind fs = cc in
    closes f fs (ap Closes q) (rw q at p.1) refl (rw q at w)
step_by_role r a fs gs e = stays refl (cc)

-- if the frames are judged to be right, no rule breaks at any address, and behind the last no frame stands open
module _ (s : List Instruction) (judged : frames_judged s ≡ Ok tt) where
  all_kept : ((b : ℕ) → 1 ≤ b → b < 1 + length s → Kept s b) × (open_before s (1 + length s) ≡ [])
  all_kept = judged_is_kept s (length s) 1 (subst (λ fs. frames_from s (length s) 1 fs ≡ Ok tt) (none_open_first s) judged)

  kept : (a : ℕ) → Kept s a
  kept zero = (kept_if_plain s 0 refl).0
  kept (suc a) =
      ⊎_elim
      (λ l. (kept_if_plain s (suc a) (past_is_plain s (suc a) l)).0)
      (λ l. all_kept.0 (suc a) (omega arith) (omega arith))
      (cases_lt (length s) (suc a))

  pub stands_beside : (a : ℕ) → beside s a ≡ true
  stands_beside a = (kept a).stands

  pub gives_a_fresh_name : (a : ℕ) → fresh s a ≡ true
  gives_a_fresh_name a = (kept a).named

  pub step : (a : ℕ) → Step (role_at s a) a (open_before s a) (open_before s (suc a))
  step a = step_by_role (role_at s a) a (open_before s a) (open_before s (suc a)) (kept a).next

  pub none_open_last : open_before s (suc (length s)) ≡ []
  none_open_last = subst (λ n. open_before s n ≡ []) (one-add (length s)) all_kept.1
