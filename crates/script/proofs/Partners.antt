-- Each opener has one closer and each closer one opener, and they are partners.
use Rattle.std.proofs.Common.{◌≡◌, ℕ, zero, suc, ◌+◌, ◌-◌, ◌<◌, ◌≤◌, true, ◌⊎◌, List, [], ◌∷◌, length, Some, None, Ok, sym, refl, ap, ◌∙◌, subst, inl, inr, ⊎_elim, arith}
use mathlib.Core.Path.{transport, transport⁻¹}
use Rattle.std.proofs.lemmas.Bool.{cases_lt, cases_order}
use Rattle.instruction.specs.declared.instruction.Instruction.{Instruction}
use Rattle.script.specs.declared.role.FrameKind.{FrameKind}
use Rattle.script.specs.declared.role.Role.{Role}
use Rattle.script.specs.declared.role.Role.TheVariants.{Opens, Closes}
use Rattle.script.specs.declared.frames.Frame.{Frame}
use Rattle.script.specs.Frames.{role_at, without, frames_judged}
use Rattle.script.specs.Regions.{open_before, closed_by, paired, partner_before, partner}
use Rattle.script.proofs.OpenFrames.{keeps, none_open_last, not_plain_is_within}
use Rattle.script.proofs.Nesting.{Closed, Passing, keeping, opening, closing, passing}

-- the opener at x stands open
abbrev Holds : ℕ → List Frame → Type 0
Holds x [] = ⊥
Holds x (f ∷ fs) = (f.address ≡ x) ⊎ Holds x fs

without_holds : (x : ℕ) (kind : FrameKind) (fs : List Frame) → Holds x (without kind fs) ≡ Holds x fs
without_holds x kind fs = grind arith

-- what a closer and its opener have to do with partners
keeping_closes_none : (r : Role) (fs : List Frame) → keeps r ≡ true → closed_by r fs ≡ None
keeping_closes_none r fs k = grind arith

pub closed_is_within : {s : List Instruction} {kind : FrameKind} {x c : ℕ} → Closed s kind x c → (1 ≤ x) × (c ≤ length s)
closed_is_within {s} {kind} {x} {c} l =
    let p = l.opener in
    let q = l.closer in
    ((not_plain_is_within s x (λ e. grind arith)).0, (not_plain_is_within s c (λ e. grind arith)).1)

closed_by_lem : {s : List Instruction} {kind : FrameKind} {x c : ℕ} → Closed s kind x c → closed_by (role_at s c) (open_before s c) ≡ Some x
closed_by_lem l = rw (l.closer, l.before)

paired_other : (closer a p opener : ℕ) → (a ≡ opener → ⊥) → (a ≡ closer → ⊥) → paired closer (Some opener) a p ≡ p
paired_other closer a p opener n m = grind arith

paired_own : (closer opener p q : ℕ) → opener < closer → (paired closer (Some opener) opener p ≡ closer) × (paired closer (Some opener) closer q ≡ opener)
paired_own closer opener p q l = grind arith

module _ (s : List Instruction) (judged : frames_judged s ≡ Ok tt) where
  -- what stands open behind an instruction and before it
  held_or_opened : (x b : ℕ) → Holds x (open_before s (suc b)) → (b ≡ x) ⊎ Holds x (open_before s b)
  held_or_opened x b h = at (passing s judged b)
    where
      at : Passing s b → (b ≡ x) ⊎ Holds x (open_before s b)
      at (keeping k e) = inr (subst (Holds x) e h)
      at (opening kind r e) = subst (Holds x) e h
      at (closing kind y l) = inr (subst (Holds x) (sym l.before) (inr (transport (without_holds x kind (open_before s y)) (subst (Holds x) l.behind h))))

  held_or_closed : (x b : ℕ) → Holds x (open_before s b) → Holds x (open_before s (suc b)) ⊎ ((kind : FrameKind) × Closed s kind x b)
  held_or_closed x b h = at (passing s judged b)
    where
      at : Passing s b → Holds x (open_before s (suc b)) ⊎ ((kind : FrameKind) × Closed s kind x b)
      at (keeping k e) = inl (subst (Holds x) (sym e) h)
      at (opening kind r e) = inl (subst (Holds x) (sym e) (inr h))
      at (closing kind y l) =
          ⊎_elim
          (λ e. inr (kind, subst (λ n. Closed s kind n b) e l))
          (λ k. inl (subst (Holds x) (sym l.behind) (transport⁻¹ (without_holds x kind (open_before s y)) k)))
          (subst (Holds x) l.before h)

  held_is_before : (x b : ℕ) → Holds x (open_before s b) → x < b
  unfolding open_before
  held_is_before x zero h = absurd h
  held_is_before x (suc b) h = ⊎_elim (λ e. omega arith) (λ k. let l : x < b = held_is_before x b k in omega arith) (held_or_opened x b h)

  -- an opener that is closed never stands open again
  closed_is_not_held : {kind : FrameKind} {x c : ℕ} → Closed s kind x c → (d : ℕ) → c < d → Holds x (open_before s d) → ⊥
  closed_is_not_held l zero o h = omega arith
  closed_is_not_held {kind} {x} {c} l (suc d) o h =
      ⊎_elim
      (λ k. ⊎_elim (λ e. omega (arith, l.order)) (λ g. closed_is_not_held l d k g) (held_or_opened x d h))
      (λ k.
      let e : d ≡ c = omega arith in
      let g : Holds x (without kind (open_before s x)) = subst (Holds x) l.behind (subst (λ n. Holds x (open_before s (suc n))) e h) in
      omega (arith, held_is_before x x (transport (without_holds x kind (open_before s x)) g)))
      (cases_lt c d)

  held_when_closed : {kind : FrameKind} {x c : ℕ} → Closed s kind x c → Holds x (open_before s c)
  held_when_closed {x = x} l = subst (Holds x) (sym l.before) (inl refl)

  pub closed_once : {k m : FrameKind} {x c d : ℕ} → Closed s k x c → Closed s m x d → c ≡ d
  closed_once {c = c} {d = d} l r =
      ⊎_elim
      (λ e. e)
      (λ o. absurd (⊎_elim (λ u. closed_is_not_held l d u (held_when_closed r)) (λ u. closed_is_not_held r c u (held_when_closed l)) o))
      (cases_order c d)

  -- every closer has its opener, and every opener its closer
  pub closer_closes : (c : ℕ) (kind : FrameKind) → role_at s c ≡ Closes kind → (x : ℕ) × Closed s kind x c
  closer_closes c kind r = at (passing s judged c)
    where
      at : Passing s c → (x : ℕ) × Closed s kind x c
      at (keeping k e) = absurd (grind arith)
      at (opening other q e) = absurd (grind arith)
      at (closing other x l) = let q = l.closer in let same : other ≡ kind = cc in (x, subst (λ k. Closed s k x c) same l)

  held_is_closed : (left x b : ℕ) → b + left ≡ suc (length s) → Holds x (open_before s b) → (c : ℕ) × (kind : FrameKind) × Closed s kind x c
  held_is_closed zero x b e h = let q : b ≡ suc (length s) = omega arith in absurd (subst (Holds x) (ap (open_before s) q ∙ none_open_last s judged) h)
  held_is_closed (suc left) x b e h = ⊎_elim (λ k. held_is_closed left x (suc b) (omega arith) k) (λ k. (b, k.0, k.1)) (held_or_closed x b h)

  pub opener_is_closed : (x : ℕ) (kind : FrameKind) → role_at s x ≡ Opens kind → (c : ℕ) × Closed s kind x c
  opener_is_closed x kind r = at (passing s judged x)
    where
      inside : x ≤ length s
      inside = (not_plain_is_within s x (λ p. grind arith)).1

      at : Passing s x → (c : ℕ) × Closed s kind x c
      at (keeping k e) = absurd (grind arith)
      at (opening other q e) =
          let w = held_is_closed (length s - x) x (suc x) (omega (arith, inside)) (subst (Holds x) (sym e) (inl refl)) in
          let p = w.2.opener in
          let same : w.1 ≡ kind = cc in
          (w.0, subst (λ k. Closed s k x w.0) same w.2)
      at (closing other y l) = let q = l.closer in absurd (grind arith)

  -- an instruction that neither is nor closes the one at a does not change the partner of a
  untouched_by : (a b : ℕ) → (a ≡ b → ⊥) → ((kind : FrameKind) → Closed s kind a b → ⊥) → partner_before s (suc b) a ≡ partner_before s b a
  unfolding partner_before
  untouched_by a b n h = at (passing s judged b)
    where
      at : Passing s b → paired b (closed_by (role_at s b) (open_before s b)) a (partner_before s b a) ≡ partner_before s b a
      at (keeping k e) = rw (keeping_closes_none (role_at s b) (open_before s b) k)
      at (opening kind r e) = rw r
      at (closing kind x l) = rw (closed_by_lem l) (paired_other b a (partner_before s b a) x (λ e. h kind (subst (λ n. Closed s kind n b) (sym e) l)) n)

  untouched_from : (a b c : ℕ) → b ≤ c → ((d : ℕ) → b ≤ d → (a ≡ d → ⊥) × ((kind : FrameKind) → Closed s kind a d → ⊥)) → partner_before s c a ≡ partner_before s b a
  untouched_from a b zero l h = let e : zero ≡ b = omega arith in ap (λ n. partner_before s n a) e
  untouched_from a b (suc c) l h =
      ⊎_elim
      (λ k. let e : suc c ≡ b = omega arith in ap (λ n. partner_before s n a) e)
      (λ k. untouched_by a c (h c k).0 (h c k).1 ∙ untouched_from a b c k h)
      (cases_lt c b)

  pub partners : {kind : FrameKind} {x c : ℕ} → Closed s kind x c → (partner s x ≡ c) × (partner s c ≡ x)
  unfolding partner_before
  partners {kind} {x} {c} l =
      let i = closed_is_within l in
      let o : x < c = l.order in
      let own = paired_own c x (partner_before s c x) (partner_before s c c) o in (
        untouched_from x (suc c) (suc (length s)) (omega arith) (λ d u. ((λ e. omega arith), λ k r. let e : c ≡ d = closed_once l r in omega arith)) ∙ rw (closed_by_lem l) own.0,
        untouched_from c (suc c) (suc (length s)) (omega arith) (λ d u. ((λ e. omega arith), λ k r. let q = r.opener in let p = l.closer in grind arith)) ∙ rw (closed_by_lem l) own.1,
      )
