-- How the frames that stand open came to be: which opener each has, what stood open outside of it, and which branches of a fork are ended.
use Rattle.std.proofs.Common.{◌≡◌, ℕ, zero, suc, ◌+◌, ◌-◌, ◌<◌, ◌≤◌, true, false, List, [], ◌∷◌, Ok, sym, refl, ap, ◌∙◌, subst, ⊎_elim, add-one, arith}
use Rattle.std.proofs.lemmas.Bool.{cases_lt, both_ways}
use Rattle.instruction.specs.declared.instruction.Instruction.{Instruction}
use Rattle.script.specs.declared.role.FrameKind.{FrameKind}
use Rattle.script.specs.declared.role.FrameKind.TheVariants.{Procedure, Branch, Forked}
use Rattle.script.specs.declared.role.Role.{Role}
use Rattle.script.specs.declared.role.Role.TheVariants.{Opens, Closes}
use Rattle.script.specs.declared.frames.Frame.{Frame}
use Rattle.script.specs.Roles.{is_forked, before_branch, after_branch}
use Rattle.script.specs.Frames.{role_at, beside_by, opened, right_count, counted, without, frames_judged}
use Rattle.script.specs.Regions.{open_before}
use Rattle.script.proofs.OpenFrames.{keeps, Step, stays, opens, closes, step, stands_beside}

-- the opener at x is closed at c
pub record Closed (s : List Instruction) (kind : FrameKind) (x c : ℕ) : Type 0 where
  pub order : x < c
  pub opener : role_at s x ≡ Opens kind
  pub closer : role_at s c ≡ Closes kind
  pub count : ℕ
  pub counts : right_count kind count ≡ true
  pub before : open_before s c ≡ opened kind x count ∷ open_before s x
  pub behind : open_before s (suc c) ≡ without kind (open_before s x)

-- from a on there are k branches, each directly behind the other, up to b
pub data Chain (s : List Instruction) : ℕ → ℕ → ℕ → Type 0 where
  done : {a : ℕ} → Chain s a 0 a
  onward : {a c k b : ℕ} → Closed s Branch a c → Chain s (suc c) k b → Chain s a (suc k) b

one_branch_more : {s : List Instruction} {a k b c : ℕ} → Chain s a k b → Closed s Branch b c → Chain s a (suc k) (suc c)
one_branch_more done l = onward l done
one_branch_more (onward first rest) l = onward first (one_branch_more rest l)

-- the innermost frame that stands open before b, with the frames outside of it: a fork is innermost only directly behind it or its last branch
record Formed (s : List Instruction) (b : ℕ) (f : Frame) (fs : List Frame) : Type 0 where
  pub early : f.address < b
  pub opener : role_at s f.address ≡ Opens f.kind
  pub outside : fs ≡ open_before s f.address
  pub ended : is_forked f.kind ≡ true → Chain s (suc f.address) f.branches b

abbrev InnermostFormed : List Instruction → ℕ → List Frame → Type 0
InnermostFormed s b [] = Unit {0}
InnermostFormed s b (f ∷ fs) = Formed s b f fs

-- what happens at an address: the frames that stand open are kept, one is opened, or one is closed
pub data Passing (s : List Instruction) (b : ℕ) : Type 0 where
  keeping : keeps (role_at s b) ≡ true → open_before s (suc b) ≡ open_before s b → Passing s b
  opening : (kind : FrameKind) → role_at s b ≡ Opens kind → open_before s (suc b) ≡ opened kind b 0 ∷ open_before s b → Passing s b
  closing : (kind : FrameKind) (x : ℕ) → Closed s kind x b → Passing s b

-- a fork or par end stands before a par begin or merge
split_is_joined : (r before after : Role) → before_branch r ≡ true → beside_by r before after ≡ true → after_branch after ≡ true
split_is_joined r before after h b = grind arith

keeping_is_no_joining : (r : Role) → keeps r ≡ true → after_branch r ≡ false
keeping_is_no_joining r h = grind arith

module _ (s : List Instruction) (judged : frames_judged s ≡ Ok tt) where
  split_then_after_branch : (a : ℕ) → before_branch (role_at s a) ≡ true → after_branch (role_at s (suc a)) ≡ true
  split_then_after_branch a h = subst (λ n. after_branch (role_at s n) ≡ true) (add-one a) (split_is_joined (role_at s a) (role_at s (a - 1)) (role_at s (a + 1)) h (stands_beside s judged a))

  chain_then_after_branch : {a k b : ℕ} → Chain s a k b → after_branch (role_at s a) ≡ true → after_branch (role_at s b) ≡ true
  chain_then_after_branch done h = h
  chain_then_after_branch (onward {c = c} first rest) h = chain_then_after_branch rest (split_then_after_branch c (ap before_branch first.closer))

  -- so an instruction that is no par begin or merge does not stand directly in a fork, and what was formed stays so
  stays_formed : (b c : ℕ) (fs : List Frame) → b < c → after_branch (role_at s b) ≡ false → InnermostFormed s b fs → InnermostFormed s c fs
  stays_formed b c [] l j w = tt
  stays_formed b c (f ∷ fs) l j w =
      let e : f.address < b = w.early in
      record {
        early = omega arith;
        opener = w.opener;
        outside = w.outside;
        ended = λ h. absurd (both_ways (after_branch (role_at s b)) j (chain_then_after_branch (w.ended h) (split_then_after_branch f.address (ap before_branch w.opener ∙ h))));
      }

  -- the frames that stand open are formed at every address
  closed_here : (c : ℕ) (f : Frame) (fs : List Frame) → Formed s c f fs → role_at s c ≡ Closes f.kind → right_count f.kind f.branches ≡ true
      → open_before s c ≡ f ∷ fs → open_before s (suc c) ≡ without f.kind fs → Closed s f.kind f.address c
  closed_here c f fs w r n e g = grind arith

  branch_counted : (x c : ℕ) (fs : List Frame) → Closed s Branch x c → InnermostFormed s x fs → InnermostFormed s (suc c) (counted fs)
  branch_counted x c [] l w = tt
  branch_counted x c (f ∷ fs) l w =
      let e : f.address < x = w.early in
      let o : x < c = l.order in
      record { early = omega arith; opener = w.opener; outside = w.outside; ended = λ h. one_branch_more (w.ended h) l }

  closed_formed : (kind : FrameKind) (x c : ℕ) → Closed s kind x c → InnermostFormed s x (open_before s x) → InnermostFormed s (suc c) (without kind (open_before s x))
  closed_formed (Procedure p) x c l w = stays_formed x (suc c) (open_before s x) (omega (arith, l.order)) (ap after_branch l.opener) w
  closed_formed Branch x c l w = branch_counted x c (open_before s x) l w
  closed_formed (Forked n) x c l w = stays_formed x (suc c) (open_before s x) (omega (arith, l.order)) (ap after_branch l.opener) w

  formed_next : (b : ℕ) → ((x : ℕ) → x ≤ b → InnermostFormed s x (open_before s x)) → InnermostFormed s (suc b) (open_before s (suc b))
  formed_next b earlier = at (step s judged b)
    where
      at : Step (role_at s b) b (open_before s b) (open_before s (suc b)) → InnermostFormed s (suc b) (open_before s (suc b))
      at (stays k e) = subst (InnermostFormed s (suc b)) (sym e) (stays_formed b (suc b) (open_before s b) (omega arith) (keeping_is_no_joining (role_at s b) k) (earlier b (omega arith)))
      at (opens kind r e) = subst (InnermostFormed s (suc b)) (sym e) (record { early = omega arith; opener = r; outside = refl; ended = λ h. done })
      at (closes f rest r n e g) =
          let l = closed_here b f rest (subst (InnermostFormed s b) e (earlier b (omega arith))) r n e g in
          let o : f.address < b = l.order in
          subst (InnermostFormed s (suc b)) (sym l.behind) (closed_formed f.kind f.address b l (earlier f.address (omega arith)))

  formed_up_to : (b x : ℕ) → x ≤ b → InnermostFormed s x (open_before s x)
  unfolding open_before
  formed_up_to zero zero l = tt
  formed_up_to zero (suc x) l = absurd (omega arith)
  formed_up_to (suc b) x l =
      ⊎_elim
      (λ h. let e : suc b ≡ x = omega arith in subst (λ n. InnermostFormed s n (open_before s n)) e (formed_next b (formed_up_to b)))
      (λ h. formed_up_to b x h)
      (cases_lt b x)

  formed : (b : ℕ) → InnermostFormed s b (open_before s b)
  formed b = formed_up_to b b (omega arith)

  pub passing : (b : ℕ) → Passing s b
  passing b = at (step s judged b)
    where
      at : Step (role_at s b) b (open_before s b) (open_before s (suc b)) → Passing s b
      at (stays k e) = keeping k e
      at (opens kind r e) = opening kind r e
      at (closes f rest r n e g) = closing f.kind f.address (closed_here b f rest (subst (InnermostFormed s b) e (formed b)) r n e g)

  -- a merge stands directly behind the last branch of its fork
  pub branches_up_to_merge : (n f m : ℕ) (l : Closed s (Forked n) f m) → Chain s (suc f) l.count m
  branches_up_to_merge n f m l =
      let w : Formed s m (opened (Forked n) f l.count) (open_before s f) = subst (InnermostFormed s m) l.before (formed m) in
      w.ended refl
