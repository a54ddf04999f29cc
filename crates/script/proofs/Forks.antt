-- A fork, its branches and its merge.
use Rattle.std.proofs.Common.{◌≡◌, ℕ, zero, suc, ◌+◌, ◌<◌, ◌≤◌, true, false, List, [], ◌∷◌, length, get_or, Ok, sym, refl, ap, ◌∙◌, subst, arith}
use Rattle.instruction.specs.declared.instruction.Instruction.{Instruction}
use Rattle.instruction.specs.declared.instruction.Instruction.TheVariants.{ParEnd}
use Rattle.script.specs.declared.role.FrameKind.{FrameKind}
use Rattle.script.specs.declared.role.FrameKind.TheVariants.{Branch, Forked}
use Rattle.script.specs.declared.role.Role.TheVariants.{Opens, Closes}
use Rattle.script.specs.Scripts.{instruction_at}
use Rattle.script.specs.Roles.{role_of, begins_branch}
use Rattle.script.specs.Frames.{role_at, frames_judged, right_count}
use Rattle.script.specs.Regions.{open_before, region, region_from, innermost, partner}
use Rattle.script.specs.Flow.{branches_from, BranchOf, ForkAt, behind}
use Rattle.script.proofs.Nesting.{Closed, Chain, done, onward, branches_up_to_merge}
use Rattle.script.proofs.Partners.{closed_is_within, closed_once, closer_closes, opener_is_closed, partners}
use Rattle.script.proofs.RoleInstructions.{instruction_by_role}

-- an opener and its closer are of one region, which for a procedure or branch is its own
pub opener_region : (s : List Instruction) (x : ℕ) (kind : FrameKind) → role_at s x ≡ Opens kind → region s x ≡ region_from kind x (innermost (open_before s x))
unfolding region
opener_region s x kind r = rw r

pub closer_region : {s : List Instruction} {kind : FrameKind} {x c : ℕ} → Closed s kind x c → region s c ≡ region s x
unfolding region
closer_region l = rw (l.closer, l.before, l.opener)

right_count_is_two_to_seven : (n k : ℕ) → right_count (Forked n) k ≡ true → (2 ≤ k) × (k ≤ 7)
right_count_is_two_to_seven n k e = grind arith

-- a branch that stands between a and m
record Within (s : List Instruction) (a m begin end : ℕ) : Type 0 where
  pub behind : a ≤ begin
  pub whole : Closed s Branch begin end
  pub ahead : end < m

-- the branches that are listed from a on are those of the chain up to m
chain_is_long : {s : List Instruction} {a k m : ℕ} → Chain s a k m → a + k ≤ m
chain_is_long done = omega arith
chain_is_long (onward l rest) = let u = chain_is_long rest in let o = l.order in omega arith

record Listed (s : List Instruction) (a m k : ℕ) (bs : List (ℕ × ℕ)) : Type 0 where
  pub count : length bs ≡ k
  pub directly : behind a bs ≡ m
  pub each : (j : ℕ) → j < length bs → Within s a m (get_or bs j (0, 0)).0 (get_or bs j (0, 0)).1

one_more_listed : (s : List Instruction) (a c m k : ℕ) (bs : List (ℕ × ℕ)) → Closed s Branch a c → Chain s (suc c) k m → Listed s (suc c) m k bs → Listed s a m (suc k) ((a, c) ∷ bs)
one_more_listed s a c m k bs l rest others = grind arith

module _ (s : List Instruction) (judged : frames_judged s ≡ Ok tt) where
  no_branch_here : (a most : ℕ) → begins_branch (role_at s a) ≡ false → branches_from s most a ≡ []
  unfolding branches_from
  no_branch_here a most b = grind arith

  branch_here : (a c most : ℕ) → Closed s Branch a c → branches_from s (suc most) a ≡ (a, c) ∷ branches_from s most (suc c)
  unfolding branches_from
  branch_here a c most l = rw (l.opener, (partners s judged l).0)

  chain_is_listed : (a k m most : ℕ) → Chain s a k m → begins_branch (role_at s m) ≡ false → k ≤ most → Listed s a m k (branches_from s most a)
  chain_is_listed a k m most done b u = subst (Listed s a m 0) (sym (no_branch_here a most b)) (record { count = refl; directly = refl; each = λ j l. absurd (omega arith) })
  chain_is_listed a k m zero (onward l rest) b u = absurd (omega arith)
  chain_is_listed a k m (suc most) (onward {c = c} {k = n} l rest) b u =
      subst (Listed s a m k) (sym (branch_here a c most l)) (one_more_listed s a c m n (branches_from s most (suc c)) l rest (chain_is_listed (suc c) n m most rest b (omega arith)))

  -- each has what a branch has to have
  branch_within : (f m begin end : ℕ) → partner s f ≡ m → Within s (suc f) m begin end → BranchOf s f begin end
  branch_within f m begin end p w =
      let l = w.whole in
      let b = w.behind in
      let e = w.ahead in
      let o = l.order in
      let own : region s begin ≡ begin = opener_region s begin Branch l.opener in
      record {
        order = (omega arith, omega arith, omega arith);
        begins = instruction_by_role s begin (Opens Branch) l.opener;
        ends = instruction_by_role s end (Closes Branch) l.closer;
        partners = partners s judged l;
        own_region = (own, closer_region l ∙ own);
        only_end = λ a i r. only_end_lem l i r;
      }
    where
      only_end_lem : {a begin end : ℕ} → Closed s Branch begin end → instruction_at s a ≡ ParEnd → region s a ≡ begin → a ≡ end
      only_end_lem {a} {begin} l i r =
          let c = closer_closes s judged a Branch (ap role_of i) in
          let e : c.0 ≡ begin = sym (opener_region s c.0 Branch c.1.opener) ∙ sym (closer_region c.1) ∙ r in
          closed_once s judged (subst (λ x. Closed s Branch x a) e c.1) l

  fork_with_merge : (n f m : ℕ) → Closed s (Forked n) f m → ForkAt s f n
  fork_with_merge n f m l =
      let p = partners s judged l in
      let q : partner s f ≡ m = p.0 in
      let o = l.order in
      let inside = closed_is_within l in
      let chain = branches_up_to_merge s judged n f m l in
      let long = chain_is_long chain in
      let listed = chain_is_listed (suc f) l.count m (length s) chain (ap begins_branch l.closer) (omega arith) in
      let same = listed.count in
      let few = right_count_is_two_to_seven n l.count l.counts in
      record {
        order = (omega arith, omega arith, omega arith);
        merge = ap (instruction_at s) q ∙ instruction_by_role s m (Closes (Forked n)) l.closer;
        back = ap (partner s) q ∙ p.1;
        same_region = ap (region s) q ∙ closer_region l;
        count = (omega arith, omega arith);
        directly = listed.directly ∙ sym q;
        each = λ k u. branch_within f m _ _ q (listed.each k u);
      }

  pub fork_at : (f n : ℕ) → role_at s f ≡ Opens (Forked n) → ForkAt s f n
  fork_at f n r = let w = opener_is_closed s judged f (Forked n) r in fork_with_merge n f w.0 w.1
