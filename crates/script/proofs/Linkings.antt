-- The tables keep pace with the frames that are judged.
use Rattle.std.proofs.Common.{◌≡◌, ℕ, suc, ◌+◌, ◌-◌, ◌<◌, ◌≤◌, true, false, List, [], ◌∷◌, length, get_or, set, replicate, Some, None, Ok, Err, Option, sym, refl, ap, ◌∙◌, subst, add-one, arith}
use Rattle.std.proofs.lemmas.List.{get_or-replicate}
use Rattle.std.proofs.lemmas.Grind.{common_steps}
use Rattle.instruction.specs.declared.instruction.Instruction.{Instruction}
use Rattle.script.specs.declared.role.Role.{Role}
use Rattle.script.specs.declared.frames.Frame.{Frame}
use Rattle.script.specs.declared.links.Links.{Links}
use Rattle.script.specs.declared.refusal.ImageRefusal.TheVariants.{BrokenFrame}
use Rattle.script.specs.Frames.{role_at, frames_after, all_closed, go_on, frames_from, frames_judged}
use Rattle.script.specs.Regions.{open_before, around, innermost, region, closed_by, paired, partner_before}
use Rattle.script.specs.Framing.{is_empty, Countable}
use Rattle.script.specs.Linking.{OpenedBefore, paired_in, JudgedAt}
use Rattle.script.specs.Held.{HasPartners, HasRegions}
use Rattle.script.proofs.Outside.{open_opened_before}

-- what is known before an address is judged
pub record LinkedBefore (s : List Instruction) (a : ℕ) (links : Links) : Type 0 where
  pub frames : links.frames ≡ open_before s a
  pub partners : (k : ℕ) → k < 1024 → get_or links.partners k 0 ≡ partner_before s a (suc k)
  pub regions : (k : ℕ) → suc k < a → get_or links.regions k 0 ≡ region s (suc k)
  pub judged : frames_judged s ≡ frames_from s (suc (length s) - a) a links.frames

nothing_open_at_first : (s : List Instruction) → open_before s 1 ≡ []
unfolding open_before
nothing_open_at_first s = refl

no_partners_at_first : (s : List Instruction) (a : ℕ) → partner_before s 1 a ≡ 0
unfolding partner_before open_before
no_partners_at_first s a = refl

pub linked_at_first : (s : List Instruction) (links : Links) → links.frames ≡ [] → links.partners ≡ replicate 1024 0 → LinkedBefore s 1 links
linked_at_first s links e p = record {
  frames = e ∙ sym (nothing_open_at_first s);
  partners = λ k h. ap (λ t. get_or t k 0) p ∙ get_or-replicate 1024 k 0 0 h ∙ sym (no_partners_at_first s (suc k));
  regions = λ k h. absurd (omega arith);
  judged = let n : suc (length s) - 1 ≡ length s = omega arith in λ i. frames_from s (sym n i) 1 (sym e i);
}

-- no branch count of theirs can run over
pub countable_opened : (b : ℕ) (fs : List Frame) → b ≤ 1024 → OpenedBefore b fs → Countable fs
countable_opened b [] l h = tt
countable_opened b (f ∷ fs) l h = (omega (arith, h.2), countable_opened b fs l h.3)

-- one closer more in the table of partners
paired_in_lem : (r : Role) (fs : List Frame) (table : List ℕ) (a k : ℕ) → length table ≡ 1024 → 1 ≤ a → a ≤ 1024 → OpenedBefore a fs → k < 1024
    → get_or (paired_in a (closed_by r fs) table) k 0 ≡ paired a (closed_by r fs) (suc k) (get_or table k 0)
paired_in_lem r fs table a k l c d o h = grind (arith, common_steps)

-- one turn of the judging
open_next : (s : List Instruction) (a : ℕ) (fs gs : List Frame) → fs ≡ open_before s a → frames_after s a fs ≡ Some gs → gs ≡ open_before s (suc a)
unfolding open_before
open_next s a fs gs e n = grind (arith, common_steps)

judged_next : (s : List Instruction) (a : ℕ) (fs : List Frame) (o : Option (List Frame)) → a ≤ length s → frames_after s a fs ≡ o
    → frames_from s (suc (length s) - a) a fs ≡ go_on a o (λ gs. frames_from s (suc (length s) - suc a) (suc a) gs)
unfolding frames_from
judged_next s a fs o h e = grind arith

partners_next : (s : List Instruction) (a k : ℕ) (fs : List Frame) → fs ≡ open_before s a → paired a (closed_by (role_at s a) fs) k (partner_before s a k) ≡ partner_before s (suc a) k
unfolding partner_before
partners_next s a k fs e = ap (λ t. paired a (closed_by (role_at s a) t) k (partner_before s a k)) e

region_next : (s : List Instruction) (a : ℕ) (fs : List Frame) → fs ≡ open_before s a → innermost (around (role_at s a) a fs) ≡ region s a
unfolding region
region_next s a fs e = ap (λ t. innermost (around (role_at s a) a t)) e

regions_next : (s : List Instruction) (a k : ℕ) (table : List ℕ) (here : ℕ) → length table ≡ 1024 → 1 ≤ a → a ≤ 1024 → here ≡ region s a → ((j : ℕ) → suc j < a → get_or table j 0 ≡ region s (suc j)) → suc k < suc a
    → get_or (set table (a - 1) here) k 0 ≡ region s (suc k)
regions_next s a k table here l c d e f h = grind (arith, common_steps)

pub opened_linked : (s : List Instruction) (a : ℕ) (links : Links) → LinkedBefore s a links → OpenedBefore a links.frames
opened_linked s a links h = subst (OpenedBefore a) (sym h.frames) (open_opened_before s a)

pub linked_turn : (s : List Instruction) (a : ℕ) (from to : Links) → 1 ≤ a → a ≤ length s → a ≤ 1024 → LinkedBefore s a from → JudgedAt s a from (Ok tt) to → LinkedBefore s (a + 1) to
linked_turn s a from to l h m b t =
    subst (λ n. LinkedBefore s n to) (sym (add-one a))
    record {
      frames = open_next s a from.frames to.frames b.frames t.0;
      partners = λ k q. ap (λ table. get_or table k 0) t.1.1
          ∙ paired_in_lem (role_at s a) from.frames from.partners a k from.partner_table l m (opened_linked s a from b) q
          ∙ ap (paired a (closed_by (role_at s a) from.frames) (suc k)) (b.partners k q)
          ∙ partners_next s a (suc k) from.frames b.frames;
      regions = λ k q. ap (λ table. get_or table k 0) t.1.0
          ∙ regions_next s a k from.regions (innermost (around (role_at s a) a from.frames)) from.region_table l m (region_next s a from.frames b.frames) b.regions q;
      judged = b.judged ∙ judged_next s a from.frames (Some to.frames) h t.0;
    }

-- what is refused, and what is found at the end
pub refused_frames : (s : List Instruction) (a : ℕ) (links : Links) → a ≤ length s → LinkedBefore s a links → frames_after s a links.frames ≡ None → frames_judged s ≡ Err (BrokenFrame a)
refused_frames s a links h b e = b.judged ∙ judged_next s a links.frames None h e

judged_end : (s : List Instruction) (a : ℕ) (fs : List Frame) → a ≡ suc (length s) → frames_from s (suc (length s) - a) a fs ≡ all_closed a fs
unfolding frames_from
judged_end s a fs e = grind arith

closed_or_not : (a : ℕ) (fs : List Frame) → (is_empty fs ≡ true → all_closed a fs ≡ Ok tt) × (is_empty fs ≡ false → all_closed a fs ≡ Err (BrokenFrame a))
closed_or_not a fs = grind (arith, common_steps)

pub left_open : (s : List Instruction) (a end : ℕ) (links : Links) → end ≡ length s + 1 → a ≡ end → LinkedBefore s a links → is_empty links.frames ≡ false → frames_judged s ≡ Err (BrokenFrame end)
left_open s a end links e q b h = b.judged ∙ judged_end s a links.frames (omega arith) ∙ (closed_or_not a links.frames).1 h ∙ ap (λ n. Err (BrokenFrame n)) q

pub linked_all : (s : List Instruction) (a : ℕ) (links : Links) → length s ≤ 1024 → a ≡ length s + 1 → LinkedBefore s a links → is_empty links.frames ≡ true → (frames_judged s ≡ Ok tt) × HasPartners s links.partners × HasRegions s links.regions
linked_all s a links l e b h =
    let n : a ≡ suc (length s) = omega arith in (
      b.judged ∙ judged_end s a links.frames n ∙ (closed_or_not a links.frames).0 h,
      λ k q. b.partners k (omega arith) ∙ ap (λ m. partner_before s m (suc k)) n,
      λ k q. b.regions k (omega arith),
    )
