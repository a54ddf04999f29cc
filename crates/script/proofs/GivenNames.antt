-- A name is given once in a script whose frames are judged to be right.
use Rattle.std.proofs.Common.{◌≡◌, ℕ, ◌<◌, true, not, List, Some, Ok, sym, refl, ap, ◌∙◌, ⊎_elim}
use Rattle.std.proofs.lemmas.Bool.{cases_order, not-true, both_ways, eq-eqb}
use Rattle.instruction.specs.declared.instruction.Instruction.{Instruction}
use Rattle.script.specs.Roles.{role_of, given_name, is_named}
use Rattle.script.specs.Frames.{role_at, given_before, fresh_name, frames_judged}
use Rattle.script.proofs.Searches.{one_before}
use Rattle.script.proofs.OpenFrames.{gives_a_fresh_name}

module _ (s : List Instruction) (judged : frames_judged s ≡ Ok tt) where
  not_given_again : (a b n : ℕ) → given_name (role_at s a) ≡ Some n → given_name (role_at s b) ≡ Some n → a < b → ⊥
  not_given_again a b n e f l =
      let before : given_before s b n ≡ true = sym (one_before (λ i. is_named n (given_name (role_of i))) s a b l (ap (is_named n) e ∙ eq-eqb n n refl)) in
      let none : not (given_before s b n) ≡ true = sym (ap (fresh_name s b) f) ∙ gives_a_fresh_name s judged b in
      both_ways (given_before s b n) (not-true (given_before s b n) none) before

  pub given_once : (a b n : ℕ) → given_name (role_at s a) ≡ Some n → given_name (role_at s b) ≡ Some n → a ≡ b
  given_once a b n e f =
      ⊎_elim (λ q. q) (λ o. ⊎_elim (λ l. absurd (not_given_again a b n e f l)) (λ l. absurd (not_given_again b a n f e l)) o) (cases_order a b)
