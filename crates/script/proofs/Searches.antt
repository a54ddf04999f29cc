-- A search through the addresses of a script.
use Rattle.std.proofs.Common.{◌≡◌, ℕ, zero, suc, ◌+◌, ◌-◌, ◌<◌, Bool, true, false, not, Some, ◌||◌, List, length, get_or, take, sym, refl, ap, ◌∙◌, subst, ⊎_elim, arith}
use Rattle.std.proofs.lemmas.Bool.{cases_eq, cases_lt, or_cases, or_from, or_left, or_right}
use Rattle.std.proofs.Math.Bool.{or_comm}
use Rattle.std.proofs.lemmas.List.{take_all, get_or_past}
use Rattle.std.proofs.lemmas.List.Folds.{list_any_more}
use Rattle.std.specs.List.{list_any}
use Rattle.instruction.specs.declared.instruction.Instruction.TheVariants.{Nop}
use Rattle.instruction.specs.declared.instruction.Instruction.{Instruction}
use Rattle.script.specs.Scripts.{instruction_at, some_before}
use Rattle.script.specs.Roles.{role_of, given_name, block_name, is_named}
use Rattle.script.specs.Frames.{role_at, fresh_name, fresh}
use Rattle.script.specs.References.{has_block}

list_any_one_more : (test : Instruction → Bool) (s : List Instruction) (k : ℕ) → test Nop ≡ false → list_any test (take (k + 1) s) ≡ (test (get_or s k Nop) || list_any test (take k s))
list_any_one_more test s k n =
    ⊎_elim
    (λ h. list_any_more test s k Nop h ∙ or_comm (list_any test (take k s)) (test (get_or s k Nop)))
    (λ h. ap (list_any test) (take_all (k + 1) s (omega arith) ∙ sym (take_all k s h)) ∙ ap (λ b. b || list_any test (take k s)) (sym (ap test (get_or_past s k Nop h) ∙ n)))
    (cases_lt k (length s))

-- where nop does not pass, a search before an address is one through the instructions before it
pub list_any-earlier : (test : Instruction → Bool) (s : List Instruction) (a : ℕ) → test Nop ≡ false → list_any test (take (a - 1) s) ≡ some_before test s a
list_any-earlier test s zero n = refl
list_any-earlier test s (suc zero) n = sym (or_from _ _ n refl)
list_any-earlier test s (suc (suc a)) n =
    let e : suc (suc a) - 1 ≡ a + 1 = omega arith in
    let f : a ≡ suc a - 1 = omega arith in
    ap (λ k. list_any test (take k s)) e
    ∙ list_any_one_more test s a n
    ∙ ap (λ k. test (get_or s a Nop) || list_any test (take k s)) f
    ∙ ap (λ b. test (get_or s a Nop) || b) (list_any-earlier test s (suc a) n)

pub one_before : (test : Instruction → Bool) (s : List Instruction) (a n : ℕ) → a < n → test (instruction_at s a) ≡ true → true ≡ some_before test s n
one_before test s a zero h k = absurd (omega arith)
one_before test s a (suc n) h k =
    sym (⊎_elim (λ e. or_left _ _ (subst (λ b. test (instruction_at s b) ≡ true) e k)) (λ ne. or_right (test (instruction_at s n)) _ (sym (one_before test s a n (omega arith) k))) (cases_eq a n))

pub found_before : (test : Instruction → Bool) (s : List Instruction) (n : ℕ) → some_before test s n ≡ true → (a : ℕ) × (test (instruction_at s a) ≡ true)
found_before test s zero h = absurd (cc)
found_before test s (suc n) h = ⊎_elim (λ e. (n, e)) (λ e. found_before test s n e) (or_cases (test (instruction_at s n)) (some_before test s n) h)

-- the names that instructions give
pub not-list_any-earlier : (s : List Instruction) (a n : ℕ) → given_name (role_at s a) ≡ Some n → not (list_any (λ i. is_named n (given_name (role_of i))) (take (a - 1) s)) ≡ fresh s a
not-list_any-earlier s a n e = ap not (list_any-earlier (λ i. is_named n (given_name (role_of i))) s a refl) ∙ ap (fresh_name s a) (sym e)

pub list_any-block : (s : List Instruction) (b : ℕ) → list_any (λ i. is_named b (block_name (role_of i))) s ≡ has_block s b
list_any-block s b =
    ap (list_any (λ i. is_named b (block_name (role_of i)))) (sym (take_all (suc (length s) - 1) s (omega arith)))
    ∙ list_any-earlier (λ i. is_named b (block_name (role_of i))) s (suc (length s)) refl
