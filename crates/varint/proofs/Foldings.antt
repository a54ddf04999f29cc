-- Folding and unfolding undo each other.
use Rattle.std.proofs.Common.{◌≡◌, ℕ, ◌+◌, ◌*◌, ◌/◌, ◌%◌, ◌<◌, true, false, cond, eqb, ℤ, pos, negsuc, refl, ap, ◌∙◌, arith, w32, SFits}
use lib.Signed.{mag}
use Rattle.std.proofs.lemmas.Bool.{eqb-true, eqb-false, eq-eqb, ne_eqb}
use Rattle.varint.specs.Zigzag.{folded, unfolded}

pub unfolded_folded : (n : ℤ) → unfolded (folded n) ≡ n
unfolded_folded (pos n) =
    let e : eqb (2 * n % 2) 0 ≡ true = eq-eqb (2 * n % 2) 0 (omega arith) in
    let h : 2 * n / 2 ≡ n = omega arith in
    ap (λ b. cond b (pos (2 * n / 2)) (negsuc (2 * n / 2))) e ∙ ap pos h
unfolded_folded (negsuc n) =
    let e : eqb ((2 * n + 1) % 2) 0 ≡ false = ne_eqb ((2 * n + 1) % 2) 0 (λ z. omega arith) in
    let h : (2 * n + 1) / 2 ≡ n = omega arith in
    ap (λ b. cond b (pos ((2 * n + 1) / 2)) (negsuc ((2 * n + 1) / 2))) e ∙ ap negsuc h

pub folded_unfolded : (z : ℕ) → folded (unfolded z) ≡ z
folded_unfolded z =
    elim (eqb (z % 2) 0) as (λ b. eqb (z % 2) 0 ≡ b → folded (cond b (pos (z / 2)) (negsuc (z / 2))) ≡ z) [
      | true ↦ λ e. let h = eqb-true (z % 2) 0 e in omega arith
      | false ↦ λ e. let h = eqb-false (z % 2) 0 e in omega arith
    ] refl

pub folded_below : (n : ℤ) → mag n < 2147483648 → folded n < 4294967296
folded_below (pos n) h = omega arith
folded_below (negsuc n) h = omega arith

pub unfolded_fits : (z : ℕ) → z < 4294967296 → SFits w32 (unfolded z)
unfolded_fits z h =
    elim (eqb (z % 2) 0) as (λ b. SFits w32 (cond b (pos (z / 2)) (negsuc (z / 2))))
    [ true ↦ record { sfits = omega arith } | false ↦ record { sfits = omega arith } ]
