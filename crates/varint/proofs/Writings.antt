-- The laws of writings.
use Rattle.std.proofs.Common.{◌≡◌, ℕ, zero, suc, ◌+◌, ◌*◌, ◌/◌, ◌%◌, ◌<◌, ◌≤◌, true, false, cond, ltb, List, [], ◌∷◌, ◌++◌, length, get_or, take, drop, set, sym, refl, ap, ◌∙◌, ⊎_elim, append_assoc, add-one, arith}
use Rattle.std.proofs.lemmas.List.{drop_more, length_push, length-append, length-take-le, set_split, set_at}
use Rattle.std.proofs.lemmas.Bool.{ltb-false, le-ltb, lt-ltb, cases_lt}
use Rattle.varint.specs.Writings.{writing_within, writing}
use Rattle.varint.specs.Written.{Written}

-- room for more groups than a number needs changes nothing
within_same : (f g n : ℕ) → n ≤ f → n ≤ g → writing_within f n ≡ writing_within g n
unfolding writing_within
within_same zero zero n h k = refl
within_same zero (suc g) n h k =
    let e : ltb n 128 ≡ true = lt-ltb n 128 (omega arith) in
    sym (ap (λ b. cond b (n ∷ []) (writing_within g (n / 128) ++ (128 + n % 128) ∷ [])) e)
within_same (suc f) zero n h k =
    let e : ltb n 128 ≡ true = lt-ltb n 128 (omega arith) in
    ap (λ b. cond b (n ∷ []) (writing_within f (n / 128) ++ (128 + n % 128) ∷ [])) e
within_same (suc f) (suc g) n h k =
    elim (ltb n 128) as (λ b. ltb n 128 ≡ b → cond b (n ∷ []) (writing_within f (n / 128) ++ (128 + n % 128) ∷ []) ≡ cond b (n ∷ []) (writing_within g (n / 128) ++ (128 + n % 128) ∷ [])) [
      | true ↦ λ e. refl
      | false ↦ λ e.
          let l = ltb-false n 128 e in
          ap (λ p. p ++ (128 + n % 128) ∷ []) (within_same f g (n / 128) (omega arith) (omega arith))
    ] refl

pub writing_small : (n : ℕ) → n < 128 → writing n ≡ n ∷ []
unfolding writing writing_within
writing_small zero h = refl
writing_small (suc m) h = ap (λ b. cond b (suc m ∷ []) (writing_within m (suc m / 128) ++ (128 + suc m % 128) ∷ [])) (lt-ltb (suc m) 128 h)

pub writing_step : (n : ℕ) → 128 ≤ n → writing n ≡ writing (n / 128) ++ (128 + n % 128) ∷ []
unfolding writing writing_within
writing_step zero h = absurd (omega arith)
writing_step (suc m) h =
    ap (λ b. cond b (suc m ∷ []) (writing_within m (suc m / 128) ++ (128 + suc m % 128) ∷ [])) (le-ltb (suc m) 128 h)
    ∙ ap (λ p. p ++ (128 + suc m % 128) ∷ []) (within_same m (suc m / 128) (suc m / 128) (omega arith) (omega arith))

-- one group more
pub writing_more : (v g : ℕ) → 0 < v → g < 128 → writing (v * 128 + g) ≡ writing v ++ (128 + g) ∷ []
writing_more v g p h =
    let q : (v * 128 + g) / 128 ≡ v = omega arith in
    let r : (v * 128 + g) % 128 ≡ g = omega arith in
    writing_step (v * 128 + g) (omega arith) ∙ (λ i. writing (q i) ++ (128 + r i) ∷ [])

-- how long a writing is
pub size_small : (n : ℕ) → n < 128 → length (writing n) ≡ 1
size_small n h = ap length (writing_small n h)

pub size_step : (n : ℕ) → 128 ≤ n → length (writing n) ≡ length (writing (n / 128)) + 1
size_step n h = ap length (writing_step n h) ∙ length_push (writing (n / 128)) (128 + n % 128)

-- a number of k groups less the last has k - 1 of them, from `low / 128` to `high / 128`
size_next : (n k low high : ℕ) → ((m : ℕ) → low ≤ m → m < high → length (writing m) ≡ k) → 0 < low → low * 128 ≤ n → n < high * 128 → length (writing n) ≡ k + 1
size_next n k low high f p l h = size_step n (omega arith) ∙ ap (λ s. s + 1) (f (n / 128) (omega arith) (omega arith))

pub size_2 : (n : ℕ) → 128 ≤ n → n < 16384 → length (writing n) ≡ 2
size_2 n l h = size_next n 1 1 128 (λ m _ k. size_small m k) (omega arith) l h

pub size_3 : (n : ℕ) → 16384 ≤ n → n < 2097152 → length (writing n) ≡ 3
size_3 n l h = size_next n 2 128 16384 size_2 (omega arith) l h

pub size_4 : (n : ℕ) → 2097152 ≤ n → n < 268435456 → length (writing n) ≡ 4
size_4 n l h = size_next n 3 16384 2097152 size_3 (omega arith) l h

pub size_5 : (n : ℕ) → 268435456 ≤ n → n < 34359738368 → length (writing n) ≡ 5
size_5 n l h = size_next n 4 2097152 268435456 size_4 (omega arith) l h

pub ruleset sizes = (size_small, size_2, size_3, size_4, size_5)

pub size_most : (n : ℕ) → n < 4294967296 → length (writing n) ≤ 5
size_most n h =
    ⊎_elim (λ l. omega (arith, size_small n l)) (λ g.
    ⊎_elim (λ l. omega (arith, size_2 n g l)) (λ g.
    ⊎_elim (λ l. omega (arith, size_3 n g l)) (λ g.
    ⊎_elim (λ l. omega (arith, size_4 n g l)) (λ g. omega (arith, size_5 n g (omega arith)))
    (cases_lt n 268435456)) (cases_lt n 2097152)) (cases_lt n 16384)) (cases_lt n 128)

pub size_least : (n : ℕ) → 0 < length (writing n)
size_least n = ⊎_elim (λ h. omega (arith, size_small n h)) (λ h. omega (arith, size_step n h)) (cases_lt n 128)

-- the steps of a writer from the place `at` on: the last group is written behind the others
pub put_small : (xs : List ℕ) (at n : ℕ) → at < length xs → n < 128 → Written xs at (writing n) (at + 1) (set xs at n)
put_small xs at n h l = record {
  ends = omega (arith, size_small n l);
  within = omega arith;
  bytes = set_split xs at n h ∙ ap (λ k. take at xs ++ n ∷ drop k xs) (sym (add-one at)) ∙ ap (λ p. take at xs ++ (p ++ drop (at + 1) xs)) (sym (writing_small n l));
}

pub put_more : (xs ys : List ℕ) (at last n : ℕ) → Written xs at (writing (n / 128)) last ys → last < length xs → 128 ≤ n → Written xs at (writing n) (last + 1) (set ys last (128 + n % 128))
put_more xs ys at last n w h l =
    let high : List ℕ = writing (n / 128) in
    let after : List ℕ = drop (last + 1) xs in
    let a : length (take at xs ++ high) ≡ last = length-append (take at xs) high ∙ ap (λ k. k + length high) (length-take-le at xs (omega (arith, w.ends))) ∙ sym w.ends in
    record {
      ends = omega (arith, size_step n l, w.ends);
      within = omega arith;
      bytes =
          ap (λ t. set t last (128 + n % 128)) (w.bytes ∙ sym (append_assoc (take at xs) high (drop last xs)) ∙ ap (λ t. (take at xs ++ high) ++ t) (drop_more xs last 0 h))
          ∙ set_at (take at xs ++ high) (get_or xs last 0) after (128 + n % 128) last a
          ∙ append_assoc (take at xs) high ((128 + n % 128) ∷ after)
          ∙ ap (λ t. take at xs ++ t) (sym (append_assoc high ((128 + n % 128) ∷ []) after))
          ∙ ap (λ t. take at xs ++ (t ++ after)) (sym (writing_step n l));
    }

pub ruleset puts = (size_small, size_step, put_small, put_more)
