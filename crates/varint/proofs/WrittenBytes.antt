-- What stands where bytes were written.
use Rattle.std.proofs.Common.{◌≡◌, ℕ, ◌+◌, ◌-◌, ◌≤◌, List, ◌++◌, length, take, drop, sym, ap, ◌∙◌, append_assoc, arith}
use Rattle.std.proofs.lemmas.List.{length-append, length-take-le, take_at, drop_at, drop-drop}
use Rattle.varint.specs.Written.{Written}

length_front : (xs ys ws : List ℕ) (at end : ℕ) → Written xs at ws end ys → length (take at xs ++ ws) ≡ end
length_front xs ys ws at end w =
    length-append (take at xs) ws ∙ ap (λ n. n + length ws) (length-take-le at xs (omega (arith, w.ends, w.within))) ∙ sym w.ends

in_two : (xs ys ws : List ℕ) (at end : ℕ) → Written xs at ws end ys → ys ≡ (take at xs ++ ws) ++ drop end xs
in_two xs ys ws at end w = w.bytes ∙ sym (append_assoc (take at xs) ws (drop end xs))

-- up to their end, from their begin, and behind them
pub written_front : (xs ys ws : List ℕ) (at end : ℕ) → Written xs at ws end ys → take end ys ≡ take at xs ++ ws
written_front xs ys ws at end w = ap (take end) (in_two xs ys ws at end w) ∙ take_at (take at xs ++ ws) (drop end xs) end (length_front xs ys ws at end w)

pub written_there : (xs ys ws : List ℕ) (at end : ℕ) → Written xs at ws end ys → drop at (take end ys) ≡ ws
written_there xs ys ws at end w =
    ap (drop at) (written_front xs ys ws at end w) ∙ drop_at (take at xs) ws at (length-take-le at xs (omega (arith, w.ends, w.within)))

written_behind : (xs ys ws : List ℕ) (at end n : ℕ) → Written xs at ws end ys → end ≤ n → drop n ys ≡ drop n xs
written_behind xs ys ws at end n w l =
    let k : end + (n - end) ≡ n = omega arith in
    ap (drop n) (in_two xs ys ws at end w)
    ∙ ap (λ m. drop m ((take at xs ++ ws) ++ drop end xs)) (sym k)
    ∙ sym (drop-drop (n - end) end ((take at xs ++ ws) ++ drop end xs))
    ∙ ap (drop (n - end)) (drop_at (take at xs ++ ws) (drop end xs) end (length_front xs ys ws at end w))
    ∙ drop-drop (n - end) end xs
    ∙ ap (λ m. drop m xs) k

-- bytes written right behind others
pub written_joined : (xs ys zs p q : List ℕ) (at mid end : ℕ) → Written xs at p mid ys → Written ys mid q end zs → end ≤ length xs → Written xs at (p ++ q) end zs
written_joined xs ys zs p q at mid end v w h =
    let front : take mid ys ≡ take at xs ++ p = written_front xs ys p at mid v in
    let back : drop end ys ≡ drop end xs = written_behind xs ys p at mid end v (omega (arith, w.ends)) in
    record {
      ends = omega (arith, length-append p q, v.ends, w.ends);
      within = h;
      bytes = w.bytes ∙ (λ i. front i ++ (q ++ back i)) ∙ append_assoc (take at xs) p (q ++ drop end xs) ∙ ap (λ t. take at xs ++ t) (sym (append_assoc p q (drop end xs)));
    }
