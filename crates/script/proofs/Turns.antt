-- The turns of reading pairs and of decoding them.
use Rattle.std.proofs.Common.{◌≡◌, ℕ, suc, ◌+◌, ◌-◌, ◌<◌, ◌≤◌, List, [], ◌∷◌, ◌++◌, length, get_or, drop, Ok, Result, sym, ap, ◌∙◌, arith}
use Rattle.std.proofs.lemmas.List.{drop_more}
use Rattle.std.specs.Option.{ok_or}
use Rattle.instruction.specs.declared.instruction.Instruction.{Instruction}
use Rattle.instruction.specs.Codes.{instruction_of}
use Rattle.script.specs.declared.refusal.ImageRefusal.{ImageRefusal}
use Rattle.script.specs.declared.refusal.ImageRefusal.TheVariants.{WrongInstruction}
use Rattle.script.specs.Images.{and_then, pair_at, pairs_from, end_judged, pairs_of, decoded_from}

-- so many are left as there are behind this one
left_more : (n k : ℕ) → k < n → n - k ≡ suc (n - (k + 1))
left_more n k h = omega arith

pairs_none_left : (bs : List ℕ) (n k place : ℕ) (ps : List (ℕ × ℕ)) → n ≤ k → pairs_from bs (n - k) place ps ≡ Ok (ps, place)
unfolding pairs_from
pairs_none_left bs n k place ps h = let e : n - k ≡ 0 = omega arith in ap (λ left. pairs_from bs left place ps) e

pairs_one_more : (bs : List ℕ) (n k place : ℕ) (ps : List (ℕ × ℕ)) → k < n → pairs_from bs (n - k) place ps ≡ and_then (pair_at bs place) (λ p. pairs_from bs (n - (k + 1)) p.1 (ps ++ p.0 ∷ []))
unfolding pairs_from
pairs_one_more bs n k place ps h = ap (λ left. pairs_from bs left place ps) (left_more n k h)

-- what is judged of the pairs once they are read
abbrev pub ended : List ℕ → Result (List (ℕ × ℕ) × ℕ) ImageRefusal → Result (List (ℕ × ℕ)) ImageRefusal
ended bs r = and_then r (λ pairs. and_then (end_judged bs pairs.1) (λ _. Ok pairs.0))

-- the turn at which r was read
pub pairs_turn : (bs : List ℕ) (n k place : ℕ) (ps : List (ℕ × ℕ)) (r : Result ((ℕ × ℕ) × ℕ) ImageRefusal) → pairs_of bs ≡ ended bs (pairs_from bs (n - k) place ps) → k < n → r ≡ pair_at bs place
    → pairs_of bs ≡ ended bs (and_then r (λ p. pairs_from bs (n - (k + 1)) p.1 (ps ++ p.0 ∷ [])))
pairs_turn bs n k place ps r l h e = l ∙ ap (ended bs) (pairs_one_more bs n k place ps h ∙ ap (λ r. and_then r (λ p. pairs_from bs (n - (k + 1)) p.1 (ps ++ p.0 ∷ []))) (sym e))

pub pairs_ended : (bs : List ℕ) (n k place : ℕ) (ps : List (ℕ × ℕ)) → pairs_of bs ≡ ended bs (pairs_from bs (n - k) place ps) → n ≤ k → pairs_of bs ≡ ended bs (Ok (ps, place))
pairs_ended bs n k place ps l h = l ∙ ap (ended bs) (pairs_none_left bs n k place ps h)

-- the same of decoding
pub decoded_all : (n a : ℕ) (ps : List (ℕ × ℕ)) (is : List Instruction) → ps ≡ [] → decoded_from n a ps is ≡ Ok is
unfolding decoded_from
decoded_all n a ps is e = ap (λ t. decoded_from n a t is) e

pub decoded_turn : (n k : ℕ) (ps : List (ℕ × ℕ)) (is : List Instruction) (r : Result Instruction ImageRefusal) → k < length ps → r ≡ ok_or (instruction_of n (get_or ps k (0, 0)).0 (get_or ps k (0, 0)).1) (WrongInstruction (k + 1))
    → decoded_from n (k + 1) (drop k ps) is ≡ and_then r (λ i. decoded_from n (k + 1 + 1) (drop (k + 1) ps) (is ++ i ∷ []))
unfolding decoded_from
decoded_turn n k ps is r h e =
    let next : suc (k + 1) ≡ k + 1 + 1 = omega arith in
    ap (λ t. decoded_from n (k + 1) t is) (drop_more ps k (0, 0) h)
    ∙ rw next (ap (λ r. and_then r (λ i. decoded_from n (k + 1 + 1) (drop (k + 1) ps) (is ++ i ∷ []))) (sym e))
