-- One line more, and the lines of all that an iterator gives.
use Rattle.std.proofs.Common.{◌≡◌, ℕ, suc, ◌+◌, List, [], ◌∷◌, ◌++◌, length, IfOk, Option, Result, Vec, sym, ap, ◌∙◌, arith}
use Rattle.std.proofs.lemmas.List.{map-id}
use Rattle.std.proofs.lemmas.Iterator.{YieldsList, items_from_drains}
use Rattle.std.proofs.lemmas.Result.{IfOk-weaker}
use Rattle.std.specs.Iterator.{Drains}
use Rattle.script_words.specs.declared.line.Line.{Line}
use Rattle.script_words.specs.Numbering.{numbered_from, lines_of}

numbered_one_behind : {X Y : Type 0} (line : ℕ → X → Y) (p : ℕ) (xs : List X) (x : X) → numbered_from line p (xs ++ x ∷ []) ≡ numbered_from line p xs ++ line (p + length xs) x ∷ []
numbered_one_behind line p [] x = ap (λ n. line n x ∷ []) (omega arith)
numbered_one_behind line p (y ∷ xs) x =
    let e : suc p + length xs ≡ p + length (y ∷ xs) = omega arith in
    ap (λ l. line p y ∷ l) (numbered_one_behind line (suc p) xs x ∙ ap (λ n. numbered_from line (suc p) xs ++ line n x ∷ []) e)

pub line_goes_behind : {I : Type 0} (s : List I) (i : I) (done more : List (Line I)) (before : ℕ) → done ≡ lines_of s → before ≡ length s → more ≡ done ++ record { address = before + 1; instruction = i } ∷ [] → more ≡ lines_of (s ++ i ∷ [])
line_goes_behind {I} s i done more before shown counted behind =
    let line : ℕ → I → Line I = λ n x. record { address = n; instruction = x } in
    let next : before + 1 ≡ 1 + length s = omega arith in
    behind ∙ ap (λ l. l ++ line (before + 1) i ∷ []) shown ∙ ap (λ n. lines_of s ++ line n i ∷ []) next ∙ sym (numbered_one_behind line 1 s i)

pub all_in_lines : {S I Z E : Type 0} {steps : S → Option I → S → Type 0} {s : S} {all : List I} (r : Result (Vec (Line I) Z) E) → IfOk r (λ v. (given : List I) × Drains steps s given × (v.items ≡ lines_of given)) → YieldsList steps (λ x. x) s all → IfOk r (λ v. v.items ≡ lines_of all)
all_in_lines r shown yields = IfOk-weaker r _ _ (λ v h. h.2 ∙ ap lines_of (sym (map-id h.0) ∙ items_from_drains h.0 (h.1.1.0, h.1.1.1, λ _. (h.1.0, h.1.1.2)) yields)) shown
