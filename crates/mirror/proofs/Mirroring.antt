-- The bytes of a mirrored script, as they grow from the last instruction down to the first.
use Rattle.std.proofs.Common.{◌≡◌, ℕ, ◌+◌, ◌<◌, ◌≤◌, List, [], ◌∷◌, ◌++◌, map, reverse, length, get_or, take, sum_by, Some, Option, Bor, Iter, sym, ap, ◌∙◌, subst, arith}
use Rattle.std.specs.List.{flat_map}
use Rattle.std.proofs.lemmas.List.{length-append, length-map, map-append, flat_map_more}
use Rattle.std.proofs.lemmas.List.Concat.{length-flat_map}
use Rattle.std.proofs.lemmas.List.Sorted.{IsPermutation-reverse, sum_by-IsPermutation}
use Rattle.std.proofs.lemmas.List.Folds.{flat_map-map, length-flat_map-take}
use Rattle.std.proofs.lemmas.Iterator.Adapters.{YieldsList-from_rev_slice}
use Rattle.std.proofs.lemmas.Iterator.Consumers.{YieldsList-so_far, YieldsList-turn}
use Rattle.std.specs.Iterator.{Yields}
use Rattle.std.specs.Iterator.Adapters.{rev_source, rev_steps}
use Rattle.std.specs.Slice.Iter.{iter_rest, iter_steps_back}
use Rattle.std.specs.declared.iter.Rev.{Rev}
use Rattle.varint.specs.Writings.{writing}
use Rattle.varint.specs.Written.{Written}
use Rattle.varint.proofs.WrittenBytes.{written_joined}
use Rattle.instruction.specs.declared.instruction.Instruction.{Instruction}
use Rattle.script.specs.Images.{pair_bytes}
use Rattle.instruction.specs.Mirrors.{mirror_of, mirrors_of, mirror_code_and_operand}
use Rattle.instruction.proofs.MirroredScripts.{as_many_mirrors}
use Rattle.mirror.specs.Mirrored.{mirror_pair, mirror_bytes, mirror_image}

-- the mirrored script has as many instructions as the script
pub image_is_the_count_and_the_bytes : (s : List Instruction) → mirror_image s ≡ writing (length s) ++ mirror_bytes s
image_is_the_count_and_the_bytes s = ap (λ n. writing n ++ mirror_bytes s) (length-map (mirrors_of s) mirror_code_and_operand ∙ as_many_mirrors s)

pub length_image : (s : List Instruction) → length (mirror_image s) ≡ length (writing (length s)) + length (mirror_bytes s)
length_image s = ap length (image_is_the_count_and_the_bytes s) ∙ length-append (writing (length s)) (mirror_bytes s)

-- the bytes of the mirrors of instructions, one behind the other
abbrev pub bytes_in_turn : List Instruction → List ℕ
bytes_in_turn is = flat_map (λ i. pair_bytes (mirror_pair i)) is

pub bytes_from_the_last : (s : List Instruction) → bytes_in_turn (reverse s) ≡ mirror_bytes s
bytes_from_the_last s = sym (flat_map-map pair_bytes mirror_code_and_operand (mirrors_of s) ∙ flat_map-map (λ m. pair_bytes (mirror_code_and_operand m)) mirror_of (reverse s))

pub length_bytes : (s : List Instruction) → length (mirror_bytes s) ≡ sum_by (λ i. length (pair_bytes (mirror_pair i))) s
length_bytes s =
    ap length (sym (bytes_from_the_last s))
    ∙ length-flat_map (λ i. pair_bytes (mirror_pair i)) (reverse s)
    ∙ sum_by-IsPermutation (λ i. length (pair_bytes (mirror_pair i))) s (reverse s) (IsPermutation-reverse s)

-- a turn of a loop that goes over a slice from its last element down
pub record TurnFromTheLast {A : Type 0} (all : List A) (earlier : List (Bor A)) (x : Bor A) : Type 0 where
  pub so_far : map (λ y. y.now) earlier ≡ take (length earlier) (reverse all)
  pub more : length earlier < length (reverse all)
  pub here : x.now ≡ get_or (reverse all) (length earlier) x.now

pub turn_from_the_last : {A : Type 0} (start before behind : Rev (Iter A)) (all : List A) (earlier : List (Bor A)) (r : Option (Bor A)) (x : Bor A)
    → iter_rest (rev_source start) ≡ all → Yields (rev_steps iter_steps_back) start earlier before → r ≡ Some x → rev_steps iter_steps_back before r behind → TurnFromTheLast all earlier x
turn_from_the_last start before behind all earlier r x begun yielded some step =
    let road = YieldsList-from_rev_slice {s = start} all begun in
    let turn = YieldsList-turn road earlier before yielded r behind x some step in
    record { so_far = YieldsList-so_far road earlier before yielded; more = turn.0; here = turn.1 }

module _ (all : List Instruction) (earlier : List (Bor Instruction)) (x : Bor Instruction) (p : ℕ × ℕ) (turn : TurnFromTheLast all earlier x) (pair : p ≡ mirror_pair x.now) where
  abbrev pub so_far : List Instruction
  so_far = map (λ y. y.now) earlier

  pub room_for_one_more : length (bytes_in_turn so_far) + length (pair_bytes p) ≤ length (mirror_bytes all)
  room_for_one_more =
      rw (turn.so_far, pair, turn.here, ← bytes_from_the_last all)
      (length-flat_map-take (λ i. pair_bytes (mirror_pair i)) (reverse all) (length earlier) x.now turn.more)

  pub written_one_more : (xs ys zs : List ℕ) (at mid end : ℕ) → Written xs at (bytes_in_turn so_far) mid ys → Written ys mid (pair_bytes p) end zs → length ys ≡ length xs → Written xs at (bytes_in_turn (map (λ y. y.now) (earlier ++ x ∷ []))) end zs
  written_one_more xs ys zs at mid end v w l =
      subst
      (λ t. Written xs at t end zs)
      (ap (λ p. bytes_in_turn so_far ++ pair_bytes p) pair ∙ flat_map_more (λ i. pair_bytes (mirror_pair i)) [] so_far x.now ∙ ap bytes_in_turn (sym (map-append (λ y. y.now) earlier (x ∷ []))))
      (written_joined xs ys zs (bytes_in_turn so_far) (pair_bytes p) at mid end v w (omega (arith, w.within)))
