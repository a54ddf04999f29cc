-- Images and accepted scripts yield each other back.
use Rattle.std.proofs.Common.{◌≡◌, ℕ, zero, suc, ◌+◌, ◌<◌, ◌≤◌, Bool, true, false, cond, ◌&&◌, ltb, leb, List, [], ◌∷◌, ◌++◌, map, length, drop, is_some, IfOk, Some, None, Ok, Err, Option, Result, sym, refl, ap, ◌∙◌, subst, arith}
use Rattle.std.specs.List.{flat_map}
use Rattle.std.proofs.lemmas.List.{append_assoc, append-nil, drop_all, drop_at, drop-drop, length-map}
use Rattle.std.proofs.lemmas.Bool.{and_parts, and_from, leb-true, le-leb, ltb-true, lt-ltb}
use Rattle.std.specs.Option.{ok_or}
use Rattle.varint.specs.declared.number.Fault.{Fault}
use Rattle.varint.specs.Writings.{writing}
use Rattle.varint.specs.Readings.{number_at, Ends, WritingAt}
use Rattle.varint.proofs.Readings.{read_writing, own_number, ends_before_writing}
use Rattle.instruction.specs.declared.instruction.Instruction.{Instruction}
use Rattle.instruction.specs.Codes.{instruction_of, code_and_operand}
use Rattle.instruction.proofs.CodeTable.{code_of_its_instruction, instruction_of_its_code, code_small}
use Rattle.script.specs.declared.instructions.Instructions.{Instructions}
use Rattle.script.specs.declared.refusal.ImageRefusal.{ImageRefusal}
use Rattle.script.specs.declared.refusal.ImageRefusal.TheVariants.{GoesOn, WrongCount, WrongInstruction}
use Rattle.script.specs.Frames.{frames_judged}
use Rattle.script.specs.References.{references_judged}
use Rattle.script.specs.Images.{pair_bytes, image_of, image, and_then, or_raised, image_number, count_judged, pair_at, pairs_from, end_judged, pairs_of, decoded_from, decoded, instructions_read, judged, read_image, is_writable, are_writable, has_image, Accepted, ImagesAndScripts, OneImage}
use Rattle.script.specs.Held.{list_of}
use Rattle.script.specs.Calls.{held}
use Rattle.script.proofs.Acceptance.{image_parts, parts_image}

-- what stands behind an accepted answer
then_accepted : {X Y : Type 0} (r : Result X ImageRefusal) (next : X → Result Y ImageRefusal) (y : Y) → and_then r next ≡ Ok y → (x : X) × (r ≡ Ok x) × (next x ≡ Ok y)
then_accepted (Ok x) next y e = (x, refl, e)
then_accepted (Err f) next y e = let z : ◌≡◌ {A = ℕ} 0 1 = cc in absurd (omega arith)

unit_accepted : {Y : Type 0} (r : Result (Unit {0}) ImageRefusal) (next : Unit {0} → Result Y ImageRefusal) (y : Y) → and_then r next ≡ Ok y → (r ≡ Ok tt) × (next tt ≡ Ok y)
unit_accepted (Ok u) next y e = (refl, e)
unit_accepted (Err f) next y e = let z : ◌≡◌ {A = ℕ} 0 1 = cc in absurd (omega arith)

test_accepted : (test : Bool) (f : ImageRefusal) → ◌≡◌ {A = Result (Unit {0}) ImageRefusal} (cond test (Ok tt) (Err f)) (Ok tt) → test ≡ true
test_accepted true f e = refl
test_accepted false f e = let z : ◌≡◌ {A = ℕ} 0 1 = cc in absurd (omega arith)

raised_accepted : {X : Type 0} (r : Result X Fault) (x : X) → or_raised r ≡ Ok x → r ≡ Ok x
raised_accepted (Ok y) x e = let q : y ≡ x = cc in ap Ok q
raised_accepted (Err f) x e = let z : ◌≡◌ {A = ℕ} 0 1 = cc in absurd (omega arith)

number_accepted : (bs : List ℕ) (place : ℕ) (p : ℕ × ℕ) → image_number bs place ≡ Ok p → WritingAt bs place p.0 p.1
number_accepted bs place p e = own_number bs place p.0 p.1 (raised_accepted (number_at bs place) p e)

-- pairs of 32-bit numbers
abbrev Sized : List (ℕ × ℕ) → Type 0
Sized [] = Unit {0}
Sized (p ∷ ps) = (p.0 < 4294967296) × (p.1 < 4294967296) × Sized ps

-- what is read as a pair are its bytes
pair_accepted : (bs : List ℕ) (place : ℕ) (p : (ℕ × ℕ) × ℕ) → pair_at bs place ≡ Ok p → (p.0.0 < 4294967296) × (p.0.1 < 4294967296) × (drop place bs ≡ pair_bytes p.0 ++ drop p.1 bs)
pair_accepted bs place p e =
    let first = then_accepted (image_number bs place) _ p e in
    let code = first.0 in
    let second = then_accepted (image_number bs code.1) _ p first.2 in
    let operand = second.0 in
    let same : ((code.0, operand.0), operand.1) ≡ p = let h = second.2 in cc in
    let c = number_accepted bs place code first.1 in
    let o = number_accepted bs code.1 operand second.1 in
    let bytes : drop place bs ≡ pair_bytes (code.0, operand.0) ++ drop operand.1 bs = c.bytes ∙ ap (λ t. writing code.0 ++ t) o.bytes ∙ sym (append_assoc (writing code.0) (writing operand.0) (drop operand.1 bs)) in
    subst (λ p. (p.0.0 < 4294967296) × (p.0.1 < 4294967296) × (drop place bs ≡ pair_bytes p.0 ++ drop p.1 bs)) same (c.sized, o.sized, bytes)

-- the pairs that were read from a place on
pub record PairsThere (bs : List ℕ) (left place : ℕ) (earlier ps : List (ℕ × ℕ)) (end : ℕ) : Type 0 where
  pub later : List (ℕ × ℕ)
  pub all : ps ≡ earlier ++ later
  pub count : length later ≡ left
  pub sized : Sized later
  pub bytes : drop place bs ≡ flat_map pair_bytes later ++ drop end bs

pairs_accepted : (bs : List ℕ) (left place : ℕ) (earlier : List (ℕ × ℕ)) (r : List (ℕ × ℕ) × ℕ) → pairs_from bs left place earlier ≡ Ok r → PairsThere bs left place earlier r.0 r.1
unfolding pairs_from
pairs_accepted bs zero place earlier r e =
    let q : (earlier, place) ≡ r = cc in
    record {
      later = [];
      all = sym (append-nil earlier ∙ ap (λ t. t.0) q);
      count = refl;
      sized = tt;
      bytes = ap (λ t. drop t.1 bs) q;
    }
pairs_accepted bs (suc left) place earlier r e =
    let one = then_accepted (pair_at bs place) _ r e in
    let p = one.0 in
    let here = pair_accepted bs place p one.1 in
    let rest = pairs_accepted bs left p.1 (earlier ++ p.0 ∷ []) r one.2 in
    record {
      later = p.0 ∷ rest.later;
      all = rest.all ∙ append_assoc earlier (p.0 ∷ []) rest.later;
      count = ap suc rest.count;
      sized = (here.0, here.1, rest.sized);
      bytes = here.2 ∙ ap (λ t. pair_bytes p.0 ++ t) rest.bytes ∙ sym (append_assoc (pair_bytes p.0) (flat_map pair_bytes rest.later) (drop r.1 bs));
    }

-- what is read as pairs is their image
image_accepted : (bs : List ℕ) (ps : List (ℕ × ℕ)) → pairs_of bs ≡ Ok ps → (1 ≤ length ps) × (length ps ≤ 1024) × Sized ps × (bs ≡ image_of ps)
image_accepted bs ps e =
    let first = then_accepted (image_number bs 0) _ ps e in
    let count = first.0 in
    let second = unit_accepted (count_judged count.0) _ ps first.2 in
    let third = then_accepted (pairs_from bs count.0 count.1 []) _ ps second.1 in
    let read = third.0 in
    let fourth = unit_accepted (end_judged bs read.1) _ ps third.2 in
    let same : read.0 ≡ ps = let h = fourth.1 in cc in
    let range = and_parts (leb 1 count.0) (leb count.0 1024) (test_accepted _ WrongCount second.0) in
    let there = pairs_accepted bs count.0 count.1 [] read third.1 in
    let those : there.later ≡ ps = sym there.all ∙ same in
    let n : length ps ≡ count.0 = ap length (sym those) ∙ there.count in
    let ended : drop read.1 bs ≡ [] = drop_all read.1 bs (leb-true (length bs) read.1 (test_accepted _ (GoesOn read.1) fourth.0)) in
    let low = leb-true 1 count.0 range.0 in
    let high = leb-true count.0 1024 range.1 in (
      omega arith,
      omega arith,
      subst Sized those there.sized,
      (number_accepted bs 0 count first.1).bytes
          ∙ (λ i. writing (sym n i) ++ (there.bytes ∙ (λ j. flat_map pair_bytes (those j) ++ ended j) ∙ append-nil (flat_map pair_bytes ps)) i),
    )

-- the same of instructions
instruction_accepted : (a : ℕ) (o : Option Instruction) (i : Instruction) → ok_or o (WrongInstruction a) ≡ Ok i → o ≡ Some i
instruction_accepted a None i e = let z : ◌≡◌ {A = ℕ} 0 1 = cc in absurd (omega arith)
instruction_accepted a (Some j) i e = let q : j ≡ i = cc in ap Some q

read_is_writable : (n code x : ℕ) (i : Instruction) → x < 4294967296 → instruction_of n code x ≡ Some i → is_writable n i ≡ true
read_is_writable n code x i h e =
    let q = code_of_its_instruction n code x i e in
    subst (λ p. (ltb p.1 4294967296 && is_some (instruction_of n p.0 p.1)) ≡ true) (sym q) (and_from _ _ (lt-ltb x 4294967296 h) (ap is_some e))

pub record InstructionsThere (n : ℕ) (ps : List (ℕ × ℕ)) (earlier s : List Instruction) : Type 0 where
  pub later : List Instruction
  pub all : s ≡ earlier ++ later
  pub pairs : map (code_and_operand n) later ≡ ps
  pub writable : are_writable n later ≡ true

decoded_accepted : (n a : ℕ) (ps : List (ℕ × ℕ)) (earlier s : List Instruction) → Sized ps → decoded_from n a ps earlier ≡ Ok s → InstructionsThere n ps earlier s
unfolding decoded_from
decoded_accepted n a [] earlier s h e = let q : earlier ≡ s = cc in record { later = []; all = sym (append-nil earlier ∙ q); pairs = refl; writable = refl }
decoded_accepted n a (p ∷ ps) earlier s h e =
    let one = then_accepted (ok_or (instruction_of n p.0 p.1) (WrongInstruction a)) _ s e in
    let i = one.0 in
    let here = instruction_accepted a (instruction_of n p.0 p.1) i one.1 in
    let rest = decoded_accepted n (suc a) ps (earlier ++ i ∷ []) s h.2 one.2 in
    record {
      later = i ∷ rest.later;
      all = rest.all ∙ append_assoc earlier (i ∷ []) rest.later;
      pairs = λ j. code_of_its_instruction n p.0 p.1 i here j ∷ rest.pairs j;
      writable = and_from _ _ (read_is_writable n p.0 p.1 i h.1 here) rest.writable;
    }

-- what is read as instructions is their image
pub instructions_accepted : (bs : List ℕ) (s : List Instruction) → instructions_read bs ≡ Ok s → (has_image s ≡ true) × (bs ≡ image s)
instructions_accepted bs s e =
    let first = then_accepted (pairs_of bs) _ s e in
    let ps = first.0 in
    let bytes = image_accepted bs ps first.1 in
    let there = decoded_accepted (length ps) 1 ps [] s bytes.2 first.2 in
    let those : there.later ≡ s = sym there.all in
    let pairs : map (code_and_operand (length ps)) s ≡ ps = ap (map (code_and_operand (length ps))) (sym those) ∙ there.pairs in
    let n : length s ≡ length ps = sym (length-map s (code_and_operand (length ps))) ∙ ap length pairs in (
      parts_image s (omega (arith, bytes.0)) (omega (arith, bytes.1)) (ap (λ k. are_writable k s) n ∙ ap (are_writable (length ps)) (sym those) ∙ there.writable),
      bytes.3 ∙ ap image_of (sym (ap (λ k. map (code_and_operand k) s) n ∙ pairs)),
    )

read_is_image : (bs : List ℕ) (s : List Instruction) → read_image bs ≡ Ok s → Accepted s × (bs ≡ image s)
read_is_image bs s e =
    let first = then_accepted (instructions_read bs) (λ s. judged s) s e in
    let second = unit_accepted (frames_judged first.0) _ s first.2 in
    let third = unit_accepted (references_judged first.0) _ s second.1 in
    let same : first.0 ≡ s = let h = third.1 in cc in
    let here = instructions_accepted bs first.0 first.1 in (
      subst Accepted same (record { image = here.0; frames = second.0; references = third.0 }),
      here.1 ∙ ap image same,
    )

-- images are read
ends_before_pairs : (ps : List (ℕ × ℕ)) → Ends (flat_map pair_bytes ps)
ends_before_pairs [] = tt
ends_before_pairs (p ∷ ps) = subst Ends (sym (append_assoc (writing p.0) (writing p.1) (flat_map pair_bytes ps))) (ends_before_writing p.0 (writing p.1 ++ flat_map pair_bytes ps))

number_read_lem : (bs rest : List ℕ) (place n : ℕ) → n < 4294967296 → Ends rest → drop place bs ≡ writing n ++ rest
    → (image_number bs place ≡ Ok (n, place + length (writing n))) × (drop (place + length (writing n)) bs ≡ rest)
number_read_lem bs rest place n h e d = (
  ap or_raised (read_writing bs place n rest h e d),
  sym (drop-drop (length (writing n)) place bs) ∙ ap (drop (length (writing n))) d ∙ drop_at (writing n) rest (length (writing n)) refl,
)

pair_read : (bs rest : List ℕ) (place : ℕ) (p : ℕ × ℕ) → p.0 < 4294967296 → p.1 < 4294967296 → Ends rest → drop place bs ≡ pair_bytes p ++ rest
    → (pair_at bs place ≡ Ok (p, place + length (writing p.0) + length (writing p.1))) × (drop (place + length (writing p.0) + length (writing p.1)) bs ≡ rest)
pair_read bs rest place p c o e d =
    let code = number_read_lem bs (writing p.1 ++ rest) place p.0 c (ends_before_writing p.1 rest) (d ∙ append_assoc (writing p.0) (writing p.1) rest) in
    let operand = number_read_lem bs rest (place + length (writing p.0)) p.1 o e code.1 in (
      ap (λ r. and_then r (λ code. and_then (image_number bs code.1) (λ operand. Ok ((code.0, operand.0), operand.1)))) code.0
          ∙ ap (λ r. and_then r (λ operand. Ok ((p.0, operand.0), operand.1))) operand.0,
      operand.1,
    )

pairs_read : (bs : List ℕ) (place : ℕ) (earlier ps : List (ℕ × ℕ)) → Sized ps → drop place bs ≡ flat_map pair_bytes ps
    → (end : ℕ) × (pairs_from bs (length ps) place earlier ≡ Ok (earlier ++ ps, end)) × (drop end bs ≡ [])
unfolding pairs_from
pairs_read bs place earlier [] h d = (place, ap (λ t. Ok (t, place)) (sym (append-nil earlier)), d)
pairs_read bs place earlier (p ∷ ps) h d =
    let one = pair_read bs (flat_map pair_bytes ps) place p h.0 h.1 (ends_before_pairs ps) d in
    let rest = pairs_read bs (place + length (writing p.0) + length (writing p.1)) (earlier ++ p ∷ []) ps h.2 one.1 in (
      rest.0,
      ap (λ r. and_then r (λ q. pairs_from bs (length ps) q.1 (earlier ++ q.0 ∷ []))) one.0
          ∙ rest.1 ∙ ap (λ t. Ok (t, rest.0)) (append_assoc earlier (p ∷ []) ps),
      rest.2,
    )

past_end : (bs : List ℕ) (n : ℕ) → drop n bs ≡ [] → length bs ≤ n
past_end [] n d = omega arith
past_end (b ∷ bs) zero d = let z : ◌≡◌ {A = ℕ} 0 1 = cc in absurd (omega arith)
past_end (b ∷ bs) (suc n) d = omega (arith, past_end bs n d)

image_read : (ps : List (ℕ × ℕ)) → 1 ≤ length ps → length ps ≤ 1024 → Sized ps → pairs_of (image_of ps) ≡ Ok ps
image_read ps l u h =
    let bs : List ℕ = image_of ps in
    let count = number_read_lem bs (flat_map pair_bytes ps) 0 (length ps) (omega arith) (ends_before_pairs ps) refl in
    let place : ℕ = 0 + length (writing (length ps)) in
    let read = pairs_read bs place [] ps h count.1 in
    ap (λ r. and_then r (λ count. and_then (count_judged count.0) (λ _. and_then (pairs_from bs count.0 count.1 []) (λ pairs. and_then (end_judged bs pairs.1) (λ _. Ok pairs.0))))) count.0
    ∙ ap (λ t. and_then (cond t (Ok tt) (Err WrongCount)) (λ _. and_then (pairs_from bs (length ps) place []) (λ pairs. and_then (end_judged bs pairs.1) (λ _. Ok pairs.0)))) (and_from _ _ (le-leb 1 (length ps) l) (le-leb (length ps) 1024 u))
    ∙ ap (λ r. and_then r (λ pairs. and_then (end_judged bs pairs.1) (λ _. Ok pairs.0))) read.1
    ∙ ap (λ t. and_then (cond t (Ok tt) (Err (GoesOn read.0))) (λ _. Ok ps)) (le-leb (length bs) read.0 (past_end bs read.0 read.2))

writable_sized : (n : ℕ) (s : List Instruction) → are_writable n s ≡ true → Sized (map (code_and_operand n) s)
writable_sized n [] e = tt
writable_sized n (i ∷ is) e =
    let p = and_parts (is_writable n i) (are_writable n is) e in
    let q = and_parts (ltb (code_and_operand n i).1 4294967296) _ p.0 in
    (omega (arith, code_small n i), ltb-true (code_and_operand n i).1 4294967296 q.0, writable_sized n is p.1)

writable_decoded : (n a : ℕ) (earlier s : List Instruction) → are_writable n s ≡ true → decoded_from n a (map (code_and_operand n) s) earlier ≡ Ok (earlier ++ s)
unfolding decoded_from
writable_decoded n a earlier [] e = ap Ok (sym (append-nil earlier))
writable_decoded n a earlier (i ∷ is) e =
    let p = and_parts (is_writable n i) (are_writable n is) e in
    let q = and_parts (ltb (code_and_operand n i).1 4294967296) _ p.0 in
    ap (λ o. and_then (ok_or o (WrongInstruction a)) (λ i. decoded_from n (suc a) (map (code_and_operand n) is) (earlier ++ i ∷ []))) (instruction_of_its_code n i q.1)
    ∙ writable_decoded n (suc a) (earlier ++ i ∷ []) is p.1
    ∙ ap Ok (append_assoc earlier (i ∷ []) is)

image_is_read : (s : List Instruction) → Accepted s → read_image (image s) ≡ Ok s
image_is_read s accepted =
    let size = image_parts s accepted.image in
    let ps : List (ℕ × ℕ) = map (code_and_operand (length s)) s in
    let n : length ps ≡ length s = length-map s (code_and_operand (length s)) in
    ap (λ r. and_then (and_then r (λ pairs. decoded pairs)) (λ s. judged s)) (image_read ps (omega (arith, n, size.0)) (omega (arith, n, size.1)) (writable_sized (length s) s size.2))
    ∙ ap (λ r. and_then r (λ s. judged s)) (ap (λ k. decoded_from k 1 ps []) n ∙ writable_decoded (length s) 1 [] s size.2)
    ∙ ap (λ r. and_then r (λ _. and_then (references_judged s) (λ _. Ok s))) accepted.frames
    ∙ ap (λ r. and_then r (λ _. Ok s)) accepted.references

pub images_and_scripts : ImagesAndScripts
images_and_scripts bs s = (read_is_image bs s, image_is_read s)

pub one_image : OneImage
one_image bs cs s e f = (read_is_image bs s e).1 ∙ sym (read_is_image cs s f).1

-- the instructions that a reader holds have an image
pub held_has_image : (bs : List ℕ) (r : Result Instructions ImageRefusal) → held r ≡ instructions_read bs → IfOk r (λ instructions. has_image (list_of instructions) ≡ true)
held_has_image bs (Ok instructions) e = (instructions_accepted bs (list_of instructions) (sym e)).0
held_has_image bs (Err refusal) e = tt
