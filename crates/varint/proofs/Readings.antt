-- The laws of reading.
use Rattle.std.proofs.Common.{◌≡◌, ℕ, zero, suc, ◌+◌, ◌-◌, ◌*◌, ◌/◌, ◌%◌, ◌<◌, ◌≤◌, Bool, true, false, cond, ◌&&◌, eqb, ltb, leb, ◌⊎◌, List, [], ◌∷◌, ◌++◌, length, get_or, take, drop, Ok, Err, Result, sym, refl, ap, ◌∙◌, subst, inl, inr, ⊎_elim, append_assoc, arith}
use Rattle.std.proofs.lemmas.List.{get_or-drop, get_or_append_left, drop_more, drop_all, drop-drop, append-nil, append_cancel_right, length-append, length-drop}
use Rattle.std.proofs.lemmas.Bool.{ltb-true, lt-ltb, le-ltb, le-leb, lt-leb, eqb-true, eq-eqb, and_parts, and_from, and_left, and_right, cases_lt}
use Rattle.varint.specs.declared.number.Fault.{Fault}
use Rattle.varint.specs.declared.number.Fault.TheVariants.{Malformed, Ended}
use Rattle.varint.specs.declared.number.Reading.{Reading}
use Rattle.varint.specs.Writings.{writing}
use Rattle.varint.specs.Readings.{later_groups, value_after, same_bytes, reading_of, judged, scanned_in, scanned, only_shortest, number_at, Ends, WritingAt}
use Rattle.varint.specs.Written.{Written, ReadBack}
use Rattle.varint.proofs.WrittenBytes.{written_there}
use Rattle.varint.proofs.Writings.{writing_small, writing_step, writing_more, size_most}

-- later groups at the front, and what follows them
pub later_stop : (bs : List ℕ) (n : ℕ) → (length bs ≤ n) ⊎ ((n < length bs) × (get_or bs n 0 < 128)) → later_groups (drop n bs) ≡ []
unfolding later_groups
later_stop bs n (inl h) = ap later_groups (drop_all n bs h)
later_stop bs n (inr h) =
    ap later_groups (drop_more bs n 0 h.0)
    ∙ ap (λ t. cond t [] (get_or bs n 0 ∷ later_groups (drop (n + 1) bs))) (lt-ltb (get_or bs n 0) 128 h.1)

later_step : (bs : List ℕ) (n : ℕ) → n < length bs → 128 ≤ get_or bs n 0 → later_groups (drop n bs) ≡ get_or bs n 0 ∷ later_groups (drop (n + 1) bs)
unfolding later_groups
later_step bs n h l =
    ap later_groups (drop_more bs n 0 h)
    ∙ ap (λ t. cond t [] (get_or bs n 0 ∷ later_groups (drop (n + 1) bs))) (le-ltb (get_or bs n 0) 128 l)

later_front : (bs : List ℕ) → bs ≡ later_groups bs ++ drop (length (later_groups bs)) bs
unfolding later_groups
later_front [] = refl
later_front (b ∷ bs) =
    elim (ltb b 128) as (λ t. b ∷ bs ≡ cond t [] (b ∷ later_groups bs) ++ drop (length (cond t [] (b ∷ later_groups bs))) (b ∷ bs))
    [ true ↦ refl | false ↦ ap (λ t. b ∷ t) (later_front bs) ]

later_short : (bs : List ℕ) → length (later_groups bs) ≤ length bs
unfolding later_groups
later_short [] = omega arith
later_short (b ∷ bs) =
    elim (ltb b 128) as (λ t. length (cond t [] (b ∷ later_groups bs)) ≤ length (b ∷ bs))
    [ true ↦ omega arith | false ↦ omega (arith, later_short bs) ]

later_ended : (bs : List ℕ) → Ends (drop (length (later_groups bs)) bs)
unfolding later_groups
later_ended [] = tt
later_ended (b ∷ bs) =
    elim (ltb b 128) as (λ t. ltb b 128 ≡ t → Ends (drop (length (cond t [] (b ∷ later_groups bs))) (b ∷ bs)))
    [ true ↦ λ e. ltb-true b 128 e | false ↦ λ e. later_ended bs ] refl

value_above : (v : ℕ) (bs : List ℕ) → v ≤ value_after v bs
unfolding value_after
value_above v [] = omega arith
value_above v (b ∷ bs) = omega (arith, value_above (v * 128 + (b - 128)) bs)

same_is : (bs cs : List ℕ) → same_bytes bs cs ≡ true → bs ≡ cs
unfolding same_bytes
same_is [] [] h = refl
same_is [] (c ∷ cs) h = let z : ◌≡◌ {A = ℕ} 0 1 = cc in absurd (omega arith)
same_is (b ∷ bs) [] h = let z : ◌≡◌ {A = ℕ} 0 1 = cc in absurd (omega arith)
same_is (b ∷ bs) (c ∷ cs) h =
    let p = and_parts (eqb b c) (same_bytes bs cs) h in
    λ i. eqb-true b c p.0 i ∷ same_is bs cs p.1 i

is_same : (bs : List ℕ) → same_bytes bs bs ≡ true
unfolding same_bytes
is_same [] = refl
is_same (b ∷ bs) = and_from (eqb b b) (same_bytes bs bs) (eq-eqb b b refl) (is_same bs)

-- what stands at a place
pub scanned_end : (bs : List ℕ) (at : ℕ) → length bs ≤ at → scanned bs at ≡ Err (Ended (length bs))
unfolding scanned
scanned_end bs at h = ap (scanned_in (length bs) at) (drop_all at bs h)

pub scanned_within : (bs : List ℕ) (at : ℕ) → at < length bs → scanned bs at ≡ judged at (get_or bs at 0) (later_groups (drop (at + 1) bs))
unfolding scanned
scanned_within bs at h = ap (scanned_in (length bs) at) (drop_more bs at 0 h)

pub judged_wrong : (at first : ℕ) (later : List ℕ) → (128 ≤ first) ⊎ ((4 < length later) ⊎ (4294967296 ≤ value_after first later)) → judged at first later ≡ Err (Malformed at)
judged_wrong at first later w =
    ap (λ t. cond t (Ok (reading_of at (value_after first later) (first ∷ later))) (Err (Malformed at)))
    (⊎_elim (λ h. and_left (ltb first 128) _ (le-ltb first 128 h))
    (λ w. and_right (ltb first 128) _ (⊎_elim (λ h. and_left (leb (length later) 4) _ (lt-leb (length later) 4 h)) (λ h. and_right (leb (length later) 4) _ (le-ltb (value_after first later) 4294967296 h)) w)) w)

judged_right : (at first : ℕ) (later : List ℕ) → first < 128 → length later ≤ 4 → value_after first later < 4294967296 → judged at first later ≡ Ok (reading_of at (value_after first later) (first ∷ later))
judged_right at first later f l v =
    ap (λ t. cond t (Ok (reading_of at (value_after first later) (first ∷ later))) (Err (Malformed at)))
    (and_from (ltb first 128) _ (lt-ltb first 128 f) (and_from (leb (length later) 4) _ (le-leb (length later) 4 l) (lt-ltb (value_after first later) 4294967296 v)))

-- what is accepted as the shortest is a writing
own_judged : (bs : List ℕ) (at first v end : ℕ) (later : List ℕ) → at < length bs → first ≡ get_or bs at 0 → later ≡ later_groups (drop (at + 1) bs)
    → v ≡ value_after first later → value_after first later < 4294967296 → end ≡ at + suc (length later) → same_bytes (writing v) (first ∷ later) ≡ true → WritingAt bs at v end
own_judged bs at first v end later h f l e u d s =
    let w : writing v ≡ first ∷ later = same_is (writing v) (first ∷ later) s in
    let k : at + 1 + length later ≡ end = omega arith in
    let rest : drop (length (later_groups (drop (at + 1) bs))) (drop (at + 1) bs) ≡ drop end bs =
    ap (λ t. drop (length t) (drop (at + 1) bs)) (sym l) ∙ drop-drop (length later) (at + 1) bs ∙ ap (λ m. drop m bs) k in
    let front : drop (at + 1) bs ≡ later ++ drop end bs = later_front (drop (at + 1) bs) ∙ (λ i. sym l i ++ rest i) in
    record {
      forward = omega arith;
      within = omega (arith, later_short (drop (at + 1) bs), length-drop (at + 1) bs, ap length l);
      sized = omega arith;
      bytes = drop_more bs at 0 h ∙ (λ i. sym f i ∷ front i) ∙ ap (λ t. t ++ drop end bs) (sym w);
      ended = subst Ends rest (later_ended (drop (at + 1) bs));
    }

own_tested : (bs : List ℕ) (at : ℕ) (n : Reading) → at < length bs → judged at (get_or bs at 0) (later_groups (drop (at + 1) bs)) ≡ Ok n → n.shortest ≡ true → WritingAt bs at n.value n.end
own_tested bs at n h =
    let first : ℕ = get_or bs at 0 in
    let later : List ℕ = later_groups (drop (at + 1) bs) in
    let test : Bool = ltb first 128 && (leb (length later) 4 && ltb (value_after first later) 4294967296) in
    elim test as (λ t. test ≡ t → cond t (Ok (reading_of at (value_after first later) (first ∷ later))) (Err (Malformed at)) ≡ Ok n → n.shortest ≡ true → WritingAt bs at n.value n.end) [
      | true ↦ λ e p s.
          let q : reading_of at (value_after first later) (first ∷ later) ≡ n = cc in
          let parts = and_parts (ltb first 128) _ e in
          let more = and_parts (leb (length later) 4) _ parts.1 in
          own_judged bs at first n.value n.end later h refl refl (sym (ap (λ r. r.value) q)) (ltb-true _ _ more.1) (sym (ap (λ r. r.end) q))
          (ap (λ v. same_bytes (writing v) (first ∷ later)) (sym (ap (λ r. r.value) q)) ∙ ap (λ r. r.shortest) q ∙ s)
      | false ↦ λ e p s. let z : ◌≡◌ {A = ℕ} 0 1 = cc in absurd (omega arith)
    ] refl

pub own_scanned : (bs : List ℕ) (at : ℕ) (n : Reading) → scanned bs at ≡ Ok n → n.shortest ≡ true → WritingAt bs at n.value n.end
own_scanned bs at n e s =
    ⊎_elim (λ h. own_tested bs at n h (sym (scanned_within bs at h) ∙ e) s)
    (λ h. let q : ◌≡◌ {A = Result Reading Fault} (Err (Ended (length bs))) (Ok n) = sym (scanned_end bs at h) ∙ e in let z : ◌≡◌ {A = ℕ} 0 1 = cc in absurd (omega arith))
    (cases_lt at (length bs))

-- no writing of two groups begins with 0
first_of : List ℕ → ℕ
first_of [] = 0
first_of (b ∷ bs) = b

first_above : (f v : ℕ) (xs : List ℕ) → v ≤ f → 0 < v → 0 < first_of (writing v ++ xs)
unfolding first_of
first_above zero v xs h p = absurd (omega arith)
first_above (suc f) v xs h p =
    ⊎_elim (λ s. subst (λ t. 0 < first_of (t ++ xs)) (sym (writing_small v s)) p)
    (λ g. subst (λ t. 0 < first_of t) (sym (ap (λ t. t ++ xs) (writing_step v g) ∙ append_assoc (writing (v / 128)) ((128 + v % 128) ∷ []) xs))
    (first_above f (v / 128) ((128 + v % 128) ∷ xs) (omega arith) (omega arith)))
    (cases_lt v 128)

no_padding : (v g : ℕ) (gs : List ℕ) → writing v ≡ 0 ∷ g ∷ gs → ⊥
unfolding first_of
no_padding v g gs e =
    ⊎_elim (λ p. omega (arith, first_above v v [] (omega arith) p, ap first_of (append-nil (writing v) ∙ e)))
    (λ z. let k : v ≡ 0 = omega arith in omega (arith, ap length (sym e ∙ ap writing k ∙ writing_small 0 (omega arith))))
    (cases_lt 0 v)

-- whether a writing is the shortest: the first group is not 0, or the only one
shortest_padded : (v : ℕ) (later : List ℕ) → 0 < length later → same_bytes (writing v) (0 ∷ later) ≡ false
shortest_padded v [] h = absurd (omega arith)
shortest_padded v (g ∷ gs) h =
    elim (same_bytes (writing v) (0 ∷ g ∷ gs)) as (λ t. same_bytes (writing v) (0 ∷ g ∷ gs) ≡ t → t ≡ false)
    [ true ↦ λ e. absurd (no_padding v g gs (same_is (writing v) (0 ∷ g ∷ gs) e)) | false ↦ λ e. refl ] refl

shortest_own : (bs : List ℕ) (at first v end : ℕ) → at < length bs → first ≡ get_or bs at 0 → end ≡ at + suc (length (later_groups (drop (at + 1) bs))) → drop at bs ≡ writing v ++ drop end bs
    → same_bytes (writing v) (first ∷ later_groups (drop (at + 1) bs)) ≡ true
shortest_own bs at first v end h f d e =
    let later : List ℕ = later_groups (drop (at + 1) bs) in
    let k : at + 1 + length later ≡ end = omega arith in
    let front : drop (at + 1) bs ≡ later ++ drop end bs = later_front (drop (at + 1) bs) ∙ ap (λ t. later ++ t) (drop-drop (length later) (at + 1) bs ∙ ap (λ m. drop m bs) k) in
    let both : writing v ++ drop end bs ≡ (first ∷ later) ++ drop end bs = sym e ∙ drop_more bs at 0 h ∙ (λ i. sym f i ∷ front i) in
    let w : writing v ≡ first ∷ later = append_cancel_right (writing v) (first ∷ later) (drop end bs) both in
    ap (λ t. same_bytes t (first ∷ later)) w ∙ is_same (first ∷ later)

abbrev Later : List ℕ → Type 0
Later [] = Unit {0}
Later (b ∷ bs) = (128 ≤ b) × Later bs

later_push : (bs : List ℕ) (b : ℕ) → Later bs → 128 ≤ b → Later (bs ++ b ∷ [])
later_push [] b h l = (l, tt)
later_push (c ∷ bs) b h l = (h.0, later_push bs b h.1 l)

later_all : (bs rest : List ℕ) → Later bs → Ends rest → later_groups (bs ++ rest) ≡ bs
unfolding later_groups
later_all [] [] h e = refl
later_all [] (b ∷ rest) h e = ap (λ t. cond t [] (b ∷ later_groups rest)) (lt-ltb b 128 e)
later_all (b ∷ bs) rest h e =
    ap (λ t. cond t [] (b ∷ later_groups (bs ++ rest))) (le-ltb b 128 h.0) ∙ ap (λ t. b ∷ t) (later_all bs rest h.1 e)

value_push : (v : ℕ) (bs : List ℕ) (b : ℕ) → value_after v (bs ++ b ∷ []) ≡ value_after v bs * 128 + (b - 128)
unfolding value_after
value_push v [] b = refl
value_push v (c ∷ bs) b = value_push (v * 128 + (c - 128)) bs b

-- a writing by its first byte and its later groups
pub record Shape (n : ℕ) : Type 0 where
  pub first : ℕ
  pub later : List ℕ
  pub is : writing n ≡ first ∷ later
  pub small : first < 128
  pub groups : Later later
  pub value : value_after first later ≡ n

shape_within : (f n : ℕ) → n ≤ f → Shape n
unfolding value_after
shape_within zero n h = record { first = n; later = []; is = writing_small n (omega arith); small = omega arith; groups = tt; value = refl }
shape_within (suc f) n h =
    ⊎_elim (λ s. record { first = n; later = []; is = writing_small n s; small = s; groups = tt; value = refl })
    (λ g.
    let p : Shape (n / 128) = shape_within f (n / 128) (omega arith) in
    let d : ℕ = 128 + n % 128 in
    let back : n / 128 * 128 + (128 + n % 128 - 128) ≡ n = omega arith in
    record {
      first = p.first;
      later = p.later ++ (128 + n % 128) ∷ [];
      is = writing_step n g ∙ ap (λ t. t ++ (128 + n % 128) ∷ []) p.is;
      small = p.small;
      groups = later_push p.later (128 + n % 128) p.groups (omega arith);
      value = value_push p.first p.later (128 + n % 128) ∙ ap (λ k. k * 128 + (128 + n % 128 - 128)) p.value ∙ back;
    })
    (cases_lt n 128)

shape : (n : ℕ) → Shape n
shape n = shape_within n n (omega arith)

-- a writing that ends is read, whatever stands before and after it
pub read_writing : (bs : List ℕ) (at n : ℕ) (rest : List ℕ) → n < 4294967296 → Ends rest → drop at bs ≡ writing n ++ rest → number_at bs at ≡ Ok (n, at + length (writing n))
unfolding scanned
read_writing bs at n rest h e d =
    let p : Shape n = shape n in
    let long : length p.later ≤ 4 = omega (arith, size_most n h, ap length p.is) in
    let found : scanned bs at ≡ Ok (reading_of at n (writing n)) =
    ap (scanned_in (length bs) at) (d ∙ ap (λ t. t ++ rest) p.is)
    ∙ ap (judged at p.first) (later_all p.later rest p.groups e)
    ∙ judged_right at p.first p.later p.small long (omega (arith, p.value))
    ∙ (λ i. Ok (reading_of at (p.value i) (sym p.is i))) in
    ap (only_shortest at) found ∙ ap (λ t. cond t (Ok (n, at + length (writing n))) (Err (Malformed at))) (is_same (writing n))

pub written_read_back : (xs ys : List ℕ) (at n end : ℕ) → n < 4294967296 → Written xs at (writing n) end ys → ReadBack ys at n end
written_read_back xs ys at n end l w =
    read_writing (take end ys) at n [] l tt (written_there xs ys (writing n) at end w ∙ sym (append-nil (writing n))) ∙ ap (λ k. Ok (n, k)) (sym w.ends)

-- where a reader stands that began at the place `at` and has the value of what lies before `end`
pub record Scanning (bs : List ℕ) (at end value : ℕ) : Type 0 where
  pub forward : at < end
  pub within : end ≤ length bs
  pub few : end ≤ at + 5
  pub sized : value < 4294967296
  pub whole : value_after (get_or bs at 0) (later_groups (drop (at + 1) bs)) ≡ value_after value (later_groups (drop end bs))
  pub left : at + 1 + length (later_groups (drop (at + 1) bs)) ≡ end + length (later_groups (drop end bs))
  pub used : 0 < get_or bs at 0 → 0 < value
  pub own : (end ≡ at + 1) ⊎ (0 < get_or bs at 0) → drop at bs ≡ writing value ++ drop end bs

pub scanning_starts : (bs : List ℕ) (at value : ℕ) → at < length bs → get_or bs at 0 < 128 → value ≡ get_or bs at 0 → Scanning bs at (at + 1) value
scanning_starts bs at value h l e = record {
  forward = omega arith;
  within = omega arith;
  few = omega arith;
  sized = omega arith;
  whole = ap (λ v. value_after v (later_groups (drop (at + 1) bs))) (sym e);
  left = refl;
  used = λ p. omega arith;
  own = λ _. drop_more bs at 0 h ∙ ap (λ t. t ++ drop (at + 1) bs) (sym (writing_small (get_or bs at 0) l)) ∙ ap (λ v. writing v ++ drop (at + 1) bs) (sym e);
}

pub scanning_goes_on : (bs : List ℕ) (at end value group : ℕ) → Scanning bs at end value → end < length bs → 128 ≤ get_or bs end 0 → get_or bs end 0 < 256 → end - at < 5 → value ≤ 33554431 → group ≡ get_or bs end 0 - 128 → Scanning bs at (end + 1) (value * 128 + group)
unfolding value_after
scanning_goes_on bs at end value group s h l u f m e =
    let step = later_step bs end h l in
    let b : get_or bs end 0 ≡ 128 + group = omega arith in
    record {
      forward = omega (arith, s.forward);
      within = omega arith;
      few = omega (arith, s.few, s.forward);
      sized = omega arith;
      whole = s.whole ∙ ap (value_after value) step ∙ ap (λ g. value_after (value * 128 + g) (later_groups (drop (end + 1) bs))) (sym e);
      left = omega (arith, s.left, ap length step);
      used = λ p. omega (arith, s.used p);
      own = λ w. ⊎_elim (λ z. absurd (omega (arith, z, s.forward)))
          (λ p. s.own (inr p) ∙ ap (λ t. writing value ++ t) (drop_more bs end 0 h ∙ ap (λ t. t ∷ drop (end + 1) bs) b)
          ∙ sym (append_assoc (writing value) ((128 + group) ∷ []) (drop (end + 1) bs))
          ∙ ap (λ t. t ++ drop (end + 1) bs) (sym (writing_more value group (s.used p) (omega arith)))) w;
    }

pub scanning_fails : (bs : List ℕ) (at end value : ℕ) → Scanning bs at end value → end < length bs → 128 ≤ get_or bs end 0 → (5 ≤ end - at) ⊎ (33554431 < value) → scanned bs at ≡ Err (Malformed at)
unfolding value_after
scanning_fails bs at end value s h l w =
    let step = later_step bs end h l in
    scanned_within bs at (omega (arith, s.forward)) ∙ judged_wrong at (get_or bs at 0) (later_groups (drop (at + 1) bs))
    (inr (⊎_elim (λ f. inl (omega (arith, s.left, s.forward, ap length step)))
    (λ v. inr (omega (arith, s.whole ∙ ap (value_after value) step, value_above (value * 128 + (get_or bs end 0 - 128)) (later_groups (drop (end + 1) bs))))) w))

pub scanning_ends : (bs : List ℕ) (at end value : ℕ) (shortest : Bool) → Scanning bs at end value → get_or bs at 0 < 128 → later_groups (drop end bs) ≡ []
    → (shortest ≡ true → (end ≡ at + 1) ⊎ (0 < get_or bs at 0)) → (shortest ≡ false → (get_or bs at 0 ≡ 0) × (at + 1 < end)) → scanned bs at ≡ Ok (record { value = value; end = end; shortest = shortest })
unfolding value_after
scanning_ends bs at end value shortest s f stop yes· no· =
    let first : ℕ = get_or bs at 0 in
    let later : List ℕ = later_groups (drop (at + 1) bs) in
    let v : value_after first later ≡ value = s.whole ∙ ap (value_after value) stop in
    let k : at + suc (length later) ≡ end = omega (arith, s.left, ap length stop) in
    let flag : same_bytes (writing value) (first ∷ later) ≡ shortest =
    elim shortest as (λ t. (t ≡ true → (end ≡ at + 1) ⊎ (0 < get_or bs at 0)) → (t ≡ false → (get_or bs at 0 ≡ 0) × (at + 1 < end)) → same_bytes (writing value) (first ∷ later) ≡ t) [
      | true ↦ λ p q. shortest_own bs at first value end (omega (arith, s.forward, s.within)) refl (sym k) (s.own (p refl))
      | false ↦ λ p q. ap (λ t. same_bytes (writing value) (t ∷ later)) (q refl).0 ∙ shortest_padded value later (omega (arith, (q refl).1))
    ] yes· no· in
    scanned_within bs at (omega (arith, s.forward, s.within))
    ∙ judged_right at first later f (omega (arith, s.few)) (omega (arith, v, s.sized))
    ∙ (λ i. Ok (record { value = v i; end = k i; shortest = same_bytes (writing (v i)) (first ∷ later) }))
    ∙ ap (λ t. Ok (record { value = value; end = end; shortest = t })) flag

-- what is read is a writing
own_shortest : (bs : List ℕ) (at : ℕ) (r : Result Reading Fault) (v end : ℕ) → scanned bs at ≡ r → only_shortest at r ≡ Ok (v, end) → WritingAt bs at v end
own_shortest bs at (Ok n) v end e h =
    elim n.shortest as (λ t. n.shortest ≡ t → cond {A = Result (ℕ × ℕ) Fault} t (Ok (n.value, n.end)) (Err (Malformed at)) ≡ Ok (v, end) → WritingAt bs at v end) [
      | true ↦ λ s p.
          let q : ◌≡◌ {A = ℕ × ℕ} (n.value, n.end) (v, end) = cc in
          subst (λ x. WritingAt bs at x.0 x.1) q (own_scanned bs at n e s)
      | false ↦ λ s p. let z : ◌≡◌ {A = ℕ} 0 1 = cc in absurd (omega arith)
    ] refl h
own_shortest bs at (Err fault) v end e p = let z : ◌≡◌ {A = ℕ} 0 1 = cc in absurd (omega arith)

pub own_number : (bs : List ℕ) (at v end : ℕ) → number_at bs at ≡ Ok (v, end) → WritingAt bs at v end
own_number bs at v end e = own_shortest bs at (scanned bs at) v end refl e

-- a writing begins with a first byte
pub ends_before_writing : (n : ℕ) (xs : List ℕ) → Ends (writing n ++ xs)
ends_before_writing n xs = let p = shape n in subst (λ t. Ends (t ++ xs)) (sym p.is) p.small

-- the bytes of a number that was read: a first byte, later groups, and then the end or another first byte
later_at : (bs : List ℕ) (j : ℕ) → Later bs → j < length bs → 128 ≤ get_or bs j 0
later_at [] j h l = absurd (omega arith)
later_at (b ∷ bs) zero h l = h.0
later_at (b ∷ bs) (suc j) h l = later_at bs j h.1 (omega arith)

own_length : (bs : List ℕ) (at v end : ℕ) → WritingAt bs at v end → end ≡ at + length (writing v)
own_length bs at v end o =
    omega (arith, o.forward, o.within, ap length o.bytes ∙ length-append (writing v) (drop end bs), length-drop at bs, length-drop end bs)

pub own_first : (bs : List ℕ) (at v end : ℕ) → WritingAt bs at v end → get_or bs at 0 < 128
own_first bs at v end o =
    let p = shape v in
    let h : at < length bs = omega (arith, o.forward, o.within) in
    let e : get_or bs at 0 ∷ drop (at + 1) bs ≡ p.first ∷ (p.later ++ drop end bs) = sym (drop_more bs at 0 h) ∙ o.bytes ∙ ap (λ t. t ++ drop end bs) p.is in
    let q : get_or bs at 0 ≡ p.first = cc in
    omega (arith, p.small)

pub own_later : (bs : List ℕ) (at v end i : ℕ) → WritingAt bs at v end → at < i → i < end → 128 ≤ get_or bs i 0
own_later bs at v end i o l u =
    let p = shape v in
    let j : ℕ = i - at - 1 in
    let k : at + suc (i - at - 1) ≡ i = omega arith in
    let short : i - at - 1 < length p.later = omega (arith, own_length bs at v end o, ap length p.is) in
    let e : get_or bs i 0 ≡ get_or p.later (i - at - 1) 0 =
    ap (λ n. get_or bs n 0) (sym k) ∙ sym (get_or-drop at bs (suc (i - at - 1)) 0)
    ∙ ap (λ t. get_or t (suc (i - at - 1)) 0) (o.bytes ∙ ap (λ t. t ++ drop end bs) p.is)
    ∙ get_or_append_left p.later (drop end bs) 0 (i - at - 1) short in
    omega (arith, later_at p.later (i - at - 1) p.groups short)

pub own_next : (bs : List ℕ) (at v end : ℕ) → WritingAt bs at v end → end < length bs → get_or bs end 0 < 128
own_next bs at v end o h = subst Ends (drop_more bs end 0 h) o.ended
