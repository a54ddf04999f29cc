-- Differences and original numbers yield each other back.
use Rattle.std.proofs.Common.{◌≡◌, List, [], ◌∷◌, Some, ℤ, pos, ◌-ℤ◌, sym, refl, ap, ◌∙◌, arith, lit<, w32, SFits}
use Rattle.std.specs.Int.{int_wrap}
use Rattle.std.proofs.lemmas.Int.{ints, SFits-int_wrap, int_wrap-sub_right, int_wrap_fits}
use Rattle.journal.specs.declared.entry.Entry.{Entry}
use Rattle.journal.specs.Meaning.{newest_of, older_of}
use Rattle.journal.proofs.Newest.{newest_and_older}
use Rattle.journal.proofs.Entries.{same_entry, number_fits}
use Rattle.delta_journal.specs.Differences.{renumbered, newest_number, differences, originals, base_of, NumbersComeBack}

pub number_less_difference_is_number_before : (n before : ℤ) → SFits w32 before → int_wrap w32 (n -ℤ int_wrap w32 (n -ℤ before)) ≡ before
number_less_difference_is_number_before n before f =
    let e : n -ℤ (n -ℤ before) ≡ before = omega (arith, ints) in
    int_wrap-sub_right w32 n (n -ℤ before) ∙ ap (int_wrap w32) e ∙ int_wrap_fits w32 before f

newest_number_fits : (l : List Entry) (base : ℤ) → SFits w32 base → SFits w32 (newest_number base l)
newest_number_fits [] base f = f
newest_number_fits (e ∷ l) base f = number_fits e

originals_of_differences : (l : List Entry) (base : ℤ) → SFits w32 base → originals (newest_number base l) (differences base l) ≡ l
originals_of_differences [] base f = refl
originals_of_differences (e ∷ l) base f =
    let before = number_less_difference_is_number_before e.number (newest_number base l) (newest_number_fits l base f) in
    let same : renumbered e e.number ≡ e = same_entry _ e refl refl (int_wrap_fits w32 e.number (number_fits e)) in
    λ i. same i ∷ (ap (λ n. originals n (differences base l)) before ∙ originals_of_differences l base f) i

newest_original_has_kept_number : (ds : List Entry) (kept : ℤ) → SFits w32 kept → newest_number (base_of kept ds) (originals kept ds) ≡ kept
newest_original_has_kept_number [] kept f = refl
newest_original_has_kept_number (d ∷ ds) kept f = int_wrap_fits w32 kept f

-- a difference's number is wrapped already
pub difference_number : (e d : Entry) (kept n : ℤ) → n ≡ int_wrap w32 (e.number -ℤ kept) → d ≡ renumbered e n → d.number ≡ int_wrap w32 (e.number -ℤ kept)
difference_number e d kept n w h =
    ap (λ x. x.number) h ∙ ap (int_wrap w32) w ∙ int_wrap_fits w32 (int_wrap w32 (e.number -ℤ kept)) (SFits-int_wrap w32 (e.number -ℤ kept))

pub difference_stands_on_differences : (ds : List Entry) (kept : ℤ) (d e : Entry) → SFits w32 kept → d.owner ≡ e.owner → d.kind ≡ e.kind → d.number ≡ int_wrap w32 (e.number -ℤ kept) → differences (base_of kept ds) (originals kept ds) ≡ ds → differences (base_of kept ds) (e ∷ originals kept ds) ≡ d ∷ ds
difference_stands_on_differences ds kept d e f p q r back =
    let same : renumbered e (e.number -ℤ newest_number (base_of kept ds) (originals kept ds)) ≡ d =
    same_entry _ d (sym p) (sym q) (ap (λ n. int_wrap w32 (e.number -ℤ n)) (newest_original_has_kept_number ds kept f) ∙ sym r) in
    λ i. same i ∷ back i

pub differences_of_originals : (ds : List Entry) (kept : ℤ) → SFits w32 kept → differences (base_of kept ds) (originals kept ds) ≡ ds
differences_of_originals [] kept f = refl
differences_of_originals (d ∷ ds) kept f =
    let before : ℤ = int_wrap w32 (kept -ℤ d.number) in
    let g : SFits w32 before = SFits-int_wrap w32 (kept -ℤ d.number) in
    let r : d.number ≡ int_wrap w32 (int_wrap w32 kept -ℤ before) =
    sym (ap (λ n. int_wrap w32 (n -ℤ before)) (int_wrap_fits w32 kept f) ∙ number_less_difference_is_number_before kept d.number (number_fits d)) in
    difference_stands_on_differences ds before d (renumbered d kept) g refl refl r (differences_of_originals ds before g)

pub numbers_come_back : NumbersComeBack
numbers_come_back = ((λ l. originals_of_differences l (pos 0) (record { sfits = lit< tt })), (λ kept ds f. differences_of_originals ds kept f))

-- without the newest difference
pub popped_base : (held left : List Entry) (d : Entry) (kept before : ℤ) → Some d ≡ newest_of held → left ≡ older_of held → before ≡ int_wrap w32 (kept -ℤ d.number) → base_of before left ≡ base_of kept held
popped_base held left d kept before n o b = (λ i. base_of (b i) (o i)) ∙ sym (ap (base_of kept) (newest_and_older held d n))

pub popped_originals : (held left : List Entry) (d : Entry) (kept before : ℤ) → Some d ≡ newest_of held → left ≡ older_of held → before ≡ int_wrap w32 (kept -ℤ d.number) → originals before left ≡ older_of (originals kept held)
popped_originals held left d kept before n o b = (λ i. originals (b i) (o i)) ∙ sym (ap (λ l. older_of (originals kept l)) (newest_and_older held d n))
