-- The bytes of a list, and the list that bytes hold.
use Rattle.std.proofs.Common.{◌≡◌, ℕ, zero, suc, ◌+◌, ◌<◌, ◌≤◌, List, [], ◌∷◌, ◌++◌, reverse, length, take, Some, None, Option, sym, refl, ap, ◌∙◌, arith}
use mathlib.Core.List.{reverse-append}
use Rattle.std.specs.List.{flat_map}
use Rattle.std.proofs.lemmas.List.{append-nil, drop_at, length-append, length-take, nil_from_length, take_at, flat_map_more}
use Rattle.varint.proofs.Writings.{size_least}
use Rattle.journal.specs.declared.entry.Entry.{Entry}
use Rattle.entry_codec.specs.Writing.{entry_bytes}
use Rattle.entry_codec.proofs.EntryReads.{read_entry_bytes}
use Rattle.entry_codec.proofs.EntryWrites.{length_entry}
use Rattle.packed_journal.specs.declared.last.Last.{Last}
use Rattle.packed_journal.specs.Packing.{packed, last_entry, last_start, entries_before, entries_within, entries_of}
use Rattle.packed_journal.proofs.Lasts.{read_is_last, last_bytes}

pub packed_push : (e : Entry) (es : List Entry) → packed (e ∷ es) ≡ packed es ++ entry_bytes e
unfolding packed
packed_push e es = ap (flat_map entry_bytes) (reverse-append (e ∷ []) es) ∙ sym (flat_map_more entry_bytes [] (reverse es) e)

pub length_packed_push : (e : Entry) (es : List Entry) → length (packed (e ∷ es)) ≡ length (packed es) + length (entry_bytes e)
length_packed_push e es = ap length (packed_push e es) ∙ length-append (packed es) (entry_bytes e)

pub entry_long : (e : Entry) → 0 < length (entry_bytes e)
entry_long e = omega (arith, length_entry e, size_least e.owner)

-- an entry behind other bytes is the last one
last_of_pushed : (bs : List ℕ) (e : Entry) → last_entry (bs ++ entry_bytes e) ≡ Some (record { entry = e; start = length bs })
last_of_pushed bs e =
    read_is_last (bs ++ entry_bytes e) (length bs) (e, length bs + length (entry_bytes e))
    (read_entry_bytes (bs ++ entry_bytes e) [] (length bs) e tt (drop_at bs (entry_bytes e) (length bs) refl ∙ sym (append-nil (entry_bytes e))))
    (sym (length-append bs (entry_bytes e)))

-- the last entry and the bytes before it
pub last_before : (bs : List ℕ) (l : Last) → last_entry bs ≡ Some l → (l.start < length bs) × (length (take l.start bs) ≡ l.start) × (length bs ≡ l.start + length (entry_bytes l.entry))
last_before bs l e =
    let s = ap length (last_bytes bs l e) ∙ length-append (take l.start bs) (entry_bytes l.entry) in
    let t = length-take l.start bs in
    let k = entry_long l.entry in
    (omega arith, omega arith, omega arith)

none_in_nothing : last_entry [] ≡ None
unfolding last_entry last_start
none_in_nothing = refl

within_nothing : (most : ℕ) → entries_within most [] ≡ []
unfolding entries_within
within_nothing zero = refl
within_nothing (suc most) = ap (entries_before (λ start. entries_within most (take start []))) none_in_nothing

before_same : (f g : ℕ) (bs : List ℕ) (o : Option Last) → last_entry bs ≡ o → ((rs : List ℕ) → length rs < length bs → entries_within f rs ≡ entries_within g rs)
    → entries_before (λ start. entries_within f (take start bs)) o ≡ entries_before (λ start. entries_within g (take start bs)) o
before_same f g bs None e same = refl
before_same f g bs (Some l) e same = let h = last_before bs l e in ap (λ t. l.entry ∷ t) (same (take l.start bs) (omega (arith, h.0, h.1)))

-- more turns than there are bytes change nothing
within_same : (f g : ℕ) (bs : List ℕ) → length bs ≤ f → length bs ≤ g → entries_within f bs ≡ entries_within g bs
unfolding entries_within
within_same zero g bs h k = ap (entries_within zero) (nil_from_length bs (omega arith)) ∙ sym (ap (entries_within g) (nil_from_length bs (omega arith)) ∙ within_nothing g)
within_same (suc f) zero bs h k = ap (entries_within (suc f)) (nil_from_length bs (omega arith)) ∙ within_nothing (suc f) ∙ sym (ap (entries_within zero) (nil_from_length bs (omega arith)))
within_same (suc f) (suc g) bs h k = before_same f g bs (last_entry bs) refl (λ rs l. within_same f g rs (omega arith) (omega arith))

pub entries_none : (bs : List ℕ) → last_entry bs ≡ None → entries_of bs ≡ []
unfolding entries_of entries_within
entries_none [] e = refl
entries_none (b ∷ bs) e = ap (entries_before (λ start. entries_within (length bs) (take start (b ∷ bs)))) e

pub entries_some : (bs : List ℕ) (l : Last) → last_entry bs ≡ Some l → entries_of bs ≡ l.entry ∷ entries_of (take l.start bs)
unfolding entries_of entries_within
entries_some [] l e = let z : ◌≡◌ {A = Option Last} None (Some l) = sym none_in_nothing ∙ e in let y : ◌≡◌ {A = ℕ} 0 1 = cc in absurd (omega arith)
entries_some (b ∷ bs) l e =
    let h = last_before (b ∷ bs) l e in
    ap (entries_before (λ start. entries_within (length bs) (take start (b ∷ bs)))) e
    ∙ ap (λ t. l.entry ∷ t) (within_same (length bs) (length (take l.start (b ∷ bs))) (take l.start (b ∷ bs)) (omega (arith, h.0, h.1)) (omega arith))

pub entries_of_pushed : (bs : List ℕ) (e : Entry) → entries_of (bs ++ entry_bytes e) ≡ e ∷ entries_of bs
entries_of_pushed bs e =
    entries_some (bs ++ entry_bytes e) (record { entry = e; start = length bs }) (last_of_pushed bs e)
    ∙ ap (λ t. e ∷ entries_of t) (take_at bs (entry_bytes e) (length bs) refl)

-- the bytes of a list hold it
pub entries_of_packed : (es : List Entry) → entries_of (packed es) ≡ es
unfolding packed entries_of entries_within
entries_of_packed [] = refl
entries_of_packed (e ∷ es) = ap entries_of (packed_push e es) ∙ entries_of_pushed (packed es) e ∙ ap (λ t. e ∷ t) (entries_of_packed es)
