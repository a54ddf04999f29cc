-- Bytes and entries yield each other back.
use Rattle.std.proofs.Common.{◌≡◌, ℕ, zero, suc, ◌+◌, ◌-◌, ◌<◌, ◌≤◌, true, false, cond, leb, List, [], ◌∷◌, ◌++◌, reverse, length, take, drop, Ok, Err, Result, sym, refl, ap, ◌∙◌, subst, ⊎_elim, append_assoc, arith}
use mathlib.Core.List.{reverse-append}
use Rattle.std.specs.List.{flat_map}
use Rattle.std.proofs.lemmas.List.{append-nil, drop_at, drop_all, drop-drop, length-append, length-drop, reverse-reverse}
use Rattle.std.proofs.lemmas.Bool.{le-leb, lt-leb, leb-true, cases_lt}
use Rattle.varint.specs.Readings.{Ends}
use Rattle.varint.specs.Writings.{writing}
use Rattle.varint.proofs.Readings.{ends_before_writing}
use Rattle.journal.specs.declared.entry.Entry.{Entry}
use Rattle.journal.specs.declared.refusal.LayRefusal.{LayRefusal}
use Rattle.journal.specs.declared.refusal.LayRefusal.TheVariants.{UsedBeyondEnd}
use Rattle.entry_codec.specs.Reading.{and_then, entry_at}
use Rattle.entry_codec.specs.Writing.{entry_bytes}
use Rattle.entry_codec.proofs.EntryReads.{read_entry_bytes, bytes_read, forward_read}
use Rattle.packed_journal.specs.Packing.{packed, entries_of}
use Rattle.packed_journal.specs.Laying.{read_from, read_all, laid, YieldEachOtherBack, OneWriting}
use Rattle.packed_journal.proofs.Packs.{entry_long, entries_of_packed}

-- a number ends before entries
ends_before_entry : (e : Entry) (xs : List ℕ) → Ends (entry_bytes e ++ xs)
unfolding entry_bytes
ends_before_entry e xs = subst Ends (sym (append_assoc (writing e.owner) _ xs)) (ends_before_writing e.owner _)

ends_before_entries : (xs : List Entry) → Ends (flat_map entry_bytes xs)
ends_before_entries [] = tt
ends_before_entries (x ∷ xs) = ends_before_entry x (flat_map entry_bytes xs)

-- the steps of reading on
pub read_end : (most : ℕ) (bs : List ℕ) (at : ℕ) (older : List Entry) → length bs ≤ at → read_from most bs at older ≡ Ok older
unfolding read_from
read_end zero bs at older h = refl
read_end (suc most) bs at older h = ap (λ t. cond t (Ok older) (and_then (entry_at bs at) (λ p. read_from most bs p.1 (p.0 ∷ older)))) (le-leb (length bs) at h)

read_step : (most : ℕ) (bs : List ℕ) (at : ℕ) (older : List Entry) (r : Result (Entry × ℕ) LayRefusal) → at < length bs → entry_at bs at ≡ r
    → read_from (suc most) bs at older ≡ and_then r (λ p. read_from most bs p.1 (p.0 ∷ older))
unfolding read_from
read_step most bs at older r h e =
    ap (λ t. cond t (Ok older) (and_then (entry_at bs at) (λ p. read_from most bs p.1 (p.0 ∷ older)))) (lt-leb (length bs) at h)
    ∙ ap (λ r. and_then r (λ p. read_from most bs p.1 (p.0 ∷ older))) e

-- the turns of a reader that has so many left
pub read_refused : (most : ℕ) (bs : List ℕ) (at : ℕ) (older : List Entry) (f : LayRefusal) → at < length bs → length bs - at ≤ most → entry_at bs at ≡ Err f → read_from most bs at older ≡ Err f
read_refused zero bs at older f h l e = absurd (omega arith)
read_refused (suc most) bs at older f h l e = read_step most bs at older (Err f) h e

pub read_turn : (most : ℕ) (bs : List ℕ) (at : ℕ) (older : List Entry) (p : Entry × ℕ) → at < length bs → length bs - at ≤ most → entry_at bs at ≡ Ok p
    → (less : ℕ) × (length bs - p.1 ≤ less) × (read_from most bs at older ≡ read_from less bs p.1 (p.0 ∷ older))
read_turn zero bs at older p h l e = absurd (omega arith)
read_turn (suc most) bs at older p h l e = (most, omega (arith, (forward_read bs at p e).0), read_step most bs at older (Ok p) h e)

-- written entries are read
read_written : (most : ℕ) (bs : List ℕ) (at : ℕ) (older xs : List Entry) → drop at bs ≡ flat_map entry_bytes xs → length bs - at ≤ most → read_from most bs at older ≡ Ok (reverse xs ++ older)
read_written most bs at older [] e h = read_end most bs at older (omega (arith, length-drop at bs, ap length e))
read_written zero bs at older (x ∷ xs) e h =
    absurd (omega (arith, length-drop at bs, ap length e, length-append (entry_bytes x) (flat_map entry_bytes xs), entry_long x))
read_written (suc most) bs at older (x ∷ xs) e h =
    let l = ap length e ∙ length-append (entry_bytes x) (flat_map entry_bytes xs) in
    let end : ℕ = at + length (entry_bytes x) in
    let rest : drop (at + length (entry_bytes x)) bs ≡ flat_map entry_bytes xs =
    sym (drop-drop (length (entry_bytes x)) at bs) ∙ ap (drop (length (entry_bytes x))) e ∙ drop_at (entry_bytes x) (flat_map entry_bytes xs) (length (entry_bytes x)) refl in
    read_step most bs at older _ (omega (arith, length-drop at bs, l, entry_long x)) (read_entry_bytes bs (flat_map entry_bytes xs) at x (ends_before_entries xs) e)
    ∙ read_written most bs (at + length (entry_bytes x)) (x ∷ older) xs rest (omega (arith, length-drop at bs, l, entry_long x))
    ∙ ap Ok (sym (ap (λ t. t ++ older) (reverse-append (x ∷ []) xs) ∙ append_assoc (reverse xs) (x ∷ []) older))

-- read entries were written
pub record Read (bs : List ℕ) (at : ℕ) (older es : List Entry) : Type 0 where
  pub newer : List Entry
  pub bytes : drop at bs ≡ flat_map entry_bytes newer
  pub list : es ≡ reverse newer ++ older

read_more : (bs : List ℕ) (at : ℕ) (older es : List Entry) (p : Entry × ℕ) → entry_at bs at ≡ Ok p → Read bs p.1 (p.0 ∷ older) es → Read bs at older es
read_more bs at older es p e r = record {
  newer = p.0 ∷ r.newer;
  bytes = bytes_read bs at p e ∙ ap (λ t. entry_bytes p.0 ++ t) r.bytes;
  list = r.list ∙ sym (ap (λ t. t ++ older) (reverse-append (p.0 ∷ []) r.newer) ∙ append_assoc (reverse r.newer) (p.0 ∷ []) older);
}

read_none : (bs : List ℕ) (at : ℕ) (older es : List Entry) → length bs ≤ at → ◌≡◌ {A = Result (List Entry) LayRefusal} (Ok older) (Ok es) → Read bs at older es
read_none bs at older es h e = record { newer = []; bytes = drop_all at bs h; list = let q : older ≡ es = cc in sym q }

read_going : (bs : List ℕ) (at : ℕ) (older es : List Entry) (next : Entry × ℕ → Result (List Entry) LayRefusal) (r : Result (Entry × ℕ) LayRefusal) → entry_at bs at ≡ r → and_then r next ≡ Ok es
    → ((p : Entry × ℕ) → at < p.1 → next p ≡ Ok es → Read bs p.1 (p.0 ∷ older) es) → Read bs at older es
read_going bs at older es next (Ok p) e h more = read_more bs at older es p e (more p (forward_read bs at p e).0 h)
read_going bs at older es next (Err f) e h more = let z : ◌≡◌ {A = ℕ} 0 1 = cc in absurd (omega arith)

read_sound : (most : ℕ) (bs : List ℕ) (at : ℕ) (older es : List Entry) → length bs - at ≤ most → read_from most bs at older ≡ Ok es → Read bs at older es
unfolding read_from
read_sound zero bs at older es h e = read_none bs at older es (omega arith) e
read_sound (suc most) bs at older es h e =
    ⊎_elim
    (λ l. read_going bs at older es _ (entry_at bs at) refl (sym (read_step most bs at older (entry_at bs at) l refl) ∙ e)
    (λ p f k. read_sound most bs p.1 (p.0 ∷ older) es (omega arith) k))
    (λ l. read_none bs at older es l (sym (read_end (suc most) bs at older l) ∙ e))
    (cases_lt at (length bs))

-- all bytes
all_read : (bs : List ℕ) (es : List Entry) → bs ≡ packed es → read_all bs ≡ Ok es
unfolding read_all packed
all_read bs es e =
    read_written (length bs) bs 0 [] (reverse es) e (omega arith) ∙ ap Ok (append-nil (reverse (reverse es)) ∙ reverse-reverse es)

all_written : (bs : List ℕ) (es : List Entry) → read_all bs ≡ Ok es → bs ≡ packed es
unfolding read_all packed
all_written bs es e =
    let r = read_sound (length bs) bs 0 [] es (omega arith) e in
    r.bytes ∙ ap (flat_map entry_bytes) (sym (reverse-reverse r.newer) ∙ ap reverse (sym (r.list ∙ append-nil (reverse r.newer))))

-- what was read is what the bytes hold
pub read_is_held : (bs : List ℕ) (es : List Entry) → read_all bs ≡ Ok es → (read_all bs ≡ Ok (entries_of bs)) × (bs ≡ packed (entries_of bs))
read_is_held bs es e =
    let w = all_written bs es e in
    let h : es ≡ entries_of bs = sym (ap entries_of w ∙ entries_of_packed es) in
    let own : bs ≡ packed (entries_of bs) = w ∙ ap packed h in
    (e ∙ ap Ok h, own)

used_within : (bs : List ℕ) (used : ℕ) (es : List Entry) → laid bs used ≡ Ok es → (used ≤ length bs) × (read_all (take used bs) ≡ Ok es)
used_within bs used es e =
    elim (leb used (length bs)) as (λ t. leb used (length bs) ≡ t → cond t (read_all (take used bs)) (Err (UsedBeyondEnd (length bs))) ≡ Ok es → (used ≤ length bs) × (read_all (take used bs) ≡ Ok es)) [
      | true ↦ λ t h. (leb-true used (length bs) t, h)
      | false ↦ λ t h. let z : ◌≡◌ {A = ℕ} 0 1 = cc in absurd (omega arith)
    ] refl e

pub yield_each_other_back : YieldEachOtherBack
yield_each_other_back bs used es = (
  λ h. ap (λ t. cond t (read_all (take used bs)) (Err (UsedBeyondEnd (length bs)))) (le-leb used (length bs) h.0) ∙ all_read (take used bs) es h.1,
  λ e. let u = used_within bs used es e in (u.0, all_written (take used bs) es u.1),
)

pub one_writing : OneWriting
one_writing bs cs used taken es e f = ((yield_each_other_back bs used es).1 e).1 ∙ sym ((yield_each_other_back cs taken es).1 f).1
