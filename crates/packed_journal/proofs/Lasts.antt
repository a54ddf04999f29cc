-- The entry that is found from the end is the one that was written there.
use Rattle.std.proofs.Common.{◌≡◌, ℕ, zero, suc, ◌<◌, ◌≤◌, true, false, cond, IfNone, IfSome, ltb, List, ◌++◌, length, get_or, take, drop, Some, None, Ok, Err, Option, Result, sym, refl, ap, ◌∙◌, subst, ⊎_elim, arith}
use Rattle.std.proofs.lemmas.List.{append-nil, drop_all, take-append-drop}
use Rattle.std.proofs.lemmas.Bool.{ltb-true, ltb-false, lt-ltb, le-ltb, cases_lt, cases_order}
use Rattle.varint.specs.Readings.{WritingAt}
use Rattle.varint.proofs.Readings.{own_first, own_later, own_next}
use Rattle.varint.specs.Zigzag.{folded}
use Rattle.journal.specs.Kinds.{kind_number}
use Rattle.journal.specs.declared.entry.Entry.{Entry}
use Rattle.journal.specs.declared.refusal.LayRefusal.{LayRefusal}
use Rattle.entry_codec.specs.Reading.{entry_at}
use Rattle.entry_codec.specs.Writing.{entry_bytes}
use Rattle.entry_codec.proofs.EntryReads.{Parts, parts_read, bytes_read}
use Rattle.packed_journal.specs.declared.last.Last.{Last}
use Rattle.packed_journal.specs.Packing.{last_start, if_found, last_from, last_entry}

-- a number begins at `start`, and only later groups follow up to `end`
pub record Begins (bs : List ℕ) (start end : ℕ) : Type 0 where
  pub before : start < end
  pub first : get_or bs start 0 < 128
  pub later : (i : ℕ) → start < i → i < end → 128 ≤ get_or bs i 0

later_more : (bs : List ℕ) (s n : ℕ) → ((i : ℕ) → s < i → i < n → 128 ≤ get_or bs i 0) → 128 ≤ get_or bs n 0 → (i : ℕ) → s < i → i < suc n → 128 ≤ get_or bs i 0
later_more bs s n f h i l u = ⊎_elim (λ k. f i l k) (λ k. let e : i ≡ n = omega arith in subst (λ m. 128 ≤ get_or bs m 0) (sym e) h) (cases_lt i n)

start_begins : (bs : List ℕ) (n s : ℕ) → last_start bs n ≡ Some s → Begins bs s n
unfolding last_start
start_begins bs zero s e = let z : ◌≡◌ {A = ℕ} 0 1 = cc in absurd (omega arith)
start_begins bs (suc n) s e =
    elim (ltb (get_or bs n 0) 128) as (λ t. ltb (get_or bs n 0) 128 ≡ t → cond t (Some n) (last_start bs n) ≡ Some s → Begins bs s (suc n)) [
      | true ↦ λ p q.
          let k : n ≡ s = cc in
          record { before = omega arith; first = subst (λ m. get_or bs m 0 < 128) k (ltb-true (get_or bs n 0) 128 p); later = λ i l u. absurd (omega arith) }
      | false ↦ λ p q.
          let b = start_begins bs n s q in
          record { before = omega (arith, b.before); first = b.first; later = later_more bs s n b.later (ltb-false (get_or bs n 0) 128 p) }
    ] refl e

begins_start : (bs : List ℕ) (n s : ℕ) → Begins bs s n → last_start bs n ≡ Some s
unfolding last_start
begins_start bs zero s b = absurd (omega (arith, b.before))
begins_start bs (suc n) s b =
    ⊎_elim
    (λ l. ap (λ t. cond t (Some n) (last_start bs n)) (le-ltb (get_or bs n 0) 128 (b.later n l (omega arith)))
    ∙ begins_start bs n s (record { before = l; first = b.first; later = λ i k u. b.later i k (omega arith) }))
    (λ l.
    let e : n ≡ s = omega (arith, b.before) in
    ap (λ t. cond t (Some n) (last_start bs n)) (lt-ltb (get_or bs n 0) 128 (subst (λ m. get_or bs m 0 < 128) (sym e) b.first)) ∙ ap Some e)
    (cases_lt s n)

-- one step down
own_begins : (bs : List ℕ) (at v end : ℕ) → WritingAt bs at v end → Begins bs at end
own_begins bs at v end o = record { before = o.forward; first = own_first bs at v end o; later = λ i. own_later bs at v end i o }

-- a number that is read from its start ends where the next one begins
ends_at_next : (bs : List ℕ) (at v end next : ℕ) → WritingAt bs at v end → Begins bs at next → next ≤ length bs → (next < length bs → get_or bs next 0 < 128) → end ≡ next
ends_at_next bs at v end next o b h f =
    ⊎_elim (λ e. e)
    (⊎_elim
    (λ l. absurd (omega (arith, own_next bs at v end o (omega arith), b.later end o.forward l)))
    (λ l. absurd (omega (arith, f (omega (arith, o.within)), own_later bs at v end next o b.before l))))
    (cases_order end next)

found : {X Y : Type 0} (o : Option X) (next : X → Option Y) (y : Y) → if_found o next ≡ Some y → (x : X) × (o ≡ Some x) × (next x ≡ Some y)
found None next y e = let z : ◌≡◌ {A = ℕ} 0 1 = cc in absurd (omega arith)
found (Some x) next y e = (x, refl, e)

from_found : (start : ℕ) (r : Result (Entry × ℕ) LayRefusal) (l : Last) → last_from start r ≡ Some l → (p : Entry × ℕ) × (r ≡ Ok p) × (p.0 ≡ l.entry) × (start ≡ l.start)
from_found start (Ok p) l e =
    let same : ◌≡◌ {A = Last} (record { entry = p.0; start = start }) l = cc in
    (p, refl, ap (λ x. x.entry) same, ap (λ x. x.start) same)
from_found start (Err f) l e = let z : ◌≡◌ {A = ℕ} 0 1 = cc in absurd (omega arith)

-- an entry that is read up to the end is the last one
pub read_is_last : (bs : List ℕ) (at : ℕ) (p : Entry × ℕ) → entry_at bs at ≡ Ok p → p.1 ≡ length bs → last_entry bs ≡ Some (record { entry = p.0; start = at })
unfolding last_entry
read_is_last bs at p e h =
    let parts = parts_read bs at p e in
    let number = begins_start bs p.1 parts.number_place (own_begins bs parts.number_place _ p.1 parts.number) in
    let kind = begins_start bs parts.number_place parts.kind_place (own_begins bs parts.kind_place _ parts.number_place parts.kind) in
    let owner = begins_start bs parts.kind_place at (own_begins bs at _ parts.kind_place parts.owner) in
    ap (λ o. if_found o (λ number. if_found (last_start bs number) (λ kind. if_found (last_start bs kind) (λ start. last_from start (entry_at bs start))))) (ap (last_start bs) (sym h) ∙ number)
    ∙ ap (λ o. if_found o (λ kind. if_found (last_start bs kind) (λ start. last_from start (entry_at bs start)))) kind
    ∙ ap (λ o. if_found o (λ start. last_from start (entry_at bs start))) owner
    ∙ ap (last_from at) e

-- the last entry is read up to the end
pub record LastRead (bs : List ℕ) (l : Last) : Type 0 where
  pub placed : Entry × ℕ
  pub read : entry_at bs l.start ≡ Ok placed
  pub entry : placed.0 ≡ l.entry
  pub end : placed.1 ≡ length bs

-- three numbers in a row, read as an entry, reach the end
ends_at_end : (bs : List ℕ) (start kind number end : ℕ) (e : Entry) → Parts bs start e end → Begins bs start kind → Begins bs kind number → Begins bs number (length bs) → end ≡ length bs
ends_at_end bs start kind number end e parts owner· kind· number· =
    let k : parts.kind_place ≡ kind = ends_at_next bs start e.owner parts.kind_place kind parts.owner owner· (omega (arith, number·.before, kind·.before)) (λ _. kind·.first) in
    let n : parts.number_place ≡ number =
    ends_at_next bs kind (kind_number e.kind) parts.number_place number (subst (λ m. WritingAt bs m (kind_number e.kind) parts.number_place) k parts.kind) kind· (omega (arith, number·.before)) (λ _. number·.first) in
    ends_at_next bs number (folded e.number) end (length bs) (subst (λ m. WritingAt bs m (folded e.number) end) n parts.number) number· (omega arith) (λ h. absurd (omega arith))

last_is_read : (bs : List ℕ) (l : Last) → last_entry bs ≡ Some l → LastRead bs l
unfolding last_entry
last_is_read bs l e =
    let one = found (last_start bs (length bs)) _ l e in
    let two = found (last_start bs one.0) _ l one.2 in
    let three = found (last_start bs two.0) _ l two.2 in
    let last = from_found three.0 (entry_at bs three.0) l three.2 in
    record {
      placed = last.0;
      read = ap (entry_at bs) (sym last.3) ∙ last.1;
      entry = last.2;
      end = ends_at_end bs three.0 two.0 one.0 last.0.1 last.0.0 (parts_read bs three.0 last.0 last.1)
          (start_begins bs two.0 three.0 three.1) (start_begins bs one.0 two.0 two.1) (start_begins bs (length bs) one.0 one.1);
    }

-- so the bytes are those before it and its own
pub last_bytes : (bs : List ℕ) (l : Last) → last_entry bs ≡ Some l → bs ≡ take l.start bs ++ entry_bytes l.entry
last_bytes bs l e =
    let r = last_is_read bs l e in
    let here : drop l.start bs ≡ entry_bytes l.entry =
    bytes_read bs l.start r.placed r.read ∙ (λ i. entry_bytes (r.entry i) ++ drop (r.end i) bs)
    ∙ ap (λ t. entry_bytes l.entry ++ t) (drop_all (length bs) bs (omega arith)) ∙ append-nil (entry_bytes l.entry) in
    sym (take-append-drop l.start bs) ∙ ap (λ t. take l.start bs ++ t) here

no_start : (bs : List ℕ) (n : ℕ) → ((k : ℕ) → k < n → 128 ≤ get_or bs k 0) → last_start bs n ≡ None
unfolding last_start
no_start bs zero h = refl
no_start bs (suc n) h =
    ap (λ t. cond t (Some n) (last_start bs n)) (le-ltb (get_or bs n 0) 128 (h n (omega arith)))
    ∙ no_start bs n (λ k l. h k (omega arith))

-- what is found from the end on is the last place where a number begins
pub last_found : (bs : List ℕ) (end : ℕ) (found : Option ℕ) → IfNone found ((k : ℕ) → k < end → 128 ≤ get_or bs k 0) → IfSome found (λ start. (start < end) × (get_or bs start 0 < 128) × ((k : ℕ) → start < k → k < end → 128 ≤ get_or bs k 0)) → found ≡ last_start bs end
last_found bs end None n h = sym (no_start bs end n)
last_found bs end (Some start) n h = sym (begins_start bs end start (record { before = h.0; first = h.1; later = h.2 }))
