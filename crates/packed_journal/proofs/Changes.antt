-- What a push and a pop do to the list and the bytes.
use Rattle.std.proofs.Common.{◌≡◌, ℕ, ◌+◌, ◌<◌, ◌≤◌, true, false, List, ◌∷◌, ◌++◌, length, take, Some, None, Option, sym, ap, ◌∙◌, arith}
use Rattle.std.proofs.Math.Nat.{ℕ_set}
use mathlib.Core.List.{is_set as List_set}
use mathlib.Core.HLevel.{is_prop→PathP}
use native.Mathlib.Bridge.{le_prop}
use Rattle.std.proofs.lemmas.List.{append_cancel_right, length-take-le, take-take}
use Rattle.std.proofs.lemmas.Bool.{le-leb, lt-leb}
use Rattle.journal.specs.declared.entry.Entry.{Entry}
use Rattle.varint.specs.Written.{Written}
use Rattle.varint.proofs.WrittenBytes.{written_front}
use Rattle.entry_codec.specs.Writing.{entry_bytes}
use Rattle.packed_journal.specs.declared.last.Last.{Last}
use Rattle.packed_journal.specs.declared.PackedJournal.{PackedJournal}
use Rattle.packed_journal.specs.Packing.{packed, bytes_fit, last_entry, entries_of, shown}
use Rattle.packed_journal.specs.Calls.{LastOf}
use Rattle.packed_journal.proofs.Lasts.{last_bytes}
use Rattle.packed_journal.proofs.Packs.{packed_push, length_packed_push, last_before, entries_none, entries_some, entries_of_pushed}

pub last_of : (bs : List ℕ) (used : ℕ) (o : Option Last) → used ≤ length bs → take used bs ≡ packed (shown used bs) → o ≡ last_entry (take used bs) → LastOf bs used o
last_of bs used None w own h = entries_none (take used bs) (sym h)
last_of bs used (Some l) w own h =
    let b = last_before (take used bs) l (sym h) in
    let k : l.start ≤ used = omega (arith, b.0, length-take-le used bs w) in
    let cut : take l.start (take used bs) ≡ take l.start bs = take-take l.start used bs k in
    let list : shown used bs ≡ l.entry ∷ shown l.start bs = entries_some (take used bs) l (sym h) ∙ ap (λ x. l.entry ∷ entries_of x) cut in
    let both : take l.start bs ++ entry_bytes l.entry ≡ packed (shown l.start bs) ++ entry_bytes l.entry =
    ap (λ t. t ++ entry_bytes l.entry) (sym cut) ∙ sym (last_bytes (take used bs) l (sym h)) ∙ own ∙ ap packed list ∙ packed_push l.entry (shown l.start bs) in
    (list, k, append_cancel_right (take l.start bs) (packed (shown l.start bs)) (entry_bytes l.entry) both)

-- an entry more behind the used bytes
pub record Longer (bs cs : List ℕ) (used end : ℕ) (e : Entry) : Type 0 where
  pub list : shown end cs ≡ e ∷ shown used bs
  pub own : take end cs ≡ packed (shown end cs)
  pub fits : bytes_fit (length bs) (e ∷ shown used bs) ≡ true

pub longer : (bs cs : List ℕ) (used end : ℕ) (e : Entry) → used ≤ length bs → take used bs ≡ packed (shown used bs) → Written bs used (entry_bytes e) end cs → Longer bs cs used end e
longer bs cs used end e w own h =
    let front : take end cs ≡ take used bs ++ entry_bytes e = written_front bs cs (entry_bytes e) used end h in
    let list : shown end cs ≡ e ∷ shown used bs = ap entries_of front ∙ entries_of_pushed (take used bs) e in
    record {
      list = list;
      own = front ∙ ap (λ t. t ++ entry_bytes e) own ∙ sym (packed_push e (shown used bs)) ∙ sym (ap packed list);
      fits = le-leb _ _ (omega (arith, length_packed_push e (shown used bs), ap length own, length-take-le used bs w, h.ends, h.within));
    }

pub no_longer : (bs : List ℕ) (used : ℕ) (e : Entry) → used ≤ length bs → take used bs ≡ packed (shown used bs) → length bs < used + length (entry_bytes e) → bytes_fit (length bs) (e ∷ shown used bs) ≡ false
no_longer bs used e w own l = lt-leb _ _ (omega (arith, length_packed_push e (shown used bs), ap length own, length-take-le used bs w))

-- two journals on the same bytes with the same count are the same
pub same_journal : (a b : PackedJournal) → a.bytes ≡ b.bytes → a.used ≡ b.used → a ≡ b
same_journal a b p q = λ i. record {
  bytes = p i;
  used = q i;
  within = is_prop→PathP (λ j. q j ≤ length (p j).now) (λ j. le_prop) a.within b.within i;
  own = is_prop→PathP (λ j. take (q j) (p j).now ≡ packed (shown (q j) (p j).now)) (λ j. List_set ℕ_set (take (q j) (p j).now) (packed (shown (q j) (p j).now))) a.own b.own i;
}
