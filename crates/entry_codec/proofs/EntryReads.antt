-- What is read is what was written.
use Rattle.std.proofs.Common.{◌≡◌, ℕ, ◌+◌, ◌%◌, ◌<◌, ◌≤◌, true, false, cond, leb, List, ◌++◌, length, drop, ℤ, Some, None, Ok, Err, Option, Result, sym, refl, ap, ◌∙◌, subst, append_assoc, arith, w32}
use Rattle.std.proofs.lemmas.List.{drop-drop, drop_at, length-append}
use Rattle.std.proofs.lemmas.Bool.{le-leb, leb-true}
use Rattle.std.specs.Int.{int_wrap}
use Rattle.std.proofs.lemmas.Int.{int_wrap_fits}
use Rattle.varint.specs.declared.number.Fault.{Fault}
use Rattle.varint.specs.Writings.{writing}
use Rattle.varint.specs.Readings.{number_at, Ends, WritingAt}
use Rattle.varint.specs.Zigzag.{folded, unfolded}
use Rattle.varint.proofs.Readings.{read_writing, own_number, ends_before_writing}
use Rattle.varint.proofs.Foldings.{unfolded_folded, folded_unfolded, folded_below, unfolded_fits}
use Rattle.journal.specs.declared.entry.Entry.{Entry}
use Rattle.journal.specs.declared.kind.Kind.{Kind}
use Rattle.journal.specs.declared.refusal.LayRefusal.{LayRefusal}
use Rattle.journal.specs.Kinds.{kind_number, kind_of}
use Rattle.journal.proofs.Entries.{same_entry, number_fits}
use Rattle.journal.proofs.KindNumbers.{kind_of_its_number, number_of_its_kind, kind_number_below}
use Rattle.entry_codec.specs.Reading.{and_then, standing, judged_part, PartRead, part_at, owner_of, number_of, entry_of, entry_at}
use Rattle.entry_codec.specs.Writing.{entry_bytes}

-- an entry in range is the one of its parts
pub entry_of_parts : (e : Entry) (o : ℕ) (k : Kind) (n : ℤ) → e.owner ≡ o → e.kind ≡ k → e.number ≡ n → e ≡ entry_of o k n
entry_of_parts e o k n p q r =
    let m : e.owner ≡ o % 32768 = omega arith in
    same_entry e (entry_of o k n) m q (sym (int_wrap_fits w32 e.number (number_fits e)) ∙ ap (int_wrap w32) r)

pub entry_from_parts : (bs : List ℕ) (at : ℕ) (o : ℕ × ℕ) (k : Kind × ℕ) (n : ℤ × ℕ) → part_at owner_of bs at ≡ Ok o → part_at kind_of bs o.1 ≡ Ok k → part_at number_of bs k.1 ≡ Ok n
    → entry_at bs at ≡ Ok (entry_of o.0 k.0 n.0, n.1)
entry_from_parts bs at o k n p q r =
    ap (λ r. and_then r (λ o. and_then (part_at kind_of bs o.1) (λ k. and_then (part_at number_of bs k.1) (λ n. Ok (entry_of o.0 k.0 n.0, n.1))))) p
    ∙ ap (λ r. and_then r (λ k. and_then (part_at number_of bs k.1) (λ n. Ok (entry_of o.0 k.0 n.0, n.1)))) q
    ∙ ap (λ r. and_then r (λ n. Ok (entry_of o.0 k.0 n.0, n.1))) r

-- one part of an entry
part_written : {X : Type 0} (meaning : ℕ → Option X) (bs rest : List ℕ) (at v : ℕ) (x : X) → v < 4294967296 → meaning v ≡ Some x → Ends rest → drop at bs ≡ writing v ++ rest
    → (part_at meaning bs at ≡ Ok (x, at + length (writing v))) × (drop (at + length (writing v)) bs ≡ rest)
part_written meaning bs rest at v x h m e d = (
  ap (judged_part meaning at) (read_writing bs at v rest h e d) ∙ ap (standing at (at + length (writing v))) m,
  sym (drop-drop (length (writing v)) at bs) ∙ ap (drop (length (writing v))) d ∙ drop_at (writing v) rest (length (writing v)) refl,
)

-- an entry's bytes are read as the entry, whatever stands before them, if a number ends after them
pub read_entry_bytes : (bs rest : List ℕ) (at : ℕ) (e : Entry) → Ends rest → drop at bs ≡ entry_bytes e ++ rest → entry_at bs at ≡ Ok (e, at + length (entry_bytes e))
unfolding entry_bytes
read_entry_bytes bs rest at e h d =
    let o : List ℕ = writing e.owner in
    let k : List ℕ = writing (kind_number e.kind) in
    let z : List ℕ = writing (folded e.number) in
    let owned : owner_of e.owner ≡ Some e.owner = ap (λ t. cond t (Some e.owner) None) (le-leb e.owner 32767 e.owned) in
    let apart : (o ++ (k ++ z)) ++ rest ≡ o ++ (k ++ (z ++ rest)) = simp append_assoc in
    let first = part_written owner_of bs (k ++ (z ++ rest)) at e.owner e.owner (omega (arith, e.owned)) owned (ends_before_writing (kind_number e.kind) (z ++ rest)) (d ∙ apart) in
    let second = part_written kind_of bs (z ++ rest) (at + length o) (kind_number e.kind) e.kind (kind_number_below e.kind) (kind_of_its_number e.kind) (ends_before_writing (folded e.number) rest) first.1 in
    let third = part_written number_of bs rest (at + length o + length k) (folded e.number) e.number (folded_below e.number e.sized) (ap Some (unfolded_folded e.number)) h second.1 in
    let same : ◌≡◌ {A = Entry × ℕ} (entry_of e.owner e.kind e.number, at + length o + length k + length z) (e, at + length (o ++ (k ++ z))) =
    let l : at + length o + length k + length z ≡ at + length (o ++ (k ++ z)) = omega (arith, length-append o (k ++ z), length-append k z) in
    λ i. (sym (entry_of_parts e e.owner e.kind e.number refl refl refl) i, l i) in
    entry_from_parts bs at _ _ _ first.0 second.0 third.0 ∙ ap Ok same

-- a part that was read with a meaning that answers as the definition does
pub part_of_read : {X : Type 0} (means : ℕ → Option X → Type 0) (meaning : ℕ → Option X) → ((n : ℕ) (o : Option X) → means n o → o ≡ meaning n)
    → (at : ℕ) (r : Result (ℕ × ℕ) Fault) (q : Result (X × ℕ) LayRefusal) → PartRead means at r q → q ≡ judged_part meaning at r
part_of_read means meaning f at (Ok p) q e = e.2 ∙ ap (standing at p.1) (f p.0 e.0 e.1)
part_of_read means meaning f at (Err fault) q e = e

-- what stands behind an accepted answer
then_accepted : {X Y : Type 0} (r : Result X LayRefusal) (next : X → Result Y LayRefusal) (y : Y) → and_then r next ≡ Ok y → (x : X) × (r ≡ Ok x) × (next x ≡ Ok y)
then_accepted (Ok x) next y e = (x, refl, e)
then_accepted (Err f) next y e = let z : ◌≡◌ {A = ℕ} 0 1 = cc in absurd (omega arith)

standing_accepted : {X : Type 0} (at end : ℕ) (o : Option X) (p : X × ℕ) → standing at end o ≡ Ok p → (o ≡ Some p.0) × (end ≡ p.1)
standing_accepted {X = X} at end (Some x) p e = let q : ◌≡◌ {A = X × ℕ} (x, end) p = cc in (ap (λ t. Some t.0) q, ap (λ t. t.1) q)
standing_accepted {X = X} at end None p e = let z : ◌≡◌ {A = ℕ} 0 1 = cc in absurd (omega arith)

judged_accepted : {X : Type 0} (meaning : ℕ → Option X) (at : ℕ) (r : Result (ℕ × ℕ) Fault) (p : X × ℕ) → judged_part meaning at r ≡ Ok p → (v : ℕ) × (r ≡ Ok (v, p.1)) × (meaning v ≡ Some p.0)
judged_accepted meaning at (Ok q) p e = let s = standing_accepted at q.1 (meaning q.0) p e in (q.0, ap (λ t. Ok (q.0, t)) s.1, s.0)
judged_accepted meaning at (Err f) p e = let z : ◌≡◌ {A = ℕ} 0 1 = cc in absurd (omega arith)

part_accepted : {X : Type 0} (meaning : ℕ → Option X) (bs : List ℕ) (at : ℕ) (p : X × ℕ) → part_at meaning bs at ≡ Ok p → (v : ℕ) × WritingAt bs at v p.1 × (meaning v ≡ Some p.0)
part_accepted meaning bs at p e = let s = judged_accepted meaning at (number_at bs at) p e in (s.0, own_number bs at s.0 p.1 s.1, s.2)

owner_accepted : (v o : ℕ) → owner_of v ≡ Some o → (v ≡ o) × (o ≤ 32767)
owner_accepted v o =
    elim (leb v 32767) as (λ t. leb v 32767 ≡ t → cond t (Some v) None ≡ Some o → (v ≡ o) × (o ≤ 32767)) [
      | true ↦ λ e h. let q : v ≡ o = cc in (q, omega (arith, leb-true v 32767 e))
      | false ↦ λ e h. let z : ◌≡◌ {A = ℕ} 0 1 = cc in absurd (omega arith)
    ] refl

-- an entry from the place `at` to the place `end`, number by number
pub record Parts (bs : List ℕ) (at : ℕ) (e : Entry) (end : ℕ) : Type 0 where
  pub kind_place : ℕ
  pub number_place : ℕ
  pub owner : WritingAt bs at e.owner kind_place
  pub kind : WritingAt bs kind_place (kind_number e.kind) number_place
  pub number : WritingAt bs number_place (folded e.number) end

pub parts_read : (bs : List ℕ) (at : ℕ) (p : Entry × ℕ) → entry_at bs at ≡ Ok p → Parts bs at p.0 p.1
parts_read bs at p e =
    let first = then_accepted (part_at owner_of bs at) _ p e in
    let o = first.0 in
    let second = then_accepted (part_at kind_of bs o.1) _ p first.2 in
    let k = second.0 in
    let third = then_accepted (part_at number_of bs k.1) _ p second.2 in
    let n = third.0 in
    let same : ◌≡◌ {A = Entry × ℕ} (entry_of o.0 k.0 n.0, n.1) p = let h = third.2 in cc in
    let a = part_accepted owner_of bs at o first.1 in
    let b = part_accepted kind_of bs o.1 k second.1 in
    let c = part_accepted number_of bs k.1 n third.1 in
    let owner = owner_accepted a.0 o.0 a.2 in
    let vo : a.0 ≡ o.0 % 32768 = omega (arith, owner.0, owner.1) in
    let vk : b.0 ≡ kind_number k.0 = sym (number_of_its_kind b.0 k.0 b.2) in
    let un : unfolded c.0 ≡ n.0 = let h = c.2 in cc in
    let vn : c.0 ≡ folded (int_wrap w32 n.0) =
    sym (ap folded (ap (int_wrap w32) (sym un) ∙ int_wrap_fits w32 (unfolded c.0) (unfolded_fits c.0 c.1.sized)) ∙ folded_unfolded c.0) in
    let here : Parts bs at (entry_of o.0 k.0 n.0) n.1 = record {
      kind_place = o.1;
      number_place = k.1;
      owner = subst (λ v. WritingAt bs at v o.1) vo a.1;
      kind = subst (λ v. WritingAt bs o.1 v k.1) vk b.1;
      number = subst (λ v. WritingAt bs k.1 v n.1) vn c.1;
    } in
    subst (λ x. Parts bs at x.0 x.1) same here

-- what is read as an entry are its bytes
pub bytes_read : (bs : List ℕ) (at : ℕ) (p : Entry × ℕ) → entry_at bs at ≡ Ok p → drop at bs ≡ entry_bytes p.0 ++ drop p.1 bs
unfolding entry_bytes
bytes_read bs at p e =
    let parts = parts_read bs at p e in
    let o : List ℕ = writing p.0.owner in
    let k : List ℕ = writing (kind_number p.0.kind) in
    parts.owner.bytes ∙ ap (λ t. o ++ t) (parts.kind.bytes ∙ ap (λ t. k ++ t) parts.number.bytes) ∙ sym (simp append_assoc)

pub forward_read : (bs : List ℕ) (at : ℕ) (p : Entry × ℕ) → entry_at bs at ≡ Ok p → (at < p.1) × (p.1 ≤ length bs)
forward_read bs at p e =
    let parts = parts_read bs at p e in
    (omega (arith, parts.owner.forward, parts.kind.forward, parts.number.forward), parts.number.within)
