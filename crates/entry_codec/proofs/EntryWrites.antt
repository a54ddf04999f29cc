-- An entry's three numbers, one behind the other.
use Rattle.std.proofs.Common.{◌≡◌, ℕ, ◌+◌, ◌≤◌, List, [], ◌++◌, length, take, IfOk, Ok, Err, Result, sym, ap, ◌∙◌, subst, append_assoc, arith}
use Rattle.std.proofs.lemmas.List.{length-append, append-nil}
use Rattle.varint.specs.Writings.{writing}
use Rattle.varint.specs.Written.{Written, Wrote}
use Rattle.varint.specs.Zigzag.{folded}
use Rattle.varint.proofs.WrittenBytes.{written_there, written_joined}
use Rattle.journal.specs.declared.entry.Entry.{Entry}
use Rattle.journal.specs.Kinds.{kind_number}
use Rattle.entry_codec.specs.Writing.{entry_bytes, EntryReadBack}
use Rattle.entry_codec.proofs.EntryReads.{read_entry_bytes}

pub length_entry : (e : Entry) → length (entry_bytes e) ≡ length (writing e.owner) + (length (writing (kind_number e.kind)) + length (writing (folded e.number)))
unfolding entry_bytes
length_entry e =
    length-append (writing e.owner) (writing (kind_number e.kind) ++ writing (folded e.number))
    ∙ ap (λ n. length (writing e.owner) + n) (length-append (writing (kind_number e.kind)) (writing (folded e.number)))

written_entry : (w x y z : List ℕ) (at a b end : ℕ) (e : Entry)
    → Written w at (writing e.owner) a x → Written x a (writing (kind_number e.kind)) b y → Written y b (writing (folded e.number)) end z
    → at + length (entry_bytes e) ≤ length w → Written w at (entry_bytes e) end z
unfolding entry_bytes
written_entry w x y z at a b end e f g h room =
    let o : List ℕ = writing e.owner in
    let k : List ℕ = writing (kind_number e.kind) in
    let n : List ℕ = writing (folded e.number) in
    let size = length_entry e in
    let two = written_joined w x y o k at a b f g (omega (arith, size, f.ends, g.ends)) in
    subst (λ t. Written w at t end z) (append_assoc o k n) (written_joined w y z (o ++ k) n at b end two h (omega (arith, size, f.ends, g.ends, h.ends)))

-- the last of the three finds room
pub wrote_entry : {E : Type 0} (w x y z : List ℕ) (at a b o k n : ℕ) (e : Entry) (r : Result ℕ E) → o ≡ e.owner → k ≡ kind_number e.kind → n ≡ folded e.number
    → Written w at (writing o) a x → Written x a (writing k) b y → Wrote y b (writing n) r z → length y ≡ length w → at + length (entry_bytes e) ≤ length w → Wrote w at (entry_bytes e) r z
wrote_entry w x y z at a b o k n e (Ok end) p q s f g h l room =
    written_entry w x y z at a b end e (subst (λ t. Written w at (writing t) a x) p f) (subst (λ t. Written x a (writing t) b y) q g) (subst (λ t. Written y b (writing t) end z) s h) room
wrote_entry w x y z at a b o k n e (Err m) p q s f g h l room =
    absurd (omega (arith, h.0, length_entry e, f.ends, g.ends, ap (λ t. length (writing t)) p, ap (λ t. length (writing t)) q, ap (λ t. length (writing t)) s))

pub wrote_read_back : {E : Type 0} (xs ys : List ℕ) (at : ℕ) (e : Entry) (r : Result ℕ E) → Wrote xs at (entry_bytes e) r ys → IfOk r (λ end. EntryReadBack ys at e end)
wrote_read_back xs ys at e (Ok end) w =
    read_entry_bytes (take end ys) [] at e tt (written_there xs ys (entry_bytes e) at end w ∙ sym (append-nil (entry_bytes e))) ∙ ap (λ n. Ok (e, n)) (sym w.ends)
wrote_read_back xs ys at e (Err m) w = tt
