-- How an entry is read: three numbers in turn, each judged as soon as it is read.
use Rattle.std.specs.Prelude.{◌≡◌, ℕ, ◌%◌, ◌≤◌, cond, List, ℤ, Some, None, Ok, Err, Option, Result, nat_le}
use Rattle.std.proofs.Common.{arith}
use Rattle.std.specs.Int.{int_wrap, w32}
use Rattle.std.proofs.lemmas.Int.{SFits-int_wrap}
use Rattle.varint.specs.declared.number.Fault.{Fault}
use Rattle.varint.specs.Readings.{number_at}
use Rattle.varint.specs.Zigzag.{unfolded}
use Rattle.journal.specs.declared.entry.Entry.{Entry}
use Rattle.journal.specs.declared.kind.Kind.{Kind}
use Rattle.journal.specs.declared.refusal.LayRefusal.{LayRefusal}
use Rattle.journal.specs.declared.refusal.LayRefusal.TheVariants.{WrongNumber}
use Rattle.journal.specs.Kinds.{kind_of}
use Rattle.journal.specs.Refusals.{raised}

-- go on with what was read, or with the refusal
abbrev pub and_then : {X Y : Type 0} → Result X LayRefusal → (X → Result Y LayRefusal) → Result Y LayRefusal
and_then (Ok x) next = next x
and_then (Err refusal) next = Err refusal

-- a number that was read up to `end` as what it stands for, if it stands for something
abbrev pub standing : {X : Type 0} → ℕ → ℕ → Option X → Result (X × ℕ) LayRefusal
standing at end (Some x) = Ok (x, end)
standing at end None = Err (WrongNumber at)

-- the same of what the number reader answered
abbrev pub judged_part : {X : Type 0} → (ℕ → Option X) → ℕ → Result (ℕ × ℕ) Fault → Result (X × ℕ) LayRefusal
judged_part meaning at (Ok p) = standing at p.1 (meaning p.0)
judged_part meaning at (Err fault) = Err (raised fault)

-- the part of an entry whose number begins at a place
abbrev pub part_at : {X : Type 0} → (ℕ → Option X) → List ℕ → ℕ → Result (X × ℕ) LayRefusal
part_at meaning bs at = judged_part meaning at (number_at bs at)

-- the same, where the meaning is what a function may answer
abbrev pub PartRead : {X : Type 0} → (ℕ → Option X → Type 0) → ℕ → Result (ℕ × ℕ) Fault → Result (X × ℕ) LayRefusal → Type 0
PartRead {X} means at (Ok p) r = (part : Option X) × means p.0 part × (r ≡ standing at p.1 part)
PartRead means at (Err fault) r = r ≡ Err (raised fault)

-- which numbers are owners
abbrev pub owner_of : ℕ → Option ℕ
owner_of n = cond (nat_le n 32767) (Some n) None

-- what a folded number stands for: every number is one
abbrev pub number_of : ℕ → Option ℤ
number_of n = Some (unfolded n)

pub remainder_owned : (o : ℕ) → o % 32768 ≤ 32767
remainder_owned o = omega arith

-- the entry of an owner, a kind and a number; one in range is its own remainder, or wraps to itself
abbrev pub entry_of : ℕ → Kind → ℤ → Entry
entry_of o k n = record { owner = o % 32768; kind = k; number = int_wrap w32 n; owned = remainder_owned o; sized = (SFits-int_wrap w32 n).sfits }

-- the entry that begins at a place, and the place after it
abbrev pub entry_at : List ℕ → ℕ → Result (Entry × ℕ) LayRefusal
entry_at bs at =
    and_then (part_at owner_of bs at) (λ o.
    and_then (part_at kind_of bs o.1) (λ k.
    and_then (part_at number_of bs k.1) (λ n.
    Ok (entry_of o.0 k.0 n.0, n.1))))
