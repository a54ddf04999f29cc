-- How a number is read: it has no written length, and ends where the bytes end or the next byte is below 128.
use Rattle.std.specs.Prelude.{◌≡◌, ℕ, ◌+◌, ◌-◌, ◌*◌, ◌<◌, ◌≤◌, Bool, true, false, cond, ◌&&◌, List, [], ◌∷◌, ◌++◌, length, drop, Ok, Err, Result, ◌==◌, nat_le, nat_lt}
use Rattle.varint.specs.declared.number.Fault.{Fault}
use Rattle.varint.specs.declared.number.Fault.TheVariants.{Malformed, Ended}
use Rattle.varint.specs.declared.number.Reading.{Reading}
use Rattle.varint.specs.Writings.{writing}

-- the later groups at the front of bytes: the longest run of bytes from 128 on
unfoldable pub later_groups : List ℕ → List ℕ
later_groups [] = []
later_groups (b ∷ bs) = cond (nat_lt b 128) [] (b ∷ later_groups bs)

-- the value of later groups after groups of the value v
unfoldable pub value_after : ℕ → List ℕ → ℕ
value_after v [] = v
value_after v (b ∷ bs) = value_after (v * 128 + (b - 128)) bs

-- whether two lists of bytes are the same
unfoldable pub same_bytes : List ℕ → List ℕ → Bool
same_bytes [] [] = true
same_bytes [] (c ∷ cs) = false
same_bytes (b ∷ bs) [] = false
same_bytes (b ∷ bs) (c ∷ cs) = b == c && same_bytes bs cs

-- the number of the value v that is written as ws at a place
abbrev pub reading_of : ℕ → ℕ → List ℕ → Reading
reading_of at v ws = record { value = v; end = at + length ws; shortest = same_bytes (writing v) ws }

-- what the first byte and the later groups after it are, at a place: five groups at most, and 32 bits
abbrev pub judged : ℕ → ℕ → List ℕ → Result Reading Fault
judged at first later =
    cond (nat_lt first 128 && (nat_le (length later) 4 && nat_lt (value_after first later) 4294967296))
    (Ok (reading_of at (value_after first later) (first ∷ later)))
    (Err (Malformed at))

-- what stands at a place, in bytes that end at `end`, where `bs` follow
abbrev pub scanned_in : ℕ → ℕ → List ℕ → Result Reading Fault
scanned_in end at [] = Err (Ended end)
scanned_in end at (b ∷ bs) = judged at b (later_groups bs)

-- what stands at a place of bs
unfoldable pub scanned : List ℕ → ℕ → Result Reading Fault
scanned bs at = scanned_in (length bs) at (drop at bs)

-- only the shortest writing is a number
abbrev pub only_shortest : ℕ → Result Reading Fault → Result (ℕ × ℕ) Fault
only_shortest at (Ok n) = cond n.shortest (Ok (n.value, n.end)) (Err (Malformed at))
only_shortest at (Err fault) = Err fault

-- the number that begins at a place, and the place after it
abbrev pub number_at : List ℕ → ℕ → Result (ℕ × ℕ) Fault
number_at bs at = only_shortest at (scanned bs at)

-- a number ends before these bytes: there are none, or a first byte comes
abbrev pub Ends : List ℕ → Type 0
Ends [] = Unit {0}
Ends (b ∷ bs) = b < 128

-- what stands from the place `at` to the place `end` is the one writing of v, and it ends there
pub record WritingAt (bs : List ℕ) (at v end : ℕ) : Type 0 where
  pub forward : at < end
  pub within : end ≤ length bs
  pub sized : v < 4294967296
  pub bytes : drop at bs ≡ writing v ++ drop end bs
  pub ended : Ends (drop end bs)
