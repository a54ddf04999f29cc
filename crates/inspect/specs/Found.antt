-- The entries found in bytes.
use Rattle.std.specs.Prelude.{◌≡◌, ℕ, List, length, Ok, Err, vec_items, Result, Vec}
use Rattle.std.specs.declared.alloc.Global.{Global}
use Rattle.journal.specs.declared.entry.Entry.{Entry}
use Rattle.journal.specs.declared.refusal.LayRefusal.{LayRefusal}
use Rattle.packed_journal.specs.Laying.{laid}
use Rattle.program_input.specs.declared.failure.Failure.{Failure}
use Rattle.program_input.specs.declared.failure.Failure.TheVariants.{Usage, Unread, Refused, System, OutOfMemory}

-- those that all the bytes are laid as, or the refusal; memory can fail
abbrev pub Found : List ℕ → Result (Vec Entry Global) (Failure LayRefusal) → Type 0
Found bs (Ok found) = laid bs (length bs) ≡ Ok (vec_items found)
Found bs (Err (Refused refusal)) = laid bs (length bs) ≡ Err refusal
Found bs (Err OutOfMemory) = Unit {0}
Found bs (Err (Usage usage)) = ⊥
Found bs (Err (Unread name error)) = ⊥
Found bs (Err (System error)) = ⊥
