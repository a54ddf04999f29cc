-- When two entries are the same.
use Rattle.std.proofs.Common.{◌≡◌, ◌<◌, ◌≤◌, w32, SFits}
use mathlib.Core.HLevel.{is_prop→PathP}
use native.Mathlib.Bridge.{le_prop}
use lib.Signed.{mag}
use Rattle.journal.specs.declared.entry.Entry.{Entry}

pub same_entry : (a b : Entry) → a.owner ≡ b.owner → a.kind ≡ b.kind → a.number ≡ b.number → a ≡ b
same_entry a b p q r = λ i. record {
  owner = p i;
  kind = q i;
  number = r i;
  owned = is_prop→PathP (λ j. p j ≤ 32767) (λ j. le_prop) a.owned b.owned i;
  sized = is_prop→PathP (λ j. mag (r j) < 2147483648) (λ j. le_prop) a.sized b.sized i;
}

pub number_fits : (e : Entry) → SFits w32 e.number
number_fits e = record { sfits = e.sized }
