-- How many entries each owner has.
use Rattle.std.specs.Prelude.{◌≡◌, ℕ, zero, suc, Bool, false, cond, List, ◌++◌, Some, None, codes, decimal, Option, ◌==◌, count_by}
use Rattle.std.specs.BTreeMap.{BTreeMap, IsOrdered, get}
use Rattle.std.specs.declared.cmp.Ordering.{Ordering}
use Rattle.journal.specs.declared.entry.Entry.{Entry}
use Rattle.report.specs.declared.owner.Owner.{Owner}
use Rattle.report.specs.declared.owner.Owner.TheVariants.{Process, Row}
use Rattle.report.specs.Owners.{owner_cmp}
use Rattle.report.specs.contracts.owner.OwnerOrd.TheImpl.{ghosts}
use Rattle.report.specs.Words.{owner_of, owner_text}
use Rattle.tally.specs.declared.Tally.{Tally}

abbrev pub same_owner : Owner → Owner → Bool
same_owner (Process m) (Process n) = m == n
same_owner (Process m) (Row n) = false
same_owner (Row m) (Process n) = false
same_owner (Row m) (Row n) = m == n

-- how many of the entries belong to an owner
abbrev pub entries_of : Owner → List Entry → ℕ
entries_of owner es = count_by (λ e. same_owner owner (owner_of e)) es

-- a count of 0 is not told
abbrev pub some_if_any : ℕ → Option ℕ
some_if_any zero = None
some_if_any (suc n) = Some (suc n)

-- the map is in an order and has the count of every owner that has an entry
pub record Counts (cmp : Owner → Owner → Ordering) (es : List Entry) (m : BTreeMap Owner ℕ) : Type 0 where
  pub ordered : IsOrdered cmp m
  pub told : (owner : Owner) → get cmp m owner ≡ some_if_any (entries_of owner es)

-- the tally tells the entries of every process and every row, in the order of owners, which is that of the map's own calls too
pub record Tallied (es : List Entry) (t : Tally) : Type 0 where
  pub by_owner : Counts owner_cmp es t.counts
  pub by_key : Counts ghosts.cmp es t.counts

abbrev pub share_text : Owner → ℕ → List ℕ
share_text owner entries = owner_text owner ++ cond (entries == 1) (codes "  1 entry") (codes "  " ++ (decimal entries ++ codes " entries"))
