-- The order of owners.
use Rattle.std.specs.Ordering.{nat_cmp}
use Rattle.std.specs.declared.cmp.Ordering.{Ordering}
use Rattle.std.specs.declared.cmp.Ordering.TheVariants.{Less, Greater}
use Rattle.report.specs.declared.owner.Owner.{Owner}
use Rattle.report.specs.declared.owner.Owner.TheVariants.{Process, Row}

-- processes come before rows, and both ascend by number
abbrev pub owner_cmp : Owner → Owner → Ordering
owner_cmp (Process m) (Process n) = nat_cmp m n
owner_cmp (Process m) (Row n) = Less
owner_cmp (Row m) (Process n) = Greater
owner_cmp (Row m) (Row n) = nat_cmp m n
