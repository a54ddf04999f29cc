-- The derived order of owners.
use Rattle.std.proofs.Common.{◌≡◌, refl}
use mathlib.Core.Path.{fun_ext}
use Rattle.report.specs.declared.owner.Owner.{Owner}
use Rattle.report.specs.declared.owner.Owner.TheVariants.{Process, Row}
use Rattle.report.specs.Owners.{owner_cmp}
use Rattle.report.specs.contracts.owner.OwnerOrd.TheImpl.{ghosts}

compares_as_derived : (a b : Owner) → ghosts.cmp a b ≡ owner_cmp a b
compares_as_derived (Process m) (Process n) = refl
compares_as_derived (Process m) (Row n) = refl
compares_as_derived (Row m) (Process n) = refl
compares_as_derived (Row m) (Row n) = refl

pub derived_is_owner_cmp : ghosts.cmp ≡ owner_cmp
derived_is_owner_cmp = fun_ext (λ a. fun_ext (compares_as_derived a))
