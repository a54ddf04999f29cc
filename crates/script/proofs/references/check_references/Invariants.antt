-- What was asked for is what is left.
use Rattle.std.proofs.Common.{◌≡◌, suc, ◌-◌, length}
use Rattle.script.specs.References.{references_from, references_judged}
use Rattle.script.specs.Held.{list_of}
use Rattle.script.proofs.references.check_references.Given as goal

abbrev pub invariant-loop-address : goal.invariant-loop-address
invariant-loop-address l = references_judged (list_of l.script) ≡ references_from (list_of l.script) (suc (length (list_of l.script)) - l.address) l.address
