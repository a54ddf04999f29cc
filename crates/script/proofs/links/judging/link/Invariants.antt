use Rattle.script.specs.Held.{list_of}
use Rattle.script.proofs.Linkings.{LinkedBefore}
use Rattle.script.proofs.links.judging.link.Given as goal

abbrev pub invariant-loop-address : goal.invariant-loop-address
invariant-loop-address l = LinkedBefore (list_of l.script) l.address l.links
