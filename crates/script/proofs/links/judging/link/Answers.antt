use Rattle.std.proofs.Common.{arith}
use Rattle.script.specs.Held.{list_of}
use Rattle.script.proofs.Linkings.{linked_at_first, linked_turn, linked_all}
use Rattle.script.proofs.links.judging.link.Goals as goal

pub loop-address-init : goal.loop-address-init
loop-address-init c = linked_at_first (list_of c.args.script.now) c.none-links.result c.none-links.ensures.frames c.none-links.ensures.partners

pub loop-address-preserved : goal.loop-address-preserved
loop-address-preserved c = linked_turn (list_of c.args.script.now) c.loop-address.address c.loop-address.links c.judge.new.self (omega arith) (omega arith) (omega arith) c.loop-address.invariant c.in_ok-judge.ensures

pub returns : goal.returns
returns c = linked_all (list_of c.args.script.now) c.loop-address.address c.loop-address.links (omega arith) (omega arith) c.loop-address.invariant cc
