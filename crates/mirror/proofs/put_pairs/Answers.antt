-- One instruction more finds room.
use Rattle.std.proofs.Common.{arith}
use Rattle.script.specs.Calls.{instructions_of}
use Rattle.mirror.proofs.Mirroring.{turn_from_the_last, room_for_one_more, written_one_more}
use Rattle.mirror.proofs.put_pairs.Goals as goal

pub put_pair-requires : goal.put_pair-requires
put_pair-requires c =
    let turn = turn_from_the_last _ _ _ (instructions_of c.args.script.now) _ _ _ (cc) c.loop-instruction.yielded_by c.in-Some.is c.next.ensures.steps in
    omega (arith, room_for_one_more _ _ _ _ turn c.mirror_pair.ensures, c.loop-instruction.invariant.ends, c.requires)

pub returns-in_err-end : goal.returns-in_err-end
returns-in_err-end c =
    let turn = turn_from_the_last _ _ _ (instructions_of c.args.script.now) _ _ _ (cc) c.loop-instruction.yielded_by c.in-Some.is c.next.ensures.steps in
    absurd (omega (arith, room_for_one_more _ _ _ _ turn c.mirror_pair.ensures, c.in_err-end.ensures.0, c.loop-instruction.invariant.ends, c.requires))

pub loop-instruction-preserved : goal.loop-instruction-preserved
loop-instruction-preserved c =
    let turn = turn_from_the_last _ _ _ (instructions_of c.args.script.now) _ _ _ (cc) c.loop-instruction.yielded_by c.in-Some.is c.next.ensures.steps in
    written_one_more _ _ _ _ turn c.mirror_pair.ensures _ _ _ _ _ _ c.loop-instruction.invariant c.in_ok-end.ensures (omega arith)
