-- The operand stands behind the code.
use Rattle.std.proofs.Common.{arith}
use Rattle.mirror.proofs.Behind.{wrote_behind}
use Rattle.mirror.proofs.put_pair.Goals as goal

pub returns : goal.returns
returns c = wrote_behind _ _ _ _ _ _ _ c.write-2.result c.in_ok-operand_at.ensures.answer c.write-2.ensures.answer (omega arith) c.requires
