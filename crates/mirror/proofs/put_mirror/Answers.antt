-- The pairs stand behind the count.
use Rattle.std.proofs.Common.{arith}
use Rattle.mirror.proofs.Behind.{wrote_behind_the_count}
use Rattle.mirror.proofs.put_mirror.Goals as goal

pub returns : goal.returns
returns c = wrote_behind_the_count _ _ _ _ _ _ _ c.count.ensures.count c.in_ok-pairs_at.ensures.answer (omega arith) c.requires c.put_pairs.ensures
