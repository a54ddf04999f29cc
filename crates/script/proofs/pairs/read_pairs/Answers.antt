use Rattle.std.proofs.Common.{sym, arith}
use Rattle.std.proofs.lemmas.Result.{err_from_is_err_and}
use Rattle.script.proofs.Turns.{pairs_turn}
use Rattle.script.proofs.pairs.read_pairs.Goals as goal

pub loop-preserved : goal.loop-preserved
loop-preserved c = record {
  left = rw c.push.ensures.items (pairs_turn _ _ _ _ c.loop.pairs.items _ c.loop.invariant.left c.loop-test.true c.in_ok-pair.ensures);
  so_many = omega (arith, c.push.ensures.len, c.loop.invariant.so_many);
}

pub returns-in_err-pair : goal.returns-in_err-pair
returns-in_err-pair c =
    let p = err_from_is_err_and c.from_residual-in_err-pair.result c.from_residual-in_err-pair.ensures.1 in
    rw (p.1, p.2) (sym (pairs_turn _ _ _ _ _ _ c.loop.invariant.left c.loop-test.true c.in_err-pair.ensures))
