-- At most 1024 numbers, each at most 10.
use Rattle.std.proofs.Common.{rules, tests, arith}
use Rattle.std.proofs.lemmas.Iterator.{YieldsList-from_slice}
use Rattle.std.proofs.lemmas.Iterator.Adapters.{fits_from_length, at_most_from_yields_List}
use Rattle.mirror.proofs.pairs_size.Goals as goal

pub returns-clause-few : goal.returns-clause-few
returns-clause-few c =
    let run = c.sum.ensures.runs tt in
    let fits = fits_from_length _ _ 1024 10241 (at_most_from_yields_List (YieldsList-from_slice c.args.instructions.now cc) c.requires) c.map.ensures.closure (omega arith) (λ x r q k. search (rules, tests)) run.0 run.0.seen run.1 in
    omega (arith, fits)
