-- There is room for one entry more, and it is counted; at the end all are.
use Rattle.std.proofs.Common.{subst, arith}
use Rattle.std.proofs.lemmas.List.{take_all}
use Rattle.report.specs.Owners.{owner_cmp}
use Rattle.tally.specs.Counts.{Counts}
use Rattle.tally.proofs.Counting.{count_below_all, next_is_counted, tallied}
use Rattle.tally.proofs.Tally.of.Goals as goal

pub count_up-requires : goal.count_up-requires
count_up-requires c = omega (arith, count_below_all c.args.entries.now c.loop-entry.entry-index c.loop-entry.counts c.loop-entry-test.true c.loop-entry.invariant c.from.result)

pub loop-entry-preserved : goal.loop-entry-preserved
loop-entry-preserved c =
    let up = c.in_ok-count_up.ensures in
    next_is_counted c.args.entries.now c.loop-entry.entry-index c.loop-entry.counts c.loop-entry-test.true c.loop-entry.invariant c.entry-item.result c.from.result c.count_up.new.counts c.entry-item.is c.from.ensures up.ordered up.counted

pub returns : goal.returns
returns c =
    let all = take_all c.loop-entry.entry-index c.args.entries.now c.loop-entry-test.false in
    tallied c.args.entries.now (record { counts = c.loop-entry.counts }) (subst (λ l. Counts owner_cmp l c.loop-entry.counts) all c.loop-entry.invariant)
