-- What is left beneath stands on the same number, and has the older originals.
use Rattle.std.proofs.Common.{w32, SFits, rules}
use Rattle.std.proofs.lemmas.Int.{wrapping_sub_is}
use Rattle.journal.proofs.Entries.{number_fits}
use Rattle.delta_journal.specs.Differences.{differences_fit}
use Rattle.delta_journal.proofs.Back.{popped_base, popped_originals}
use Rattle.delta_journal.proofs.DeltaJournal.pop.Goals as goal

pub returns : goal.returns
returns g c =
    let kept = c.args.self.now.kept in
    let f : SFits w32 c.args.self.now.kept = search rules in
    let d = c.in_ok-difference.difference in
    let below = c.in_ok-difference.ensures in
    let before = wrapping_sub_is w32 kept d.number f (number_fits d) in
    record {
      answer = search rules;
      list = popped_originals _ _ d kept _ below.answer below.list before;
      rule = λ i. differences_fit (below.rule i) (popped_base _ _ d kept _ below.answer below.list before i);
    }
