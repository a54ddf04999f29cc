-- The entry and the kept number come back from the difference.
use Rattle.std.proofs.Common.{◌-ℤ◌, ap, ◌∙◌, w32, SFits, rules}
use Rattle.std.specs.Int.{int_wrap}
use Rattle.std.proofs.lemmas.Int.{int_wrap_fits, wrapping_sub_is}
use Rattle.journal.proofs.Entries.{same_entry, number_fits}
use Rattle.delta_journal.proofs.Back.{number_less_difference_is_number_before, difference_number, difference_stands_on_differences, differences_of_originals}
use Rattle.delta_journal.proofs.Delta.difference.Goals as goal

pub returns : goal.returns
returns g c =
    let e = c.args.entry in
    let kept = c.args.self.now.kept in
    let below = g.J.Journal.entries c.args.self.now.below in
    let d = c.renumbered.result in
    let f : SFits w32 c.args.self.now.kept = search rules in
    let r = difference_number e d kept _ (wrapping_sub_is w32 e.number kept (number_fits e) f) c.renumbered.ensures in
    let owner = ap (λ x. x.owner) c.renumbered.ensures in
    let kind = ap (λ x. x.kind) c.renumbered.ensures in
    record {
      entry_back = same_entry _ e owner kind (int_wrap_fits w32 e.number (number_fits e));
      kept_back = ap (λ n. int_wrap w32 (e.number -ℤ n)) r ∙ number_less_difference_is_number_before e.number kept f;
      list = difference_stands_on_differences below kept d e f owner kind r (differences_of_originals below kept f);
    }
