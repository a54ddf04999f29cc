-- The number fits, so that it is not altered by wrapping.
use Rattle.std.proofs.Common.{sym, refl, ◌∙◌, w32}
use Rattle.std.proofs.lemmas.Int.{to_z-of_z, int_wrap_fits}
use Rattle.journal.proofs.Entries.{same_entry}
use Rattle.delta_journal.proofs.renumbered.Goals as goal

pub returns : goal.returns
returns c = same_entry _ _ refl refl (to_z-of_z w32 c.args.number c.ranges.number ∙ sym (int_wrap_fits w32 c.args.number c.ranges.number))
