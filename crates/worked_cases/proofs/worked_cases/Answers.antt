-- The definitions compute the cases.
use Rattle.std.proofs.Common.{[], ◌∷◌, refl}
use Rattle.varint.specs.Writings.{writing, writing_within}
use Rattle.varint.specs.Readings.{scanned, later_groups, value_after, same_bytes}
use Rattle.entry_codec.specs.Writing.{entry_bytes}
use Rattle.entry_codec.proofs.EntryReads.{read_entry_bytes}
use Rattle.script.specs.Frames.{frames_from}
use Rattle.script.specs.Regions.{open_before, region, partner_before}
use Rattle.script.specs.References.{references_from}
use Rattle.script.specs.Images.{pairs_from, decoded_from}
use Rattle.script.specs.Flow.{branches_from}
use Rattle.worked_cases.specs.Cases.{stored}
use Rattle.worked_cases.proofs.worked_cases.Goals as goal

pub returns : goal.returns
unfolding writing writing_within scanned later_groups value_after same_bytes entry_bytes frames_from open_before region partner_before references_from pairs_from decoded_from branches_from
returns c = record {
  number = refl;
  number_read = refl;
  padded = refl;
  missing = refl;
  folding = refl;
  unfolding_back = refl;
  entry = refl;
  entry_read = read_entry_bytes (10 ∷ 4 ∷ 2 ∷ 172 ∷ []) [] 0 stored tt refl;
  script_read = refl;
  script_written = refl;
  script_mirrored = refl;
  padded_image = refl;
  fork_read = refl;
  fork_branches = refl;
}
