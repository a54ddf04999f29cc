-- The three sizes add up.
use Rattle.std.proofs.Common.{length, ap, ◌∙◌, arith, w32}
use Rattle.std.proofs.lemmas.Int.{to_z-of_z}
use Rattle.varint.specs.Writings.{writing}
use Rattle.varint.specs.Zigzag.{folded}
use Rattle.journal.proofs.Entries.{number_fits}
use Rattle.entry_codec.proofs.EntryWrites.{length_entry}
use Rattle.entry_codec.proofs.entry_size.Goals as goal

pub returns : goal.returns
returns c =
    omega (
      arith,
      length_entry c.args.entry,
      c.size.ensures.0 ∙ ap (λ n. length (writing n)) c.from.ensures,
      c.size-2.ensures.0 ∙ ap (λ n. length (writing n)) c.from-2.ensures.0,
      c.size-3.ensures.0 ∙ ap (λ n. length (writing n)) (c.fold.ensures.answer ∙ ap folded (to_z-of_z w32 c.args.entry.number (number_fits c.args.entry))),
    )
