-- There is room for all three numbers.
use Rattle.std.proofs.Common.{length, ap, ◌∙◌, arith, w32}
use Rattle.std.proofs.lemmas.Int.{to_z-of_z}
use Rattle.varint.specs.Writings.{writing}
use Rattle.varint.specs.Zigzag.{folded}
use Rattle.journal.proofs.Entries.{number_fits}
use Rattle.entry_codec.proofs.EntryWrites.{length_entry, wrote_entry, wrote_read_back}
use Rattle.entry_codec.proofs.put_entry.Goals as goal

pub returns-in_err-kind_at : goal.returns-in_err-kind_at
returns-in_err-kind_at c =
    absurd (omega (arith, c.in_err-kind_at.ensures.answer.0, length_entry c.args.entry, ap (λ n. length (writing n)) c.from.ensures))

pub returns-in_err-number_at : goal.returns-in_err-number_at
returns-in_err-number_at c =
    absurd (omega (arith, c.in_ok-kind_at.ensures.answer.ends, c.in_err-number_at.ensures.answer.0, length_entry c.args.entry, ap (λ n. length (writing n)) c.from.ensures, ap (λ n. length (writing n)) c.from-2.ensures.0))

pub returns : goal.returns
returns c =
    let number = c.fold.ensures.answer ∙ ap folded (to_z-of_z w32 c.args.entry.number (number_fits c.args.entry)) in
    let wrote = wrote_entry c.args.bytes.now c.write.new.bytes c.write-2.new.bytes c.write-3.new.bytes c.args.at c.in_ok-kind_at.kind_at c.in_ok-number_at.number_at
    c.from.result c.from-2.result c.fold.result c.args.entry c.write-3.result c.from.ensures c.from-2.ensures.0 number
    c.in_ok-kind_at.ensures.answer c.in_ok-number_at.ensures.answer c.write-3.ensures.answer (omega arith) c.requires in
    record { answer = wrote; back = wrote_read_back c.args.bytes.now c.write-3.new.bytes c.args.at c.args.entry c.write-3.result wrote }
