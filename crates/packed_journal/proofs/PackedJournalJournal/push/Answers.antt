-- The used bytes with those of the entry are the writing of the longer list.
use Rattle.std.proofs.Common.{arith}
use Rattle.packed_journal.proofs.Changes.{longer}
use Rattle.packed_journal.proofs.PackedJournalJournal.push.Goals as goal

pub invariant_of-self-2 : goal.invariant_of-self-2
invariant_of-self-2 c =
    let j = c.args.self.now in
    let w = c.in-Ok.ensures.answer in
    let more = longer j.bytes.now c.write_entry.new.bytes j.used c.in-Ok.end c.args.entry j.within j.own w in
    record { within = omega (arith, w.within); own = more.own }
