-- An owner in range is its own remainder, and a number that fits wraps to itself.
use Rattle.std.proofs.Common.{Ok, sym, refl, ap, ◌∙◌, rules, w32, SFits}
use Rattle.std.proofs.lemmas.Int.{to_z-of_z}
use Rattle.varint.specs.Readings.{number_at}
use Rattle.entry_codec.specs.Reading.{owner_of, number_of}
use Rattle.journal.specs.Kinds.{kind_of}
use Rattle.entry_codec.proofs.EntryReads.{entry_of_parts, entry_from_parts, part_of_read}
use Rattle.entry_codec.proofs.read_entry.Goals as goal

pub returns : goal.returns
returns c =
    let bs = c.args.bytes.now in
    let f : SFits w32 c.in_ok-number.number = search rules in
    let o = sym (part_of_read _ owner_of (λ n o m. search rules) c.args.at (number_at bs c.args.at) _ c.read_part.ensures) ∙ c.in_ok-owner.was in
    let k = sym (part_of_read _ kind_of (λ n o m. search rules) c.in_ok-owner.kind_at (number_at bs c.in_ok-owner.kind_at) _ c.read_part-2.ensures) ∙ c.in_ok-kind.was in
    let n = sym (part_of_read _ number_of (λ n o m. search rules) c.in_ok-kind.number_at (number_at bs c.in_ok-kind.number_at) _ c.read_part-3.ensures) ∙ c.in_ok-number.was in
    ap (λ e. Ok (e, c.in_ok-number.end)) (entry_of_parts _ _ _ _ refl refl (to_z-of_z w32 _ f)) ∙ sym (entry_from_parts bs c.args.at _ _ _ o k n)
