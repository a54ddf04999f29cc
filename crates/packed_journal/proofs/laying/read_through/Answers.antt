-- Entry by entry, until the bytes end or one is refused.
use Rattle.std.proofs.Common.{[], ◌∷◌, length, sym, refl, ◌∙◌, arith}
use Rattle.std.proofs.lemmas.Result.{err_from_is_err_and}
use Rattle.packed_journal.specs.Laying.{read_all}
use Rattle.entry_codec.proofs.EntryReads.{forward_read}
use Rattle.packed_journal.proofs.Layings.{read_end, read_refused, read_turn, read_is_held}
use Rattle.packed_journal.proofs.laying.read_through.Goals as goal

pub loop-at-init : goal.loop-at-init
unfolding read_all
loop-at-init c = (length c.args.bytes.now, omega arith, ([], refl))

pub returns-in_err-at : goal.returns-in_err-at
returns-in_err-at c =
    let i = c.loop-at.invariant in
    let e = i.2.1 ∙ read_refused i.0 c.args.bytes.now c.loop-at.at i.2.0 c.in_err-at.field-0.0 (omega arith) i.1 (sym c.in_err-at.ensures) in
    let p = err_from_is_err_and c.from_residual.result c.from_residual.ensures.1 in
    rw (p.1, p.2) e

pub loop-at-smaller : goal.loop-at-smaller
loop-at-smaller c = omega (arith, (forward_read c.args.bytes.now c.loop-at.at (c.in_ok-at.field-0-0, c.in_ok-at.field-0-1) (sym c.in_ok-at.ensures)).0)

pub loop-at-preserved : goal.loop-at-preserved
loop-at-preserved c =
    let i = c.loop-at.invariant in
    let t = read_turn i.0 c.args.bytes.now c.loop-at.at i.2.0 (c.in_ok-at.field-0-0, c.in_ok-at.field-0-1) (omega arith) i.1 (sym c.in_ok-at.ensures) in
    (t.0, t.1, (c.in_ok-at.field-0-0 ∷ i.2.0, i.2.1 ∙ t.2))

pub returns : goal.returns
returns c =
    let i = c.loop-at.invariant in
    let e = i.2.1 ∙ read_end i.0 c.args.bytes.now c.loop-at.at i.2.0 (omega arith) in
    read_is_held c.args.bytes.now i.2.0 e
