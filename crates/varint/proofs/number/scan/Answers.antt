-- A number is scanned byte by byte, as the definition reads it.
use Rattle.std.proofs.Common.{◌-◌, eqb, ltb, get_or, sym, ◌∙◌, inl, inr, ⊎_elim, arith}
use Rattle.std.proofs.lemmas.Bool.{eqb-true, eqb-false, ltb-true, ltb-false}
use Rattle.varint.proofs.Readings.{scanned_end, scanned_within, judged_wrong, own_scanned, later_stop, scanning_starts, scanning_goes_on, scanning_fails, scanning_ends}
use Rattle.varint.proofs.number.scan.Goals as goal
use Rattle.varint.proofs.number.scan.Goals.{then-loop-end-test+else-bytes-end-ge128, else-loop-end-test}

pub returns-then-at-bytes : goal.returns-then-at-bytes
returns-then-at-bytes c = record { answer = sym (scanned_end c.args.bytes.now c.args.at (omega arith)); writing = tt }

pub returns-then-first-ge128 : goal.returns-then-first-ge128
returns-then-first-ge128 c =
    record { answer = sym (scanned_within c.args.bytes.now c.args.at (omega arith) ∙ judged_wrong c.args.at (get_or c.args.bytes.now c.args.at 0) _ (inl (omega arith))); writing = tt }

pub loop-end-init : goal.loop-end-init
loop-end-init c = scanning_starts c.args.bytes.now c.args.at _ (omega arith) (omega arith) c.from-value.ensures

pub returns-then-end-at-ge-MOST_GROUPS : goal.returns-then-end-at-ge-MOST_GROUPS
returns-then-end-at-ge-MOST_GROUPS c =
    record {
      answer = sym (scanning_fails c.args.bytes.now c.args.at c.loop-end.end c.loop-end.value c.loop-end.invariant (omega arith) (omega arith)
          (⊎_elim inl (λ p. inr p.1) c.then-end-at-ge-MOST_GROUPS.either));
      writing = tt;
    }

pub loop-end-preserved : goal.loop-end-preserved
loop-end-preserved c =
    let f = (c.type_inv.bytes c.loop-end.end).fits in
    scanning_goes_on c.args.bytes.now c.args.at c.loop-end.end c.loop-end.value _ c.loop-end.invariant (omega arith) (omega arith) (omega (arith, f)) (omega arith) (omega arith) c.from.ensures

pub returns-then-end-at-eq1 : goal.returns-then-end-at-eq1
returns-then-end-at-eq1 c =
    let stop = later_stop c.args.bytes.now c.loop-end.end
    (elim c.loop-end-test.branch [ then-loop-end-test+else-bytes-end-ge128 w ↦ inr (omega arith, omega arith) | else-loop-end-test w ↦ inl (omega arith) ]) in
    let e = scanning_ends c.args.bytes.now c.args.at c.loop-end.end c.loop-end.value (eqb (c.loop-end.end - c.args.at) 1) c.loop-end.invariant (omega arith) stop
    (λ t. inl (omega (arith, eqb-true (c.loop-end.end - c.args.at) 1 t))) (λ t. absurd (eqb-false (c.loop-end.end - c.args.at) 1 t c.if-end-at-eq1.true)) in
    record { answer = sym e; writing = own_scanned _ _ _ e }

pub returns-else-end-at-eq1 : goal.returns-else-end-at-eq1
returns-else-end-at-eq1 c =
    let stop = later_stop c.args.bytes.now c.loop-end.end
    (elim c.loop-end-test.branch [ then-loop-end-test+else-bytes-end-ge128 w ↦ inr (omega arith, omega arith) | else-loop-end-test w ↦ inl (omega arith) ]) in
    let e = scanning_ends c.args.bytes.now c.args.at c.loop-end.end c.loop-end.value (ltb 0 (get_or c.args.bytes.now c.args.at 0)) c.loop-end.invariant (omega arith) stop
    (λ t. inr (ltb-true 0 (get_or c.args.bytes.now c.args.at 0) t)) (λ t. let l = ltb-false 0 (get_or c.args.bytes.now c.args.at 0) t in (omega arith, omega (arith, c.loop-end.invariant.forward))) in
    record { answer = sym e; writing = own_scanned _ _ _ e }
