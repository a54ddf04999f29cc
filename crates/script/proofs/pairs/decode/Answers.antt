use Rattle.std.proofs.Common.{◌+◌, length, sym, ap, ◌∙◌}
use Rattle.std.proofs.lemmas.List.{drop_all, length_push}
use Rattle.std.proofs.lemmas.Result.{err_from_is_err_and}
use Rattle.std.specs.Option.{ok_or}
use Rattle.script.specs.declared.refusal.ImageRefusal.TheVariants.{WrongInstruction}
use Rattle.script.specs.Held.{list_of}
use Rattle.script.proofs.Turns.{decoded_turn, decoded_all}
use Rattle.script.proofs.pairs.decode.Goals as goal

pub returns-in_err-instruction : goal.returns-in_err-instruction
returns-in_err-instruction c =
    let p = err_from_is_err_and c.from_residual.result c.from_residual.ensures.1 in
    rw (p.1, p.2)
    (sym (c.loop-k.invariant.left ∙ decoded_turn _ _ _ _ _ c.loop-k-test.true (c.in_err-instruction.ensures.value ∙ ap (λ o. ok_or o (WrongInstruction (c.loop-k.k + 1))) c.instruction_of.ensures.answer)))

pub loop-k-preserved : goal.loop-k-preserved
loop-k-preserved c = record {
  left = rw c.push.ensures (c.loop-k.invariant.left ∙ decoded_turn _ _ _ _ _ c.loop-k-test.true (c.in_ok-instruction.ensures.value ∙ ap (λ o. ok_or o (WrongInstruction (c.loop-k.k + 1))) c.instruction_of.ensures.answer));
  so_many = ap length c.push.ensures ∙ length_push (list_of c.loop-k.instructions) c.in_ok-instruction.instruction ∙ ap (λ n. n + 1) c.loop-k.invariant.so_many;
}

pub returns : goal.returns
returns c = sym (c.loop-k.invariant.left ∙ decoded_all _ _ _ _ (drop_all c.loop-k.k c.args.pairs.now c.loop-k-test.false))
