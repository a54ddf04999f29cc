-- Bytes that are written one behind the other and find room.
use Rattle.std.proofs.Common.{◌≡◌, ℕ, ◌+◌, ◌≤◌, List, ◌++◌, length, Ok, Err, Result, sym, ap, ◌∙◌, subst, arith}
use Rattle.std.proofs.lemmas.List.{length-append}
use Rattle.varint.specs.Writings.{writing}
use Rattle.varint.specs.Written.{Written, Wrote}
use Rattle.varint.proofs.WrittenBytes.{written_joined}
use Rattle.instruction.specs.declared.instruction.Instruction.{Instruction}
use Rattle.mirror.specs.Mirrored.{mirror_bytes, mirror_image}
use Rattle.mirror.proofs.Mirroring.{image_is_the_count_and_the_bytes}

pub wrote_behind : {E : Type 0} (xs ys zs p q : List ℕ) (at mid : ℕ) (r : Result ℕ E) → Written xs at p mid ys → Wrote ys mid q r zs → length ys ≡ length xs → at + length (p ++ q) ≤ length xs → Wrote xs at (p ++ q) r zs
wrote_behind xs ys zs p q at mid (Ok end) v w l room = written_joined xs ys zs p q at mid end v w (omega (arith, w.within))
wrote_behind xs ys zs p q at mid (Err e) v w l room = absurd (omega (arith, w.0, v.ends, length-append p q))

-- behind the count of a mirrored script
pub wrote_behind_the_count : {E : Type 0} (s : List Instruction) (xs ys zs : List ℕ) (n mid : ℕ) (r : Result ℕ E) → n ≡ length s → Written xs 0 (writing n) mid ys → length ys ≡ length xs → length (mirror_image s) ≤ length xs → Wrote ys mid (mirror_bytes s) r zs → Wrote xs 0 (mirror_image s) r zs
wrote_behind_the_count s xs ys zs n mid r count v l room w =
    let image : writing n ++ mirror_bytes s ≡ mirror_image s = ap (λ k. writing k ++ mirror_bytes s) count ∙ sym (image_is_the_count_and_the_bytes s) in
    subst (λ t. Wrote xs 0 t r zs) image (wrote_behind xs ys zs (writing n) (mirror_bytes s) 0 mid r v w l (omega (arith, ap length image)))
