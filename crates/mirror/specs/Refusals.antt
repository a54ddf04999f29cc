-- What is told of a mirrored script that was not written.
use Rattle.std.specs.Prelude.{ℕ}
use Rattle.mirror.specs.declared.refusal.MirrorRefusal.{MirrorRefusal}
use Rattle.mirror.specs.declared.refusal.MirrorRefusal.TheVariants.{BufferTooShort}

abbrev pub told : MirrorRefusal → ℕ
told BufferTooShort = 15
