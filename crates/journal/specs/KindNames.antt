-- The names of the kinds.
use Rattle.std.specs.Prelude.{ℕ, List, codes}
use Rattle.journal.specs.declared.kind.Kind.{Kind}
use Rattle.journal.specs.declared.kind.Kind.TheVariants.{Run, Done, Enter, Store, Jump, Alloc, Free, Fork, Merge}

abbrev pub kind_name : Kind → List ℕ
kind_name Run = codes "Run"
kind_name Done = codes "Done"
kind_name Enter = codes "Enter"
kind_name Store = codes "Store"
kind_name Jump = codes "Jump"
kind_name Alloc = codes "Alloc"
kind_name Free = codes "Free"
kind_name Fork = codes "Fork"
kind_name Merge = codes "Merge"
