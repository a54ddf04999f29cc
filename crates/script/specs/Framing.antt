-- The calls of the open frames.
use Rattle.std.specs.Prelude.{◌≡◌, ℕ, ◌<◌, Bool, true, false, List, [], ◌∷◌, Some, None, Ok, Err, Result}
use Rattle.script.specs.declared.role.FrameKind.{FrameKind}
use Rattle.script.specs.declared.frames.Frame.{Frame}
use Rattle.script.specs.declared.frames.Misfit.{Misfit}
use Rattle.script.specs.Frames.{opening, closing}
use Rattle.script.specs.Regions.{innermost_address}

abbrev pub is_empty : List Frame → Bool
is_empty [] = true
is_empty (f ∷ fs) = false

-- one branch more can be counted in each
abbrev pub Countable : List Frame → Type 0
Countable [] = Unit {0}
Countable (f ∷ fs) = (f.branches < 65535) × Countable fs

-- a frame was opened; or as many are open as can be, and none was
abbrev pub Opened : FrameKind → ℕ → List Frame → Result (Unit {0}) Misfit → List Frame → Type 0
Opened kind a fs (Ok done) gs = opening kind a fs ≡ Some gs
Opened kind a fs (Err misfit) gs = (opening kind a fs ≡ None) × (gs ≡ fs)

-- the innermost frame was closed, and this is where it was opened; or its closer does not fit
abbrev pub Closed : FrameKind → List Frame → Result ℕ Misfit → List Frame → Type 0
Closed kind fs (Ok opener) gs = (innermost_address fs ≡ Some opener) × (closing kind fs ≡ Some gs)
Closed kind fs (Err misfit) gs = closing kind fs ≡ None
