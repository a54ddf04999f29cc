-- The innermost procedure or branch of the frames that stand open.
use Rattle.std.proofs.Common.{◌≡◌, ℕ, List, [], ◌∷◌, not, cond, Option, Some, refl}
use Rattle.std.specs.Option.{option_map_or}
use Rattle.std.specs.List.{find}
use Rattle.script.specs.declared.role.FrameKind.{FrameKind}
use Rattle.script.specs.declared.role.FrameKind.TheVariants.{Procedure, Branch, Forked}
use Rattle.script.specs.declared.frames.Frame.{Frame}
use Rattle.script.specs.Roles.{is_forked}
use Rattle.script.specs.Regions.{region_from, innermost}

by_kind : (kind : FrameKind) (f : Frame) (found : Option Frame) (outer : ℕ) → option_map_or (λ f. f.address) found 0 ≡ outer
    → option_map_or (λ f. f.address) (cond (not (is_forked kind)) (Some f) found) 0 ≡ region_from kind f.address outer
by_kind (Procedure p) f found outer e = refl
by_kind Branch f found outer e = refl
by_kind (Forked a) f found outer e = e

-- it is the first frame that is no fork
pub innermost-find : (fs : List Frame) → option_map_or (λ f. f.address) (find (λ f. not (is_forked f.kind)) fs) 0 ≡ innermost fs
innermost-find [] = refl
innermost-find (f ∷ fs) = by_kind f.kind f (find (λ f. not (is_forked f.kind)) fs) (innermost fs) (innermost-find fs)
