-- The frames that were read so far, of what is told of an input.
use Rattle.std.proofs.Common.{◌≡◌, ℕ, suc, List, [], ◌∷◌, ◌++◌, Option, Some, None, Ok, sym, subst}
use Rattle.std.specs.Option.{IfSome}
use Rattle.site_io.specs.Told.{BothTold}
use Rattle.ad_frames.specs.declared.frame.Frame.{Frame}
use Rattle.ad_frames.specs.Frames.{End, Frames, frames_within, frames_of}
use Rattle.ad_frames.specs.Limits.{max_frames}
use Rattle.ad_frames.specs.Reading.{next_of}
use Rattle.ad_frames.specs.Source.{ReadsSource}
use Rattle.ad_frames.proofs.SourceSteps.{told_then}
use Rattle.cmd_store_open.specs.Ends.{EndsAs}
use Rattle.cmd_store_open.proofs.Parts.{first_told}
use Rattle.cmd_store_open.proofs.ReadSoFar.{HasRead, read_none, read_one, read_first, ended, next_some}

-- these frames are the first of the input
abbrev pub Fronts : List Frame → Option (List ℕ) → Type 0
Fronts frames rest = IfSome rest (λ input. (others : List Frame) × ((frames_of input).frames ≡ frames ++ others))

-- these are all of them, and it ends so
abbrev pub AreAll : End → List Frame → List ℕ → Type 0
AreAll end frames input = ((frames_of input).frames ≡ frames) × EndsAs end input

pub read_start : (r : Option (List ℕ)) (more : ℕ) → more ≡ 1000000 → BothTold r r (HasRead [] more)
unfolding max_frames
read_start None more is = tt
read_start (Some input) more is = subst (λ (n : ℕ). HasRead [] n input input) (sym is) (read_none input)

-- the frames that were read are the first of the input
pub fronts_of : (served : List Frame) (more : ℕ) (rest left : Option (List ℕ))
    → BothTold rest left (HasRead served more) → Fronts served rest
fronts_of served more rest left told = first_told _ rest left
    (λ input behind has. read_first served more input behind has) told

-- what is left makes the end
pub ends_by : (served : List Frame) (more : ℕ) (fs : Frames) (r0 r1 r2 : Option (List ℕ)) → fs.frames ≡ []
    → BothTold r0 r1 (HasRead served more)
    → BothTold r1 r2 (λ rest behind. frames_within more rest ≡ fs) → IfSome r0 (AreAll fs.end served)
ends_by served more fs r0 r1 r2 none read left =
    first_told _ r0 r2 (λ input behind all. all)
    (told_then r0 r1 r2 _ _ (λ input behind. AreAll fs.end served input)
    (λ input rest behind has is. ended served more input rest fs has is none) read left)

pub read_next : (served : List Frame) (frame : Frame) (more : ℕ) (r0 r1 r2 : Option (List ℕ))
    → BothTold r0 r1 (HasRead served (suc more))
    → ReadsSource r1 r2 (Ok (Some frame)) next_of → BothTold r0 r2 (HasRead (served ++ frame ∷ []) more)
read_next served frame more r0 r1 r2 read next =
    told_then r0 r1 r2 _ _ _ (λ input rest left has is. read_one served frame more input rest left has
    (next_some rest left frame is)) read next
