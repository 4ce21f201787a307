-- A buffer that isn't filled, since the source failed.
use Rattle.std.proofs.Common.{◌≡◌, ◌∙◌, ℕ, ◌<◌, List, ◌++◌, length, Option, Some, None, sym, ap}
use Rattle.site_io.specs.Told.{StaysTold}
use Rattle.site_io.proofs.Reading.{Reads}
use Rattle.ad_frames.specs.Source.{TakesFewer}

-- what came so far has fewer bytes than there is room for
pub fewer : (old mid new : Option (List ℕ)) (got : List ℕ) (room : ℕ) → length got < room → Reads old mid got
    → StaysTold mid new → TakesFewer old new room
fewer None None None got room few so_far same = tt
fewer (Some before) (Some between) (Some after) got room few so_far same
    = (got, so_far ∙ ap (λ (l : List ℕ). got ++ l) (sym same), few)
fewer None None (Some after) got room few so_far same = absurd same
fewer None (Some between) new got room few so_far same = absurd so_far
fewer (Some before) None new got room few so_far same = absurd so_far
fewer (Some before) (Some between) None got room few so_far same = absurd same
