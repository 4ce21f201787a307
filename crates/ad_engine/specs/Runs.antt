-- What a list of frames is answered, one after the other, and the directory after them. At the start no connection
-- has a token.
use Rattle.std.specs.Prelude.{Option, ℕ, List, [], ◌∷◌, ◌++◌, take}
use Rattle.ad_ids.specs.declared.token.Token.{Token}
use Rattle.ad_frames.specs.declared.frame.Frame.{Frame}
use Rattle.ad_dir_model.specs.Directory.{Directory}
use Rattle.ad_engine.specs.Answer.{answer}

abbrev pub no_tokens : List (Option Token)
no_tokens = []

-- ---- from some tokens on

unfoldable pub out_from : Directory → List (Option Token) → List Frame → List ℕ
out_from dir tokens [] = []
out_from dir tokens (frame ∷ frames) =
    (answer dir tokens frame).output ++ out_from (answer dir tokens frame).directory (answer dir tokens frame).tokens
    frames

unfoldable pub after_from : Directory → List (Option Token) → List Frame → Directory
after_from dir tokens [] = dir
after_from dir tokens (frame ∷ frames) = after_from (answer dir tokens frame).directory
    (answer dir tokens frame).tokens frames

-- ---- from the start

-- the output frames, joined
abbrev pub out : Directory → List Frame → List ℕ
out dir frames = out_from dir no_tokens frames

-- the last directory
abbrev pub after : Directory → List Frame → Directory
after dir frames = after_from dir no_tokens frames

-- ---- of the first n frames

-- the answers to the first n frames, joined, and the directory after them
abbrev pub out_of_first : Directory → List Frame → ℕ → List ℕ
out_of_first dir frames n = out dir (take n frames)

abbrev pub after_first : Directory → List Frame → ℕ → Directory
after_first dir frames n = after dir (take n frames)
