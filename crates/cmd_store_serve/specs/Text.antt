-- What the sample tells: eight numbers, from the answers to its frames and from the directory after them.
use Rattle.std.specs.Prelude.{ℕ, List, ◌++◌, length, codes}
use Rattle.ad_frames.specs.declared.frame.Frame.{Frame}
use Rattle.ad_dir_model.specs.Directory.{Directory}
use Rattle.ad_engine.specs.Runs.{after}
use Rattle.cmd_call.specs.Lines.{counted}
use Rattle.cmd_store.specs.Stale.{stale}
use Rattle.cmd_store_serve.specs.Answers.{outputs, output_at, first_number, second_number, found_in}

-- The answers to the third, fourth, fifth and seventh frame have numbers: how many steps were made, how many
-- objects the run changed and how many are protected, how many steps were made then, and which entries the search
-- found.
unfoldable pub counts_text : List (List ℕ) → List ℕ
counts_text answers =
    counted (codes "steps") (first_number (output_at answers 2))
    ++ (counted (codes "changed") (first_number (output_at answers 3))
    ++ (counted (codes "protected") (second_number (output_at answers 3))
    ++ (counted (codes "settled") (first_number (output_at answers 4))
    ++ counted (codes "found") (found_in (output_at answers 6)))))

unfoldable pub text_of : List (List ℕ) → Directory → List ℕ
text_of answers dir =
    counted (codes "objects") (length dir.objects)
    ++ (counts_text answers ++ (counted (codes "stale") (stale dir) ++ counted (codes "pending") (length dir.pending)))

-- of a directory that is sent these frames
abbrev pub sample_text : Directory → List Frame → List ℕ
sample_text dir frames = text_of (outputs dir frames) (after dir frames)
