-- Why the last question of the first way that goes is told yes.
use Rattle.std.specs.Prelude.{ℕ, Option, List, find}
use Rattle.std.specs.Option.{option_map_or, option_and_then}
use Rattle.ad_ids.specs.declared.token.Token.{Token}
use Rattle.ad_dir_model.specs.Directory.{Directory}
use Rattle.ad_questions.specs.Question.{question_of}
use Rattle.ad_questions.specs.Requirements.{requirements}
use Rattle.ad_who.specs.declared.reason.Reason.{Reason}
use Rattle.ad_who.specs.Reason.{told}
use Rattle.ad_who.specs.Lines.{reason_text}
use Rattle.ad_control_graph.specs.Kinds.{Way}
use Rattle.ad_control.specs.Edges.{goes}
use Rattle.ad_control.specs.Lines.{nothing, last_in}

-- where the token is told yes to the question of a text, why
unfoldable pub reason_for : Directory → Token → ℕ → List ℕ → Option Reason
reason_for dir token number text =
    option_and_then (λ question. told dir token number (requirements dir question number)) (question_of dir.schema text)

unfoldable pub last_reason : Directory → Token → ℕ → List (List ℕ) → Option Reason
last_reason dir token number texts = option_and_then (reason_for dir token number) (last_in texts)

-- by the first way that goes
abbrev pub decided : Directory → Token → ℕ → List Way → Option Reason
decided dir token number ways =
    option_and_then (λ (way : Way). last_reason dir token number way.asks) (find (goes dir token number) ways)

-- the word that tells it
abbrev pub reason_word : Option Reason → List ℕ
reason_word reason = option_map_or reason_text reason nothing
