use Rattle.std.proofs.Common.{◌≡◌, ◌∙◌, true}
use Rattle.ad_questions.specs.Requirements.{is_allowed}
use Rattle.ad_rights_rows.specs.Rows.{base_at, whole_at}
use Rattle.ad_rights_rows.proofs.Telling.{whole_there}
use Rattle.ad_rights_rows.proofs.member.what_a_row_tells_is_allowed.Goals as goal

pub returns : goal.returns
returns c = λ dir tokens question number member own token there.
    c.a_row_tells_the_whole.ensures number member own (base_at dir tokens question number)
    (whole_at dir tokens question number)
    ∙ whole_there dir tokens question number member token there
