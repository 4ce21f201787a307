-- A question as its reader keeps it.
use Rattle.cmd_plain.specs.declared.request.Request.{Request}
use Rattle.cmd_plain.specs.Request.{Question}

abbrev pub question_seen : Request → Question
question_seen r = record { token = r.token; owner = r.owner; dacl = r.dacl.items; want = r.want }
