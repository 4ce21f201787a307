-- The frames of the sample, one by one.
use Rattle.std.specs.Prelude.{List, [], ◌∷◌}
use Rattle.ad_ids.specs.declared.token.Token.{Token}
use Rattle.ad_frames.specs.declared.frame.Frame.{Frame}
use Rattle.ad_frames.specs.declared.frame.FrameBody.{FrameBody}
use Rattle.ad_frames.specs.declared.frame.FrameBody.TheVariants as body
use Rattle.ad_gen.specs.Frames.{builtin_administrators, in_domain, well_known}
use Rattle.ad_gen.specs.Messages.{modify_message, search_message}

-- all are of one connection
abbrev pub of_body : FrameBody → Frame
of_body b = record { connection = 0; body = b }

-- the administrators, with the privilege to read and write SACLs, and no groups
abbrev pub administrator_token : Token
administrator_token = record {
  version = 1;
  privileges = 1;
  user = builtin_administrators;
  owner = builtin_administrators;
  primary = builtin_administrators;
  groups = [];
  deny_only = [];
  restricting = [];
}

-- the second user of the first unit, in the domain's users, authenticated and one of everyone
abbrev pub second_user_token : Token
second_user_token = record {
  version = 1;
  privileges = 0;
  user = in_domain 1002;
  owner = in_domain 1002;
  primary = in_domain 513;
  groups = well_known 5 11 ∷ well_known 1 0 ∷ [];
  deny_only = [];
  restricting = [];
}

-- The administrator changes the domain's list, propagates it, has the protected objects protected, and propagates
-- again; then the user searches.
unfoldable pub sample_frames : List Frame
sample_frames =
    of_body (body.Token administrator_token)
    ∷ of_body (body.Message modify_message)
    ∷ of_body (body.Steps 1000000)
    ∷ of_body body.Run
    ∷ of_body (body.Steps 1000000)
    ∷ of_body (body.Token second_user_token)
    ∷ of_body (body.Message search_message)
    ∷ []
