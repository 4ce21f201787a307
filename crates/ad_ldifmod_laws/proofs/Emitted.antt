-- The bytes of the frame of a message.
use Rattle.std.proofs.Common.{ℕ, List, [], ◌∷◌, ◌++◌, length, refl, arith}
use Rattle.ad_bytes.specs.Numbers.{be_bytes}
use Rattle.ad_frames.specs.Frame.{SpellsFrame}
use Rattle.ad_frames.specs.Limits.{max_body, max_connections}
use Rattle.ad_ldap.specs.declared.requests.Message.{Message}
use Rattle.ad_ldap.specs.MessageValue.{message_seen}
use Rattle.ad_ldifmod_message.specs.Written.{message_bytes}
use Rattle.ad_ldifmod.specs.Grants.{IsOfFrame}
use Rattle.ad_ldifmod.specs.Messages.{max_message}
use Rattle.ad_ldifmod_laws.specs.Serving.{message_frame}

pub frame_spelled : (message : Message) → IsOfFrame message
    → SpellsFrame (message_frame message) (2 ∷ 0 ∷ 0 ∷ be_bytes 4 (length (message_bytes (message_seen message)))
    ++ message_bytes (message_seen message))
unfolding max_body max_connections max_message be_bytes
frame_spelled message is =
    let body : List ℕ = message_bytes (message_seen message) in
    record {
      content = body;
      few = is.fits;
      connection = omega arith;
      spelled = refl;
      text_is = record {
        front = 2 ∷ [];
        behind = 0 ∷ 0 ∷ be_bytes 4 (length body) ++ body;
        parts = refl;
        spelled = (omega arith, refl);
        follows = record {
          front = 0 ∷ 0 ∷ [];
          behind = be_bytes 4 (length body) ++ body;
          parts = refl;
          spelled = (omega arith, refl);
          follows = record {
            front = be_bytes 4 (length body);
            behind = body;
            parts = refl;
            spelled
                = (omega (arith, is.fits), refl);
            follows = (refl, refl);
          };
        };
      };
    }
