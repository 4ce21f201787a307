-- From the first frame on: the token's, and then those of the messages.
use Rattle.std.proofs.Common.{◌≡◌, ◌≤◌, ℕ, List, map, length, Ok, refl, ap}
use Rattle.site_io.specs.Disk.{Images}
use Rattle.ad_ids.specs.declared.token.Token.{Token}
use Rattle.ad_sd.specs.declared.parts.Sd.{Sd}
use Rattle.ad_ldap.specs.declared.requests.Message.{Message}
use Rattle.ad_inherit.specs.Whole.{explicit_part}
use Rattle.ad_dir_model.specs.Objects.{sd_at}
use Rattle.ad_dir_model.specs.Directory.{Directory}
use Rattle.ad_dir_model.specs.Soundness.{IsSound}
use Rattle.ad_rows_write.specs.Rows.{IsStoreOf}
use Rattle.ad_engine.specs.Answer.{answer}
use Rattle.ad_engine.specs.Runs.{no_tokens, after_from, after}
use Rattle.ad_ldifmod.specs.Lines.{lines_of}
use Rattle.ad_ldifmod.specs.Lists.{stored_list}
use Rattle.ad_ldifmod.specs.Grants.{messages_of}
use Rattle.ad_ldifmod.proofs.Framing.{framed}
use Rattle.ad_ldifmod_laws.specs.Serving.{token_frame, message_frame, frames_behind, Succeed}
use Rattle.ad_ldifmod_laws.specs.Given.{HasRanges, GaveLists}
use Rattle.ad_ldifmod_laws.proofs.Domain.{domain_is}
use Rattle.ad_ldifmod_laws.proofs.Stores.{store_ranges}
use Rattle.ad_ldifmod_laws.proofs.Lines.{explicit_own}
use Rattle.ad_ldifmod_laws.proofs.Following.{Stands, Follows, follow}

-- before the first line each object has the list that is stored
begins : (dir : Directory) → IsSound dir → HasRanges dir → Stands dir dir (stored_list dir)
unfolding explicit_part
begins dir sound ranges = record {
  like = record { schema = refl; meta = refl; rest = refl };
  rise = sound.rise;
  explicit = λ n. refl;
  own = λ n. explicit_own (sd_at dir.objects n).dacl.entries (ranges n);
}

pub given_sound : (dir : Directory) (token : Token) (text : List ℕ) (messages : List Message) → IsSound dir
    → HasRanges dir → length text ≤ 1048576 → messages_of dir text ≡ Ok messages → Succeed dir token messages
    → GaveLists dir (lines_of text) (after dir (frames_behind token messages))
unfolding messages_of after_from answer
given_sound dir token text messages sound ranges few given out =
    let whole : Follows dir dir (after_from dir (answer dir no_tokens (token_frame token)).tokens
    (map message_frame messages)) (lines_of text) (stored_list dir) =
    follow dir dir (answer dir no_tokens (token_frame token)).tokens (stored_list dir) 1 1 (lines_of text) messages
    (domain_is dir sound) (begins dir sound ranges) given (framed dir text messages few given) out in
    record {
      lists = λ n. ap (λ (sd : Sd). sd.dacl) (whole.stands.explicit n);
      explicit = whole.stands.explicit;
      rest = whole.stands.like.rest;
      unnamed = whole.unnamed;
    }

pub given_stored : (held : Images) (dir : Directory) (token : Token) (text : List ℕ) (messages : List Message)
    → IsStoreOf held dir → length text ≤ 1048576 → messages_of dir text ≡ Ok messages → Succeed dir token messages
    → GaveLists dir (lines_of text) (after dir (frames_behind token messages))
given_stored held dir token text messages store = given_sound dir token text messages store.sound
    (store_ranges held dir store)
