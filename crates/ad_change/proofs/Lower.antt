-- Laws of the crates below: what a value shows reads back, and identifiers are read as they are spelled.
use Rattle.ad_ids.proofs.SidCodec.{sid_reader}
use Rattle.ad_ids.proofs.SidOfTextLaws.{spells_of, spelled_of}
use Rattle.ad_ids.proofs.SidWriting.{length-sid_bytes}
use Rattle.ad_dn.proofs.ReadOff.{dn_read, dn_again}
use Rattle.ad_value.proofs.Lower.{Promised}
use Rattle.ad_value.proofs.ShownLaws.{shown_read}
use Rattle.ad_change.proofs.Contents.{ReadsBack}
use Rattle.ad_change.proofs.NewSid.{SidsRead}

promised : Promised
promised = record {
  names = λ dn text. (dn_read text dn, dn_again text dn);
  sid_texts = λ sid text. (spells_of sid text, spelled_of sid text);
  sid_read = sid_reader;
}

pub reads_back : ReadsBack
reads_back = λ s bytes v are is. shown_read promised length-sid_bytes s bytes v are is

pub sids_read : SidsRead
sids_read = record { read = sid_reader; lengths = length-sid_bytes }
