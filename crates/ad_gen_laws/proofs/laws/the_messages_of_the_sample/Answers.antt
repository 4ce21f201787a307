use Rattle.ad_gen_laws.proofs.Sent.{change_read, change_settings, wider_read, search_read}
use Rattle.ad_gen_laws.proofs.laws.the_messages_of_the_sample.Goals as goal

pub returns : goal.returns
returns c = record { changes = change_read; settings = change_settings; list = wider_read; searches = search_read }
