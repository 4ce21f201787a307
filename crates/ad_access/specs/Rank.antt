-- The principal of a token that the code is asking about.
use Rattle.ad_ids.specs.declared.token.Token.{Token}
use Rattle.ad_access.specs.declared.holder.Rank.{Rank}
use Rattle.ad_access.specs.declared.holder.Rank.TheVariants.{First, Second}
use Rattle.ad_access.specs.Holder.{Holder, first_holder, second_holder}

abbrev pub holder_of : Token → Rank → Holder
holder_of token First = first_holder token
holder_of token Second = second_holder token
