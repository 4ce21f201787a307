-- The lists of a token as its reader keeps them.
use Rattle.ad_ids.specs.declared.token_reading.TokenLists.{TokenLists}
use Rattle.ad_ids.specs.Token.{Lists}

abbrev pub lists_seen : TokenLists → Lists
lists_seen lists = record { groups = lists.groups; deny_only = lists.deny_only; restricting = lists.restricting }
