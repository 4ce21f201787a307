-- What an answer unfolds to compute the text of the base schema.
use Rattle.std.specs.Prelude.{⊤}
use Rattle.ad_gen.specs.Schema.{schema, attributes as put_attributes, naming_attributes, identity_attributes}
use Rattle.ad_gen.specs.Schema.{account_attributes, personal_attributes}
use Rattle.ad_gen.specs.Schema.{outer_classes, account_classes, password_rights, validated_writes, attribute, class}
use Rattle.ad_gen.specs.Schema.{right, begun, named}
use Rattle.ad_gen.specs.Lines.{line as put_line, encoded_line}

unfoldable on_texts-1 : ⊤
unfolding schema put_attributes naming_attributes identity_attributes account_attributes personal_attributes
    outer_classes account_classes
on_texts-1 = tt

unfoldable pub on_texts : ⊤
unfolding on_texts-1 password_rights validated_writes attribute class right begun named put_line encoded_line
on_texts = tt
