-- What is judged in a search of the objects of each kind, once.
use Rattle.std.specs.Prelude.{◌≡◌, ℕ, true}
use Rattle.std.specs.List.{AllByRecursion}
use Rattle.ad_ids.specs.declared.token.Token.{Token}
use Rattle.ad_ldap.specs.MessageValue.{SearchValue}
use Rattle.ad_dir_model.specs.Objects.{is_live}
use Rattle.ad_dir_model.specs.Directory.{Directory}
use Rattle.ad_constructed_dir.specs.Changing.{changing_of}
use Rattle.ad_entries.specs.declared.judged.Judged.{Judged}
use Rattle.ad_entries.specs.declared.judged.Kinds.{Kinds}
use Rattle.ad_entries.specs.Entry.{changing_attrs}
use Rattle.ad_entries.specs.Kinds.{IsOf}
use Rattle.ad_entries.specs.Asked.{AreAsked}
use Rattle.ad_entries.specs.Verdicts.{KnowsOf}

-- What was judged of a kind is so of each object of it.
pub record IsJudged (dir : Directory) (token : Token) (search : SearchValue) (judged : Judged) : Type 0 where
  pub live : is_live dir.objects judged.kind.sample ≡ true
  pub knows : KnowsOf dir token judged.kind judged.verdicts.items
  pub changing : (number : ℕ) → IsOf dir token judged.kind number
      → judged.changing ≡ changing_attrs search (changing_of dir token number)

-- It is so, and the object is of the kind.
pub record IsJudgedOf (dir : Directory) (token : Token) (search : SearchValue) (number : ℕ) (one : Judged) : Type 0
  where
    pub judged : IsJudged dir token search one
    pub of : IsOf dir token one.kind number

-- what a search asks for, and what was judged in it
pub record AreKinds (dir : Directory) (token : Token) (search : SearchValue) (kinds : Kinds) : Type 0 where
  pub asked : AreAsked dir.schema search.attrs kinds.asked
  pub judged : AllByRecursion (IsJudged dir token search) kinds.judged.items
