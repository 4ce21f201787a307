-- What `adsd effective` does.
use Rattle.std.specs.Prelude.{◌≡◌, ◌⊎◌, ℕ, List, [], Option, Some, IfSome}
use Rattle.site_io.specs.Disk.{Images}
use Rattle.site_io.specs.Told.{BothTold, StaysTold}
use Rattle.site_io.specs.declared.source.Source.{Ghosts as SourceGhosts}
use Rattle.site_io.specs.declared.site.Site.{Ghosts as SiteGhosts}
use Rattle.ad_ids.specs.declared.token.Token.{Token}
use Rattle.ad_ids.specs.Token.{SpellsToken}
use Rattle.ad_dir_model.specs.Directory.{Directory}
use Rattle.ad_dsacls.specs.Effective.{effective_text}
use Rattle.ad_engine_store.specs.Opening.{Refuses}
use Rattle.ad_engine_store.specs.declared.fault.OpenFault.{OpenFault}
use Rattle.cmd_call.specs.declared.outcome.Outcome.{Outcome}
use Rattle.cmd_call.specs.declared.outcome.Outcome.TheVariants.{Done, NotOfForm, NoStore, NoObject, SiteFailed}
use Rattle.cmd_call.specs.declared.outcome.Outcome.TheVariants.{NoMemory}
use Rattle.cmd_call.specs.Call.{IsTold}
use Rattle.cmd_call.specs.Outcome.{IsStopped, IsOfEffective}
use Rattle.cmd_call.specs.Store.{Emits, EmitsPart, KeepsSlots, IsSiteHealthy, IsAllHealthy}
use Rattle.cmd_store_open.specs.Opened.{NoDirStore, IsNoStore}
use Rattle.cmd_store_open.specs.Lines.{store_line}
use Rattle.cmd_store.specs.List.{IsStoreNamed, HasObject, HasNoObject, IsNoObject, number_named, no_object_line}

-- the bytes are a token, or none
abbrev pub IsToken : List ℕ → Type 0
IsToken input = (token : Token) × SpellsToken token input

abbrev pub NoToken : List ℕ → Type 0
NoToken input = IsToken input → ⊥

-- the whole input, which was read to its end, is this token
abbrev pub IsTokenFor : Option (List ℕ) → Option (List ℕ) → Token → Type 0
IsTokenFor rest left token = BothTold rest left (λ input behind. (behind ≡ []) × SpellsToken token input)

-- it is none
abbrev pub IsNoTokenFor : Option (List ℕ) → Option (List ℕ) → Type 0
IsNoTokenFor rest left = BothTold rest left (λ input behind. NoToken input)

-- what may be emitted for the slots and a token: what it may do at the object of the name
abbrev pub IsTextFor : List ℕ → Token → Images → List ℕ → Type 0
IsTextFor name token held text =
    (dir : Directory) × (number : ℕ) × IsStoreNamed held dir × (number_named dir name ≡ Some number)
    × (text ≡ effective_text dir token number)

-- and for slots without such an object: that there is none, or why they represent no directory
abbrev pub IsLineFor : List ℕ → Images → List ℕ → Type 0
IsLineFor name held text = (HasNoObject name held × (text ≡ no_object_line))
    ⊎ ((fault : OpenFault) × Refuses held fault × (text ≡ store_line fault))

module _ {I S : Type 0} (source : SourceGhosts I) (site : SiteGhosts S) where
  -- The store represents a directory, an object of it has the name, the input is a token, and what it may do at the
  -- object was emitted.
  pub record IsAnswered (name : List ℕ) (from to : I) (old new : S) : Type 0 where
    pub dir : Directory
    pub store : IfSome (site.reads old) (λ held. IsStoreNamed held dir)
    pub number : ℕ
    pub named : number_named dir name ≡ Some number
    pub token : Token
    pub input : IsTokenFor (source.rest from) (source.rest to) token
    pub text : Emits (site.emitted old) (site.emitted new) (effective_text dir token number)

  -- The store represents a directory, an object of it has the name, the input is no token, and nothing was emitted.
  pub record IsNoAnswer (name : List ℕ) (from to : I) (old new : S) : Type 0 where
    pub dir : Directory
    pub store : IfSome (site.reads old) (λ held. IsStoreNamed held dir)
    pub number : ℕ
    pub named : number_named dir name ≡ Some number
    pub input : IsNoTokenFor (source.rest from) (source.rest to)
    pub quiet : StaysTold (site.emitted old) (site.emitted new)

  -- The site failed: nothing was emitted, or a prefix of the text for the slots and the input, or of the line for
  -- the slots.
  abbrev pub IsPartlyAnswered : List ℕ → I → I → S → S → Type 0
  IsPartlyAnswered name from to old new = StaysTold (site.emitted old) (site.emitted new)
      ⊎ (((text : List ℕ) × (token : Token) × IsTokenFor (source.rest from) (source.rest to) token
      × IfSome (site.reads old) (λ held. IsTextFor name token held text) × EmitsPart (site.emitted old)
      (site.emitted new) text)
      ⊎ ((text : List ℕ) × IfSome (site.reads old) (λ held. IsLineFor name held text) × EmitsPart (site.emitted old)
      (site.emitted new) text))

  pub record EffectiveDoes (name : List ℕ) (from to : I) (old new : S) (outcome : Outcome) : Type 0 where
    pub done : outcome ≡ Done → IsAnswered name from to old new
    pub refused : outcome ≡ NotOfForm → IsNoAnswer name from to old new
    -- without an object nothing is read
    pub no_store : outcome ≡ NoStore → IsNoStore site old new × (to ≡ from)
    pub no_object : outcome ≡ NoObject → IsNoObject site name old new × (to ≡ from)
    -- an object that is there is never said to be none, and one that isn't is never answered for, nor is its input
    -- judged
    pub complete : IsTold (HasObject name) (site.reads old) → outcome ≡ NoObject → ⊥
    pub misses : IsTold (HasNoObject name) (site.reads old) → (outcome ≡ Done → ⊥) × (outcome ≡ NotOfForm → ⊥)
    -- a token is never refused, and what is none is never answered
    pub takes : IsTold IsToken (source.rest from) → outcome ≡ NotOfForm → ⊥
    pub refuses : IsTold NoToken (source.rest from) → outcome ≡ Done → ⊥
    -- where an object has the name and the input is a token, it is answered, unless something fails outside or
    -- memory runs out
    pub answers : IsTold (HasObject name) (site.reads old) → IsTold IsToken (source.rest from)
        → IsAllHealthy source site from to old new
        → (outcome ≡ Done) ⊎ (outcome ≡ NoMemory)
    -- slots that represent no directory are refused, unless the site fails or memory runs out
    pub stands : IsTold NoDirStore (site.reads old) → IsSiteHealthy site old new → (outcome ≡ NoStore)
        ⊎ (outcome ≡ NoMemory)
    pub partly : outcome ≡ SiteFailed → IsPartlyAnswered name from to old new
    pub quiet : IsStopped outcome → StaysTold (site.emitted old) (site.emitted new)
    -- no slot is written, whatever comes
    pub slots : KeepsSlots site old new
    pub only : IsOfEffective outcome
