-- What a refusal tells; and no name is both answered and refused.
use Rattle.std.proofs.Common.{◌≡◌, ◌∙◌, ℕ, Bool, true, false, List, Result, Ok, Err, sym, subst}
use Rattle.std.specs.Prelude.{IfOk}
use Rattle.std.specs.declared.alloc.AllocError.{AllocError}
use Rattle.std.proofs.lemmas.Bool.{false≢true}
use Rattle.ad_dir_model.specs.Directory.{Directory}
use Rattle.ad_principals.specs.declared.fault.NameFault.{NameFault}
use Rattle.ad_who.specs.declared.fault.AskFault.{AskFault}
use Rattle.ad_who.specs.declared.fault.AskFault.TheVariants.{NoObject, Several, NoPrincipal, NoIdentifier, NoRight}
use Rattle.ad_who.specs.declared.fault.AskFault.TheVariants.{TooMany, Memory}
use Rattle.ad_who.specs.Faults.{fault_line, is_memory, IsNameFault}
use Rattle.ad_control_dir.specs.declared.told.Answer.{Answer}
use Rattle.ad_control_dir.specs.Control.{node_named, ChainsTold, ControlTold, ReachTold}

-- ---- the line of a fault

pub refused : (back : Bool) (dir : Directory) (name : List ℕ) (fault : AskFault) (told : Result Answer AllocError)
    → IsNameFault (node_named dir name) fault → is_memory fault ≡ false
    → IfOk told (λ t. (t.answered ≡ false) × (t.text.items ≡ fault_line dir fault))
    → IfOk told (λ t. ChainsTold back dir name t.answered t.text.items)
refused back dir name fault (Ok t) is not_memory line =
    subst (λ (b : Bool). ChainsTold back dir name b t.text.items) (sym line.0) (fault, is, not_memory, line.1)
refused back dir name fault (Err e) is not_memory line = tt

-- ---- not both

apart : {A E : Type 0} (value : A) (fault : E) → (λ (r : Result A E). r) (Ok value) ≡ Err fault → ⊥
apart value fault is = absurd cc

name_clash : {A : Type 0} (found : Result A NameFault) (value : A) (fault : AskFault) → found ≡ Ok value
    → IsNameFault found fault → is_memory fault ≡ false → ⊥
name_clash found value NoObject is none told = apart value _ (sym is ∙ none)
name_clash found value Several is none told = apart value _ (sym is ∙ none)
name_clash found value NoPrincipal is none told = none
name_clash found value NoIdentifier is none told = none
name_clash found value NoRight is none told = none
name_clash found value (TooMany number) is none told = none
name_clash found value Memory is none told = false≢true (sym told)

either : (back : Bool) (dir : Directory) (name answer line : List ℕ) → ChainsTold back dir name true answer
    → ChainsTold back dir name false line → ⊥
either back dir name answer line is none = name_clash _ is.0 none.0 is.1 none.1 none.2

pub control_either : (dir : Directory) (name answer line : List ℕ) → ControlTold dir name true answer
    → ControlTold dir name false line → ⊥
control_either = either false

pub reach_either : (dir : Directory) (name answer line : List ℕ) → ReachTold dir name true answer
    → ReachTold dir name false line → ⊥
reach_either = either true
