-- What is known of an act that the checks up to the required rights resolve an operation to: of a deletion, a
-- rename and a move.
use Rattle.std.proofs.Common.{◌≡◌, ℕ, Bool, true, false, List, [], ◌∷◌, Option, Some, None, refl, subst}
use Rattle.std.specs.Prelude.{nat_eq, is_some, unwrap_or, option_map}
use Rattle.std.specs.Option.{option_map_or, option_and_then}
use Rattle.std.proofs.lemmas.Bool.{eqb-false, not-true, false≢true}
use Rattle.std.proofs.lemmas.Option.{none-some, same_Some}
use Rattle.ad_ids.specs.declared.token.Token.{Token}
use Rattle.ad_dn.specs.declared.rdn.Rdn.{Rdn}
use Rattle.ad_dn.specs.declared.rdn.Dn.{Dn}
use Rattle.ad_dn.specs.Value.{IsValue, AreRdns}
use Rattle.ad_dn.specs.Reading.{dn_of}
use Rattle.ad_dn.proofs.ReadOff.{dn_read}
use Rattle.ad_dn.proofs.Spelled.{spelled_are}
use Rattle.ad_ldap.specs.declared.requests.Rename.{Rename}
use Rattle.ad_ldap.specs.MessageValue.{OpValue, Bind, Unbind, SearchOf, ModifyOf, AddOf, DeleteOf, RenameOf}
use Rattle.ad_ldap.specs.MessageValue.{CompareOf, Abandon, Extended}
use Rattle.ad_dir_objects.specs.declared.act.Act.{Act}
use Rattle.ad_dir_objects.specs.declared.act.Act.TheVariants as act
use Rattle.ad_dir_model.specs.Objects.{is_live, parent_at}
use Rattle.ad_dir_model.specs.Tree.{root}
use Rattle.ad_dir_model.specs.Directory.{Directory}
use Rattle.ad_dir_model.specs.Changes.{goes_with}
use Rattle.ad_dir_model.specs.Soundness.{IsSound}
use Rattle.ad_dir_model.proofs.ScratchLaws.{below_at}
use Rattle.ad_needs_rules.specs.declared.outcome.Verdict.TheVariants.{Granted, Refused}
use Rattle.ad_needs_rules.specs.Checks.{Refusal, code, hidden, missing, first_failing, refused, by_checks}
use Rattle.ad_needs_rules.specs.Requests.{number_named, no_rdn}
use Rattle.ad_needs_rules.specs.Adding.{add_act}
use Rattle.ad_needs_rules.specs.Deleting.{delete_checks, delete_act}
use Rattle.ad_needs_rules.specs.Renaming.{one_part, new_rdn, new_parent, superior_seen, superior_outside, rename_checks}
use Rattle.ad_needs_rules.specs.Renaming.{rename_act}
use Rattle.ad_needs_rules.specs.Modifying.{modify_act}
use Rattle.ad_needs_rules.specs.Verdicts.{verdict_of, IsChange, Resolves}
use Rattle.ad_needs_rules.proofs.FirstFailing.{head_holds, both_hold}
use Rattle.ad_needs_rules.proofs.Named.{named_live}

-- ---- what is granted

not_granted : (r : Refusal) (a : Act) → refused r ≡ Granted a → ⊥
not_granted (code n) a e = cc
not_granted (hidden rdns) a e = cc
not_granted (missing need) a e = cc

same_granted : (a b : Act) → Granted a ≡ Granted b → a ≡ b
same_granted a b e = cc

pub granted_is : (r : Option Refusal) (a b : Act) → by_checks r a ≡ Granted b → (r ≡ None) × (a ≡ b)
granted_is None a b e = (refl, same_granted a b e)
granted_is (Some r) a b e = absurd (not_granted r b e)

refused_none : (a : Act) → Refused 53 ≡ Granted a → ⊥
refused_none a e = cc

-- ---- Delete

-- a live object below the root
pub record IsDeletion (dir : Directory) (target : ℕ) : Type 0 where
  pub live : is_live dir.objects target ≡ true
  pub below : target ≡ root → ⊥

same_target : (a b : ℕ) (t u : Bool) → act.Delete a t ≡ act.Delete b u → a ≡ b
same_target a b t u e = cc

pub deletion_of : (dir : Directory) (token : Token) (dn : List ℕ) (tree : Bool) → IsSound dir
    → first_failing (delete_checks dir token dn tree) ≡ None
    → IsDeletion dir (number_named dir token dn)
unfolding delete_checks
deletion_of dir token dn tree sound none =
    let reads = head_holds _ _ none in
    let seen = head_holds _ _ reads.1 in
    let not_root = head_holds _ _ seen.1 in
    record {
      live = named_live dir token dn sound.rise seen.0;
      below = eqb-false (number_named dir token dn) root
          (not-true (nat_eq (number_named dir token dn) root) not_root.0);
    }

pub deletion : (dir : Directory) (token : Token) (target : ℕ) (tree : Bool) → IsSound dir
    → Resolves dir token (act.Delete target tree) → IsDeletion dir target
unfolding verdict_of
deletion dir token target tree sound r = by_op r.op r.change r.granted
  where
    by_op : (op : OpValue) → IsChange op → verdict_of dir token op r.settings ≡ Granted (act.Delete target tree)
        → IsDeletion dir target
    by_op (DeleteOf dn) change granted =
        let is = granted_is _ _ _ granted in
        subst (IsDeletion dir) (same_target _ _ _ _ is.1) (deletion_of dir token dn r.settings.tree sound is.0)
    by_op (AddOf a) change granted = absurd (by_act (granted_is _ _ _ granted).1)
      where
        by_act : add_act dir token a r.settings.sd_flags ≡ act.Delete target tree → ⊥
        by_act e = cc
    by_op (RenameOf x) change granted = absurd (by_act (granted_is _ _ _ granted).1)
      where
        by_act : rename_act dir token x ≡ act.Delete target tree → ⊥
        by_act e = cc
    by_op (ModifyOf m) change granted = absurd (by_act (granted_is _ _ _ granted).1)
      where
        by_act : modify_act dir token m r.settings.sd_flags ≡ act.Delete target tree → ⊥
        by_act e = cc
    by_op Bind change granted = absurd change
    by_op Unbind change granted = absurd change
    by_op (SearchOf s) change granted = absurd change
    by_op (CompareOf c) change granted = absurd change
    by_op Abandon change granted = absurd change
    by_op Extended change granted = absurd change

-- ---- Rename

-- A live object below the root, a live parent, which is neither the object nor below it where it is another one
-- than now, and a naming value.
pub record IsRenaming (dir : Directory) (target parent : ℕ) (name : List ℕ) : Type 0 where
  pub live : is_live dir.objects target ≡ true
  pub below : target ≡ root → ⊥
  pub parent_live : is_live dir.objects parent ≡ true
  pub outside : (parent_at dir.objects target ≡ parent → ⊥) → goes_with dir target parent ≡ false
  pub value : IsValue name

same_renaming : (a b p q : ℕ) (n m : List ℕ) → act.Rename a p n ≡ act.Rename b q m → (a ≡ b) × (p ≡ q) × (n ≡ m)
same_renaming a b p q n m e = (ta, tp, tn)
  where
    ta : a ≡ b
    ta = cc

    tp : p ≡ q
    tp = cc

    tn : n ≡ m
    tn = cc

-- the value of the one part that a text encodes
rdn_value : (rdns : List Rdn) (rdn : Rdn) → AreRdns rdns → one_part rdns ≡ Some rdn → IsValue rdn.value
rdn_value [] rdn are is = absurd (none-some rdn is)
rdn_value (first ∷ []) rdn are is = let e : first ≡ rdn = same_Some first rdn is
    in subst (λ (x : Rdn). IsValue x.value) e are.0.value
rdn_value (first ∷ second ∷ others) rdn are is = absurd (none-some rdn is)

value_of : (r : Rename) → is_some (new_rdn r) ≡ true → IsValue (unwrap_or (new_rdn r) no_rdn).value
value_of r some = by_dn (dn_of r.rdn) refl some
  where
    of : Option Dn → Option Rdn
    of dn = option_and_then one_part (option_map (λ (d : Dn). d.rdns) dn)

    by_rdn : (rdns : List Rdn) (rdn : Option Rdn) → AreRdns rdns → one_part rdns ≡ rdn → is_some rdn ≡ true
        → IsValue (unwrap_or rdn no_rdn).value
    by_rdn rdns None are is some' = absurd (false≢true some')
    by_rdn rdns (Some rdn) are is some' = rdn_value rdns rdn are is

    by_dn : (dn : Option Dn) → dn_of r.rdn ≡ dn → is_some (of dn) ≡ true → IsValue (unwrap_or (of dn) no_rdn).value
    by_dn None is some' = absurd (false≢true some')
    by_dn (Some dn) is some' = by_rdn dn.rdns (one_part dn.rdns) (spelled_are dn.rdns r.rdn (dn_read r.rdn dn is))
        refl some'

pub renaming_of : (dir : Directory) (token : Token) (r : Rename) → IsSound dir
    → first_failing (rename_checks dir token r) ≡ None
    → IsRenaming dir (number_named dir token r.dn) (new_parent dir token r) (unwrap_or (new_rdn r) no_rdn).value
unfolding rename_checks new_parent
renaming_of dir token r sound none =
    let reads = head_holds _ _ none in
    let one = head_holds _ _ reads.1 in
    let superior = head_holds _ _ one.1 in
    let seen = head_holds _ _ superior.1 in
    let behind = both_hold (superior_seen dir token r.superior) _ seen.1 in
    let not_root = head_holds _ _ behind.1 in
    let typed = head_holds _ _ not_root.1 in
    let outside = head_holds _ _ typed.1 in
    let live = named_live dir token r.dn sound.rise seen.0 in
    let below : number_named dir token r.dn ≡ root → ⊥ = eqb-false (number_named dir token r.dn) root
    (not-true (nat_eq (number_named dir token r.dn) root) not_root.0) in
    record {
      live = live;
      below = below;
      parent_live = parent_live r.superior behind.0 live below;
      outside = apart r.superior outside.0;
      value = value_of r one.0;
    }
  where
    number : ℕ
    number = number_named dir token r.dn

    parent_live : (superior : Option (List ℕ)) → first_failing (superior_seen dir token superior) ≡ None
        → is_live dir.objects number ≡ true → (number ≡ root → ⊥)
        → is_live dir.objects (option_map_or (number_named dir token) superior (parent_at dir.objects number)) ≡ true
    parent_live None seen live below = (below_at dir sound.each number live below).parent_live
    parent_live (Some text) seen live below = named_live dir token text sound.rise (head_holds _ _ seen).0

    apart : (superior : Option (List ℕ)) → superior_outside dir token number superior ≡ true
        → (parent_at dir.objects number ≡ option_map_or (number_named dir token) superior
        (parent_at dir.objects number) → ⊥)
        → goes_with dir number (option_map_or (number_named dir token) superior (parent_at dir.objects number)) ≡ false
    apart None outside differ = absurd (differ refl)
    apart (Some text) outside differ = not-true (goes_with dir number (number_named dir token text)) outside

pub renaming : (dir : Directory) (token : Token) (target parent : ℕ) (name : List ℕ) → IsSound dir
    → Resolves dir token (act.Rename target parent name) → IsRenaming dir target parent name
unfolding verdict_of
renaming dir token target parent name sound r = by_op r.op r.change r.granted
  where
    by_op : (op : OpValue) → IsChange op → verdict_of dir token op r.settings
        ≡ Granted (act.Rename target parent name) → IsRenaming dir target parent name
    by_op (RenameOf x) change granted =
        let is = granted_is _ _ _ granted in
        let same = same_renaming _ _ _ _ _ _ is.1 in
        subst (IsRenaming dir target parent) same.2
        (subst (λ (p : ℕ). IsRenaming dir target p (unwrap_or (new_rdn x) no_rdn).value) same.1
        (subst (λ (t : ℕ). IsRenaming dir t (new_parent dir token x) (unwrap_or (new_rdn x) no_rdn).value) same.0
        (renaming_of dir token x sound is.0)))
    by_op (DeleteOf dn) change granted = absurd (by_act (granted_is _ _ _ granted).1)
      where
        by_act : delete_act dir token dn r.settings.tree ≡ act.Rename target parent name → ⊥
        by_act e = cc
    by_op (AddOf a) change granted = absurd (by_act (granted_is _ _ _ granted).1)
      where
        by_act : add_act dir token a r.settings.sd_flags ≡ act.Rename target parent name → ⊥
        by_act e = cc
    by_op (ModifyOf m) change granted = absurd (by_act (granted_is _ _ _ granted).1)
      where
        by_act : modify_act dir token m r.settings.sd_flags ≡ act.Rename target parent name → ⊥
        by_act e = cc
    by_op Bind change granted = absurd change
    by_op Unbind change granted = absurd change
    by_op (SearchOf s) change granted = absurd change
    by_op (CompareOf c) change granted = absurd change
    by_op Abandon change granted = absurd change
    by_op Extended change granted = absurd change
