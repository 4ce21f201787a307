-- The names of objects that two directories share.
use Rattle.std.proofs.Common.{◌≡◌, ℕ, zero, suc, Bool, false, List, ◌∷◌, refl, sym, ap, ◌∙◌}
use Rattle.std.specs.Prelude.{nat_eq, if◌then◌else◌}
use Rattle.std.specs.Str.{str_to_ascii_uppercase}
use Rattle.ad_ids.specs.declared.token.Token.{Token}
use Rattle.ad_dn.specs.declared.rdn.Rdn.{Rdn}
use Rattle.ad_dn.specs.Text.{rdns_text}
use Rattle.ad_schema.specs.declared.line.SchemaRecord.{SchemaRecord}
use Rattle.ad_schema.specs.Classes.{naming_of}
use Rattle.ad_dir_model.specs.Limits.{max_depth}
use Rattle.ad_dir_model.specs.Object.{Object}
use Rattle.ad_dir_model.specs.Objects.{object_at, parent_at}
use Rattle.ad_dir_model.specs.Tree.{root}
use Rattle.ad_dir_model.specs.Attributes.{attr_name}
use Rattle.ad_dir_model.specs.Directory.{Directory}
use Rattle.ad_dir_model.specs.Names.{rdn_of, rdns_within, rdns_of, name_text}
use Rattle.ad_search_laws.proofs.Alike.{AreAlike}

rdn_by : List SchemaRecord → ℕ → List ℕ → Rdn
rdn_by schema class name = record {
  kind = str_to_ascii_uppercase (attr_name schema (naming_of schema class));
  value
      = name;
}

rdn_is : (schema : List SchemaRecord) (o : Object) → rdn_of schema o ≡ rdn_by schema o.class o.name
unfolding rdn_of rdn_by
rdn_is schema o = refl

module _ (dir other : Directory) (token : Token) (out : ℕ → Bool) (alike : AreAlike dir other token out) where
  same_rdn_of : (n : ℕ) → out n ≡ false → rdn_of other.schema (object_at other.objects n)
      ≡ rdn_of dir.schema (object_at dir.objects n)
  same_rdn_of n kept =
      let it = alike.each n kept in
      rdn_is other.schema (object_at other.objects n)
      ∙ ap (λ (s : List SchemaRecord). rdn_by s (object_at other.objects n).class (object_at other.objects n).name)
      alike.frame.schema
      ∙ ap (λ (c : ℕ). rdn_by dir.schema c (object_at other.objects n).name) it.class
      ∙ ap (rdn_by dir.schema (object_at dir.objects n).class) it.name
      ∙ sym (rdn_is dir.schema (object_at dir.objects n))

  same_within : (levels n : ℕ) → out n ≡ false → rdns_within other levels n ≡ rdns_within dir levels n
  unfolding rdns_within
  same_within zero n kept = refl
  same_within (suc levels) n kept =
      let it = alike.each n kept in
      let further : List Rdn → List Rdn = λ (s : List Rdn). if nat_eq n root then s else rdns_within other levels
      (parent_at other.objects n) in
      ap (λ (r : Rdn). r ∷ further other.meta.suffix) (same_rdn_of n kept)
      ∙ ap (λ (s : List Rdn). rdn_of dir.schema (object_at dir.objects n) ∷ further s) alike.frame.suffix
      ∙ ap (λ (t : List Rdn). rdn_of dir.schema (object_at dir.objects n)
      ∷ (if nat_eq n root then dir.meta.suffix else t))
      (ap (rdns_within other levels) it.parent ∙ same_within levels (parent_at dir.objects n) it.above)

  pub same_name : (n : ℕ) → out n ≡ false → rdns_of other n ≡ rdns_of dir n
  unfolding rdns_of
  same_name n kept = same_within (suc max_depth) n kept

  pub same_text : (n : ℕ) → out n ≡ false → name_text other n ≡ name_text dir n
  unfolding name_text
  same_text n kept = ap rdns_text (same_name n kept)
