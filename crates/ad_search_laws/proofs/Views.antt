-- What a token sees of two directories that share what they have to.
use Rattle.std.proofs.Common.{◌≡◌, ℕ, suc, ◌+◌, Bool, true, false, cond, List, [], ◌∷◌, map, Option, Some, None, refl}
use Rattle.std.proofs.Common.{sym, subst, ap, arith, ◌∙◌}
use Rattle.std.specs.Prelude.{filter, slice_get}
use Rattle.std.specs.List.{AllByRecursion}
use Rattle.ad_ids.specs.declared.token.Token.{Token}
use Rattle.ad_sd.specs.declared.parts.SdParts.{SdParts}
use Rattle.ad_dn.specs.declared.rdn.Rdn.{Rdn}
use Rattle.ad_value.specs.Value.{Value}
use Rattle.ad_schema.specs.declared.info.AttrInfo.{AttrInfo}
use Rattle.ad_schema.specs.Attributes.{attrs_of}
use Rattle.ad_schema.specs.declared.line.SchemaRecord.{SchemaRecord}
use Rattle.ad_dir_model.specs.Directory.{Directory}
use Rattle.ad_dir_model.specs.Names.{rdns_of}
use Rattle.ad_dir_model.specs.Shown.{shown}
use Rattle.ad_access_dir.specs.Sight.{is_visible}
use Rattle.ad_constructed_dir.specs.Changing.{Changing, changing_of}
use Rattle.ad_constructed_dir.proofs.AlikeLaws.{changing_same}
use Rattle.ad_entries.specs.Seen.{Seen, is_readable, read_of, reads_from, parts_read, seen_of, seen_among}
use Rattle.ad_search_laws.proofs.Alike.{AreAlike, same_visible, same_readable}
use Rattle.ad_search_laws.proofs.Names.{same_name}
use Rattle.ad_search_laws.proofs.Shown.{same_shown}

seen_by : List Rdn → List (Option (List Value)) → SdParts → Changing → Seen
seen_by name values parts changing = record { name = name; values = values; parts = parts; changing = changing }

seen_is : (dir : Directory) (token : Token) (n : ℕ)
    → seen_of dir token n ≡ seen_by (rdns_of dir n) (reads_from dir token n 0 (attrs_of dir.schema))
    (parts_read dir token n) (changing_of dir token n)
unfolding seen_of seen_by
seen_is dir token n = refl

module _ (dir other : Directory) (token : Token) (out : ℕ → Bool) (alike : AreAlike dir other token out) where
  same_read : (n : ℕ) → out n ≡ false → is_visible dir token n ≡ true → (attr : ℕ) (info : AttrInfo)
      → slice_get (attrs_of dir.schema) attr ≡ Some info
      → read_of other token n attr info ≡ read_of dir token n attr info
  unfolding read_of
  same_read n kept visible attr info at =
      ap (λ (b : Bool). cond b (Some (shown other n attr)) None)
      (same_readable dir other token out alike n kept attr info)
      ∙ by_bool (is_readable dir token n attr info) refl
    where
      by_bool : (b : Bool) → is_readable dir token n attr info ≡ b → cond b (Some (shown other n attr)) None
          ≡ cond b (Some (shown dir n attr)) None
      by_bool true readable = ap Some (same_shown dir other token out alike n kept visible attr info at readable)
      by_bool false hidden = refl

  same_reads : (n : ℕ) → out n ≡ false → is_visible dir token n ≡ true → (place : ℕ) (infos : List AttrInfo)
      → ((i : ℕ) (info : AttrInfo) → slice_get infos i ≡ Some info → (k : ℕ) → k ≡ place + i
      → slice_get (attrs_of dir.schema) k ≡ Some info)
      → reads_from other token n place infos ≡ reads_from dir token n place infos
  unfolding reads_from
  same_reads n kept visible place [] at = refl
  same_reads n kept visible place (info ∷ infos) at =
      ap (λ (r : Option (List Value)). r ∷ reads_from other token n (suc place) infos)
      (same_read n kept visible place info (at 0 info refl place (omega arith)))
      ∙ ap (λ (rs : List (Option (List Value))). read_of dir token n place info ∷ rs)
      (same_reads n kept visible (suc place) infos (λ i more is k sum. at (suc i) more is k (omega (arith, sum))))

  same_seen : (n : ℕ) → out n ≡ false → is_visible dir token n ≡ true → seen_of other token n ≡ seen_of dir token n
  same_seen n kept visible =
      let it = alike.each n kept in
      seen_is other token n
      ∙ ap (λ (name : List Rdn). seen_by name (reads_from other token n 0 (attrs_of other.schema))
      (parts_read other token n) (changing_of other token n)) (same_name dir other token out alike n kept)
      ∙ ap (λ (s : List SchemaRecord). seen_by (rdns_of dir n) (reads_from other token n 0 (attrs_of s))
      (parts_read other token n) (changing_of other token n)) alike.frame.schema
      ∙ ap (λ (vs : List (Option (List Value))). seen_by (rdns_of dir n) vs (parts_read other token n)
      (changing_of other token n))
      (same_reads n kept visible 0 (attrs_of dir.schema)
      (λ i info is k sum. subst (λ (p : ℕ). slice_get (attrs_of dir.schema) p ≡ Some info)
      (let e : i ≡ k = omega (arith, sum) in e) is))
      ∙ ap (λ (parts : SdParts). seen_by (rdns_of dir n) (reads_from dir token n 0 (attrs_of dir.schema)) parts
      (changing_of other token n)) (it.parts visible)
      ∙ ap (seen_by (rdns_of dir n) (reads_from dir token n 0 (attrs_of dir.schema)) (parts_read dir token n))
      (sym (changing_same dir other token n n alike.frame.schema (sym it.class) (λ path bit. sym (it.rights path bit))))
      ∙ sym (seen_is dir token n)

  -- of numbers that aren't left out
  pub same_among : (ns : List ℕ) → AllByRecursion (λ (n : ℕ). out n ≡ false) ns → seen_among other token ns
      ≡ seen_among dir token ns
  unfolding seen_among
  same_among [] all = refl
  same_among (n ∷ ns) all =
      ap (λ (b : Bool). map (seen_of other token)
      (cond b (n ∷ filter (is_visible other token) ns) (filter (is_visible other token) ns)))
      (same_visible dir other token out alike n all.0)
      ∙ by_bool (same_among ns all.1) (is_visible dir token n) refl
    where
      by_bool : seen_among other token ns ≡ seen_among dir token ns → (b : Bool) → is_visible dir token n ≡ b
          → map (seen_of other token) (cond b (n ∷ filter (is_visible other token) ns)
          (filter (is_visible other token) ns))
          ≡ map (seen_of dir token) (cond b (n ∷ filter (is_visible dir token) ns) (filter (is_visible dir token) ns))
      by_bool others true visible =
          ap (λ (s : Seen). s ∷ map (seen_of other token) (filter (is_visible other token) ns))
          (same_seen n all.0 visible)
          ∙ ap (λ (ss : List Seen). seen_of dir token n ∷ ss) others
      by_bool others false hidden = others
