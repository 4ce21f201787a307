-- An object may be put in the place of one with its parent, its name and its identifier.
use Rattle.std.proofs.Common.{◌≡◌, ℕ, zero, suc, ◌-◌, ◌^◌, ◌<◌, ◌≤◌, true, List, Some, inl, inr, refl, sym, subst, ap}
use Rattle.std.proofs.Common.{◌∙◌, arith}
use Rattle.std.specs.Prelude.{nat_eq}
use Rattle.std.proofs.lemmas.Bool.{cases_Bool, eqb-true, eqb-false}
use Rattle.ad_ids.specs.SidValue.{SidValue}
use Rattle.ad_dn.specs.Fold.{folded}
use Rattle.ad_schema.specs.declared.line.SchemaRecord.{SchemaRecord}
use Rattle.prop_queue.specs.declared.pending.Pending.{Pending}
use Rattle.ad_dir_model.specs.Object.{Object, links_in}
use Rattle.ad_dir_model.specs.Objects.{object_of, object_at, parent_at, is_live, put}
use Rattle.ad_dir_model.specs.Limits.{max_counter}
use Rattle.ad_dir_model.specs.Tree.{IsAtDepth, IsPlaced}
use Rattle.ad_dir_model.specs.Identity.{sid_in}
use Rattle.ad_dir_model.specs.Directory.{Directory, parents}
use Rattle.ad_dir_model.specs.Soundness.{IsSound, IsContent, LinksAreLive}
use Rattle.ad_dir_model.proofs.Finding.{of_number, of-live, at_number, at-of, live-of, live_above, at-put_same}
use Rattle.ad_dir_model.proofs.Finding.{at-put_other, live-put, live-put_other}
use Rattle.ad_dir_model.proofs.Placing.{all_live_more}
use Rattle.ad_dir_model.proofs.Alike.{with_those}
use Rattle.ad_dir_model.proofs.ScratchLaws.{below_at, root_at}
use Rattle.ad_dir_model.proofs.WorkLaws.{placed_at}
use Rattle.ad_dir.specs.Conditions.{MayPut}

pub record IsAlike (schema : List SchemaRecord) (o other : Object) : Type 0 where
  pub parent : o.parent ≡ other.parent
  pub name : o.name ≡ other.name
  pub sid : sid_in schema o ≡ sid_in schema other

-- the same numbers are live, and the objects of each are alike
pub record AreAlike (schema : List SchemaRecord) (os base : List Object) : Type 0 where
  pub live : (n : ℕ) → is_live os n ≡ is_live base n
  pub each : (n : ℕ) (x : Object) → object_of os n ≡ Some x → IsAlike schema x (object_at base n)

pub alike_itself : (schema : List SchemaRecord) (os : List Object) → AreAlike schema os os
alike_itself schema os = record {
  live = λ n. refl;
  each = λ n x is. let at : object_at os n ≡ x = at-of os n x is
      in rw at (record { parent = refl; name = refl; sid = refl });
}

pub alike_put : (schema : List SchemaRecord) (os base : List Object) (o : Object) → AreAlike schema os base
    → is_live base o.number ≡ true
    → IsAlike schema o (object_at base o.number) → AreAlike schema (put o os) base
alike_put schema os base o alike live is = record { live = now; each = each }
  where
    now : (n : ℕ) → is_live (put o os) n ≡ is_live base n
    now n = elim (cases_Bool (nat_eq o.number n)) [
      | inl same ↦
          let number : o.number ≡ n = eqb-true o.number n same in
          live-put o os n (alike.live n ∙ subst (λ (k : ℕ). is_live base k ≡ true) number live)
          ∙ sym (subst (λ (k : ℕ). is_live base k ≡ true) number live)
      | inr other ↦ live-put_other o os n (eqb-false o.number n other) ∙ alike.live n
    ]

    each : (n : ℕ) (x : Object) → object_of (put o os) n ≡ Some x → IsAlike schema x (object_at base n)
    each n x at = elim (cases_Bool (nat_eq o.number n)) [
      | inl same ↦
          let number : o.number ≡ n = eqb-true o.number n same in
          let itself : o ≡ x = sym (at-put_same o os) ∙ ap (object_at (put o os)) number ∙ at-of (put o os) n x at in
          subst (λ (y : Object). IsAlike schema y (object_at base n)) itself
          (subst (λ (k : ℕ). IsAlike schema o (object_at base k)) number is)
      | inr other ↦
          let apart : o.number ≡ n → ⊥ = eqb-false o.number n other in
          let live_os : is_live os n ≡ true = sym (live-put_other o os n apart) ∙ live-of (put o os) n x at in
          let there : object_at os n ≡ x = sym (at-put_other o os n apart) ∙ at-of (put o os) n x at in
          subst (λ (y : Object). IsAlike schema y (object_at base n)) there
          (alike.each n (object_at os n) (of-live os n live_os))
    ]

-- an object that is alike has the parent of the other
alike_parent : (schema : List SchemaRecord) (os base : List Object) → AreAlike schema os base → (n : ℕ)
    → is_live base n ≡ true
    → parent_at os n ≡ parent_at base n
alike_parent schema os base alike n live = (alike.each n (object_at os n) (of-live os n (alike.live n ∙ live))).parent

chained : (base : Directory) (os : List Object) → IsSound base → AreAlike base.schema os base.objects → (depth n : ℕ)
    → is_live base.objects n ≡ true
    → IsAtDepth (parents base) depth n → IsAtDepth (parent_at os) depth n
chained base os sound alike zero n live chain = chain
chained base os sound alike (suc depth) n live chain =
    let same : parent_at base.objects n ≡ parent_at os n = sym (alike_parent base.schema os base.objects alike n live)
    in
    let above : is_live base.objects (parent_at base.objects n) ≡ true
    = (below_at base sound.each n live chain.0).parent_live in (
      chain.0,
      subst (λ (p : ℕ). IsAtDepth (parent_at os) depth p) same
          (chained base os sound alike depth (parent_at base.objects n) above chain.1),
    )

pub alike_placed : (base : Directory) (os : List Object) → IsSound base → AreAlike base.schema os base.objects → (n : ℕ)
    → is_live base.objects n ≡ true → IsPlaced (parent_at os) n
alike_placed base os sound alike n live =
    let before : IsPlaced (parents base) n = placed_at base sound.each n live in
    record {
      depth = before.depth;
      within = before.within;
      chain = chained base os sound alike before.depth n live
          before.chain;
    }

small : (base : Directory) (n : ℕ) → IsSound base → is_live base.objects n ≡ true → n < 2 ^ 32 - 1
unfolding max_counter
small base n sound live =
    let above : n < base.meta.next_number = sound.frame.counters.number_above n live in
    let fits : base.meta.next_number ≤ max_counter = sound.frame.counters.number_fits in
    omega (arith, above, fits)

-- It may be put into a directory whose objects are alike to those of a sound one, in the place of one that it is
-- alike to.
pub may_put : (base : Directory) (os : List Object) (ps : List Pending) (o : Object) → IsSound base
    → AreAlike base.schema os base.objects
    → is_live base.objects o.number ≡ true
    → IsAlike base.schema o (object_at base.objects o.number) → IsContent base.schema o → LinksAreLive base.objects o
    → MayPut (with_those base os ps) o
may_put base os ps o sound alike live is content links = record {
  some = live_above 0 base.objects o.number sound.rise live;
  fits_number = small base o.number sound live;
  fits = record {
    content = content;
    links = all_live_more base.objects (put o os) (links_in o.values) (λ n l. live-put o os n (alike.live n ∙ l)) links;
    own_name = own_name;
    own_sid = own_sid;
  };
  no_parent = λ top. is.parent ∙ ap (parent_at base.objects) top ∙ (root_at base sound).no_parent;
  parent_live = λ below. alike.live o.parent
      ∙ subst (λ (p : ℕ). is_live base.objects p ≡ true) (sym is.parent)
      (below_at base sound.each o.number live below).parent_live;
  placed = λ below n l. alike_placed base (put o os) sound after n (sym (after.live n) ∙ l);
}
  where
    before : Object
    before = object_at base.objects o.number

    number : before.number ≡ o.number
    number = at_number base.objects o.number live

    after : AreAlike base.schema (put o os) base.objects
    after = alike_put base.schema os base.objects o alike live is

    at : (m : ℕ) (other : Object) → object_of os m ≡ Some other → object_of base.objects m
        ≡ Some (object_at base.objects m)
    at m other there = of-live base.objects m (sym (alike.live m) ∙ live-of os m other there)

    own_name : (m : ℕ) (other : Object) → object_of os m ≡ Some other → other.parent ≡ o.parent → folded other.name
        ≡ folded o.name → other.number ≡ o.number
    own_name m other there parent name =
        let alike_m : IsAlike base.schema other (object_at base.objects m) = alike.each m other there in
        let own = (sound.each o.number before (of-live base.objects o.number live)).own_name m
        (object_at base.objects m) (at m other there)
        (sym alike_m.parent ∙ parent ∙ is.parent) (ap folded (sym alike_m.name) ∙ name ∙ ap folded is.name) in
        of_number os m other there ∙ sym (of_number base.objects m (object_at base.objects m) (at m other there))
        ∙ own ∙ number

    own_sid : (m : ℕ) (other : Object) (sid : SidValue) → object_of os m ≡ Some other → sid_in base.schema other
        ≡ Some sid
        → sid_in base.schema o ≡ Some sid → other.number ≡ o.number
    own_sid m other sid there has own =
        let alike_m : IsAlike base.schema other (object_at base.objects m) = alike.each m other there in
        let one = (sound.each o.number before (of-live base.objects o.number live)).own_sid m
        (object_at base.objects m) sid (at m other there)
        (sym alike_m.sid ∙ has) (sym is.sid ∙ own) in
        of_number os m other there ∙ sym (of_number base.objects m (object_at base.objects m) (at m other there))
        ∙ one ∙ number
