-- A pending list with one entry more.
use Rattle.std.proofs.Common.{◌≡◌, ◌∙◌, ◌⊎◌, ℕ, zero, suc, ◌+◌, ◌<◌, ◌≤◌, Bool, true, false, ◌==◌, ◌||◌, List, []}
use Rattle.std.proofs.Common.{◌∷◌, ◌++◌, take, drop, length, get_or, refl, sym, ap, subst, arith}
use Rattle.std.proofs.lemmas.List.{take_more, take_all}
use Rattle.std.proofs.lemmas.Bool.{ne_eqb, eqb-false}
use Rattle.prop_queue.specs.declared.pending.Pending.{Pending}
use Rattle.prop_queue.specs.Pending.{is_pending, AreDistinct}
use Rattle.ad_dir_model.specs.Object.{Object}
use Rattle.ad_dir_model.specs.Objects.{is_live}
use Rattle.ad_schema.specs.declared.line.SchemaRecord.{SchemaRecord}
use Rattle.ad_dir_model.specs.Directory.{Meta}
use Rattle.ad_dir_model.specs.Opening.{IsFirstBadPending}
use Rattle.ad_rows_sound.specs.Parts.{ArePending, dir_of}
use Rattle.ad_rows_sound.proofs.Growing.{all_push}

neither : (a b : Bool) → (a || b) ≡ false → (a ≡ false) × (b ≡ false)
neither false b e = (refl, e)
neither true b e = absurd cc

absent_push : (parent : ℕ) (xs : List Pending) (x : Pending) → is_pending parent xs ≡ false → (x.parent == parent)
    ≡ false → is_pending parent (xs ++ x ∷ []) ≡ false
absent_push parent [] x none other = ap (λ (b : Bool). b || false) other
absent_push parent (y ∷ ys) x none other =
    let parts = neither (y.parent == parent) (is_pending parent ys) none in
    ap (λ (b : Bool). b || is_pending parent (ys ++ x ∷ [])) parts.0 ∙ absent_push parent ys x parts.1 other

turned : (a b : ℕ) → (a == b) ≡ false → (b == a) ≡ false
turned a b e = ne_eqb b a (λ same. eqb-false a b e (sym same))

distinct_push : (xs : List Pending) (x : Pending) → AreDistinct xs → is_pending x.parent xs ≡ false
    → AreDistinct (xs ++ x ∷ [])
distinct_push [] x distinct none = (refl, tt)
distinct_push (y ∷ ys) x distinct none =
    let parts = neither (y.parent == x.parent) (is_pending x.parent ys) none in
    (absent_push y.parent ys x distinct.0 (turned y.parent x.parent parts.0), distinct_push ys x distinct.1 parts.1)

pub pending_more : (objects : List Object) (xs : List Pending) (i : ℕ) (x : Pending) → i < length xs → x
    ≡ get_or xs i x → is_live objects x.parent ≡ true → is_pending x.parent (take i xs) ≡ false
    → ArePending objects (take i xs) → ArePending objects (take (i + 1) xs)
pending_more objects xs i x less is live none so_far =
    subst (ArePending objects) (ap (λ (y : Pending). take i xs ++ y ∷ []) is ∙ sym (take_more xs i x less))
    (record {
      live = all_push (λ (entry : Pending). is_live objects entry.parent ≡ true) (take i xs) x so_far.live
          live;
      distinct = distinct_push (take i xs) x so_far.distinct none;
    })

pub pending_done : (objects : List Object) (xs : List Pending) (i : ℕ) → length xs ≤ i
    → ArePending objects (take i xs) → ArePending objects xs
pending_done objects xs i past so_far = subst (ArePending objects) (take_all i xs past) so_far

pub pending_at : (objects : List Object) (xs : List Pending) (i : ℕ) (d : Pending) → i < length xs
    → is_live objects (get_or xs i d).parent ≡ true → is_pending (get_or xs i d).parent (take i xs) ≡ false
    → ArePending objects (take i xs) → ArePending objects (take (i + 1) xs)
pending_at objects xs i d less live none so_far =
    subst (ArePending objects) (sym (take_more xs i d less))
    (record {
      live = all_push (λ (entry : Pending). is_live objects entry.parent ≡ true) (take i xs) (get_or xs i d)
          so_far.live live;
      distinct = distinct_push (take i xs) (get_or xs i d) so_far.distinct none;
    })

parts_at : (xs : List Pending) (i : ℕ) (d : Pending) → i < length xs → xs ≡ take i xs ++ get_or xs i d ∷ drop (i + 1) xs
parts_at [] i d less = absurd (omega (arith, less))
parts_at (x ∷ xs) zero d less = refl
parts_at (x ∷ xs) (suc i) d less =
    let more : suc (i + 1) ≡ suc i + 1 = omega arith in
    ap (λ (l : List Pending). x ∷ l) (parts_at xs i d (omega (arith, less)))
    ∙ ap (λ (n : ℕ). x ∷ (take i xs ++ get_or xs i d ∷ drop n (x ∷ xs))) more

-- the entry at a place, where those before it are live and distinct
pub bad_at : (schema : List SchemaRecord) (objects : List Object) (xs : List Pending) (meta : Meta) (i : ℕ)
    (d : Pending) → i < length xs
    → (is_live objects (get_or xs i d).parent ≡ false) ⊎ (is_pending (get_or xs i d).parent (take i xs) ≡ true)
    → ArePending objects (take i xs) → IsFirstBadPending (dir_of schema objects xs meta) (get_or xs i d).parent
bad_at schema objects xs meta i d less bad so_far = record {
  before = take i xs;
  entry = get_or xs i d;
  behind = drop (i + 1) xs;
  parts = parts_at xs i d less;
  parent = refl;
  before_live = so_far.live;
  before_distinct = so_far.distinct;
  bad = bad;
}
