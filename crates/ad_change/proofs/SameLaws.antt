-- When two objects are the same but for their descriptors, and when one stands in a directory as it is put.
use Rattle.std.proofs.Common.{◌≡◌, ◌↔◌, ℕ, ◌+◌, ◌<◌, ◌≤◌, Bool, true, false, not, IsTrue, List, ◌∷◌, length, map}
use Rattle.std.proofs.Common.{get_or, drop, sym, ap, ◌∙◌, arith}
use Rattle.std.proofs.lemmas.Bool.{not-false, false≢true}
use Rattle.std.proofs.lemmas.List.{length-map, get_or-map, at_drop_more, drop_all}
use Rattle.ad_sd.specs.declared.parts.Sd.{Sd}
use Rattle.ad_dir_objects.specs.declared.object.Object.{Object as ObjectIn}
use Rattle.ad_dir_objects.specs.Seen.{object_seen}
use Rattle.ad_dir_model.specs.Object.{Object}
use Rattle.ad_dir_model.specs.Objects.{object_at, sd_at}
use Rattle.ad_dir_model.specs.Directory.{Directory}
use Rattle.ad_dir_model.specs.SameSd.{same_sd}
use Rattle.ad_dir_model.proofs.SameSdLaws.{same_sd-is, same_sd-refl}

-- ---- lists that are seen as one

pub same_lengths : {X Y : Type 0} (f : X → Y) (a b : List X) → map f a ≡ map f b → length a ≡ length b
same_lengths f a b same = sym (length-map a f) ∙ ap length same ∙ length-map b f

pub same_at : {X Y : Type 0} (f : X → Y) (i : ℕ) (a b : List X) (x y : X) → map f a ≡ map f b → i < length a → x
    ≡ get_or a i x → y ≡ get_or b i y → f x ≡ f y
same_at f i a b x y same less here there =
    let long : length a ≡ length b = same_lengths f a b same in
    let less_too : i < length b = omega (arith, less, long) in
    ap f here ∙ sym (get_or-map f a i x (f y) less) ∙ ap (λ (ys : List _). get_or ys i (f y)) same
    ∙ get_or-map f b i y (f y) less_too ∙ ap f (sym there)

-- where these are one and those after them, all from here on are
pub same_more : {X Y : Type 0} (f : X → Y) (i : ℕ) (a b : List X) (x y : X) → i < length a → length a ≡ length b → x
    ≡ get_or a i x → y ≡ get_or b i y
    → f x ≡ f y → map f (drop (i + 1) a) ≡ map f (drop (i + 1) b) → map f (drop i a) ≡ map f (drop i b)
same_more f i a b x y less long here there same rest =
    let less_too : i < length b = omega (arith, less, long) in
    at_drop_more (map f) a i x less
    ∙ ap (λ (z : _). f z ∷ map f (drop (i + 1) a)) (sym here)
    ∙ ap (λ (z : _). z ∷ map f (drop (i + 1) a)) same
    ∙ ap (λ (zs : List _). f y ∷ zs) rest
    ∙ ap (λ (z : _). f z ∷ map f (drop (i + 1) b)) there
    ∙ sym (at_drop_more (map f) b i y less_too)

pub same_behind : {X Y : Type 0} (f : X → Y) (i : ℕ) (a b : List X) → length a ≤ i → length a ≡ length b
    → map f (drop i a) ≡ map f (drop i b)
same_behind f i a b past long =
    let past_too : length b ≤ i = omega (arith, past, long) in
    ap (map f) (drop_all i a past ∙ sym (drop_all i b past_too))

-- ---- what stands there

-- what is put with another descriptor doesn't
pub other_there : (dir : Directory) (object : ObjectIn) (sd : Sd) (n : ℕ) (another : Bool) → another
    ≡ not (same_sd (sd_at dir.objects n) sd) → another ≡ true
    → object_seen object sd ≡ object_at dir.objects n → ⊥
other_there dir object sd n another differs is same =
    let own : sd ≡ sd_at dir.objects n = ap (λ (o : Object). o.sd) same in
    let alike : same_sd (sd_at dir.objects n) sd ≡ true = ap (λ (s : Sd). same_sd s sd) (sym own) ∙ same_sd-refl sd in
    false≢true (sym (differs ∙ ap not alike) ∙ is)

-- with the same one it does exactly where the rest is the same
pub same_there : (dir : Directory) (there object : ObjectIn) (sd : Sd) (n : ℕ) (another same : Bool)
    → object_seen there (sd_at dir.objects n) ≡ object_at dir.objects n → another
    ≡ not (same_sd (sd_at dir.objects n) sd) → another ≡ false
    → (IsTrue same ↔ (object_seen there sd ≡ object_seen object sd)) → IsTrue same
    ↔ (object_seen object sd ≡ object_at dir.objects n)
same_there dir there object sd n another same live differs is alike = (
  λ t. sym (alike.0 t) ∙ ap (object_seen there) (sym own) ∙ live,
  λ e. alike.1 (ap (object_seen there) (sym own) ∙ live ∙ sym e),
)
  where
    own : sd_at dir.objects n ≡ sd
    own = same_sd-is (sd_at dir.objects n) sd (not-false (same_sd (sd_at dir.objects n) sd) (sym differs ∙ is))
