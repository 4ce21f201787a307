-- Which group policies count for an account: those that the containers above it link, by gPLink ([MS-GPOL] 2.2.2).
use Rattle.std.specs.Prelude.{ℕ, zero, suc, Bool, false, not, ◌==◌, ◌&&◌, ◌||◌, if◌then◌else◌, Option, Some, None}
use Rattle.std.specs.Prelude.{List, [], ◌∷◌, ◌++◌, codes, filter_map, length, take, drop, pos}
use Rattle.std.specs.Option.{option_map, option_map_or, option_and_then}
use Rattle.std.specs.Int.{bit_at}
use Rattle.std.specs.Str.{bytes_eq, str_eq_ignore_ascii_case}
use Rattle.ad_dn.specs.Reading.{dn_of}
use Rattle.ad_value.specs.declared.value.Key.{Key}
use Rattle.ad_value.specs.declared.value.Key.TheVariants as key
use Rattle.ad_dir_model.specs.Limits.{max_depth}
use Rattle.ad_dir_model.specs.Objects.{object_at, parent_at}
use Rattle.ad_dir_model.specs.Tree.{root}
use Rattle.ad_dir_model.specs.Attributes.{attr_place}
use Rattle.ad_dir_model.specs.Identity.{first_of_attr}
use Rattle.ad_dir_model.specs.Names.{found}
use Rattle.ad_dir_model.specs.Directory.{Directory}

-- ---- the containers above

-- the objects above one, the nearest first, so many at most
unfoldable pub above_within : Directory → ℕ → ℕ → List ℕ
above_within dir zero number = []
above_within dir (suc levels) number = if number == root then [] else
    (parent_at dir.objects number ∷ above_within dir levels (parent_at dir.objects number))

unfoldable pub above : Directory → ℕ → List ℕ
above dir number = above_within dir max_depth number

-- ---- what a container links

-- one link: a name, and two marks
pub record PolicyLink : Type 0 where
  pub name : List ℕ
  pub disabled : Bool
  pub enforced : Bool

-- what stands before the first byte of this kind, and what after it; none where there is no such byte
unfoldable pub cut : ℕ → List ℕ → Option (List ℕ × List ℕ)
cut byte [] = None
cut byte (b ∷ bytes) = if b == byte then Some ([], bytes)
    else option_map (λ (parts : List ℕ × List ℕ). (b ∷ parts.0, parts.1)) (cut byte bytes)

-- what stands after `LDAP://`, in whatever case
abbrev pub scheme : List ℕ
scheme = codes "LDAP://"

unfoldable pub after_scheme : List ℕ → Option (List ℕ)
after_scheme text =
    if str_eq_ignore_ascii_case (take (length scheme) text) scheme then Some (drop (length scheme) text) else None

-- the marks that a digit says: 1 disabled, 2 enforced, 3 both; any other text is taken as none
unfoldable pub with_marks : List ℕ → List ℕ → PolicyLink
with_marks name marks = record {
  name = name;
  disabled = bytes_eq marks (codes "1") || bytes_eq marks (codes "3");
  enforced = bytes_eq marks (codes "2") || bytes_eq marks (codes "3");
}

-- what stands in one pair of brackets: the scheme, a name, a semicolon and the marks
unfoldable pub link_in : List ℕ → Option PolicyLink
link_in text = option_and_then (λ (parts : List ℕ × List ℕ).
    option_map (λ (name : List ℕ). with_marks name parts.1) (after_scheme parts.0)) (cut 59 text)

-- the link in the first pair of brackets, and what stands after them
unfoldable pub next_link : List ℕ → Option (PolicyLink × List ℕ)
next_link text = option_and_then (λ (begun : List ℕ × List ℕ).
    option_and_then (λ (parts : List ℕ × List ℕ).
    option_map (λ (link : PolicyLink). (link, parts.1)) (link_in parts.0)) (cut 93 begun.1)) (cut 91 text)

-- the links of a text, one pair of brackets after the other; what isn't of this form ends them. So many at most
unfoldable pub links_within : ℕ → List ℕ → List PolicyLink
links_within zero text = []
links_within (suc left) text =
    option_map_or (λ (step : PolicyLink × List ℕ). step.0 ∷ links_within left step.1) (next_link text) []

unfoldable pub links_of : List ℕ → List PolicyLink
links_of text = links_within (length text) text

-- the links of a container: those of the first value of its gPLink
unfoldable pub linked_at : Directory → ℕ → List PolicyLink
linked_at dir container =
    option_map_or (λ value. links_of value.shown)
    (first_of_attr (attr_place dir.schema (codes "gPLink")) (object_at dir.objects container)) []

-- the object that a link names
abbrev pub policy : Directory → PolicyLink → Option ℕ
policy dir link = option_and_then (λ dn. found dir dn.rdns) (dn_of link.name)

-- It isn't disabled; where inheritance is blocked below its container, it is enforced.
abbrev pub is_in_force : Bool → PolicyLink → Bool
is_in_force blocked link = not link.disabled && (link.enforced || not blocked)

abbrev pub policy_if : Directory → Bool → PolicyLink → Option ℕ
policy_if dir blocked link = if is_in_force blocked link then policy dir link else None

-- ---- blocked inheritance

-- the container takes no policies from above: its gPOptions is odd
abbrev pub is_odd : Key → Bool
is_odd (key.Number (pos n)) = bit_at n 0 == 1
is_odd _ = false

unfoldable pub blocks : Directory → ℕ → Bool
blocks dir container =
    option_map_or (λ value. is_odd value.key)
    (first_of_attr (attr_place dir.schema (codes "gPOptions")) (object_at dir.objects container)) false

-- ---- the policies that count

-- those of these containers, the nearest first
unfoldable pub policies_over : Directory → Bool → List ℕ → List ℕ
policies_over dir blocked [] = []
policies_over dir blocked (container ∷ others) =
    filter_map (policy_if dir blocked) (linked_at dir container)
    ++ policies_over dir (blocked || blocks dir container) others

unfoldable pub policies_of : Directory → ℕ → List ℕ
policies_of dir number = policies_over dir false (above dir number)
