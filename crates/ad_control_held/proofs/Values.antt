-- What is drawn from those to whom a value grants something.
use Rattle.std.proofs.Common.{◌≡◌, ◌∙◌, ℕ, ◌<◌, Bool, false, Option, Some, None, List, [], ◌∷◌, length, map}
use Rattle.std.proofs.Common.{get_or, zero, suc, sym, ap, subst, lit<, arith}
use Rattle.std.specs.Prelude.{IfSome}
use Rattle.std.specs.List.{AllByRecursion}
use Rattle.std.specs.Option.{option_map_or}
use Rattle.ad_ids.specs.declared.token.Token.{Token}
use Rattle.ad_sd.specs.declared.parts.Sd.{Sd}
use Rattle.ad_chains.specs.Ways.{IsMember}
use Rattle.ad_dir_model.specs.Directory.{Directory}
use Rattle.ad_control_graph.specs.declared.kind.Kind.{Kind}
use Rattle.ad_control_graph.specs.declared.kind.Kind.TheVariants as kind
use Rattle.ad_control_graph.specs.declared.graph.Graph.{Graph}
use Rattle.ad_control_graph.specs.declared.texts.Held.{Held as HeldText}
use Rattle.ad_control_graph.specs.Kinds.{Held, row}
use Rattle.ad_control_graph.specs.Texts.{held_seen}
use Rattle.ad_control_graph.specs.Drawing.{IsSteady, Adds, Readies, IsSetOf, IsBy}
use Rattle.ad_control_graph.proofs.SetLaws.{set_by}
use Rattle.ad_control_graph.proofs.AddLaws.{after_sets, drawn_from}
use Rattle.ad_control_graph.proofs.ByLaws.{adds_same, adds_unmet}
use Rattle.ad_control.specs.Edges.{held_sd, holds, sd_grants}

-- an arc from a set of tokens, which was put just before
pub from_flags : (old mid new : Graph) (kind : Kind) (set to : ℕ) (tokens : List Token) (at at' : List ℕ)
    (test : Token → Bool) (flags : List Bool) → IsSteady old → at' ≡ at → flags ≡ map test tokens → Readies old mid
    → IsSetOf mid set (IsBy flags at' (λ there. there)) → Adds mid new kind to (λ x. IsMember mid.sets.items set x)
    → Adds old new kind to (IsBy tokens at test)
from_flags old mid new kind set to tokens at at' test flags steady same are ready is adds =
    let here : IsSetOf mid set (IsBy (map test tokens) at (λ there. there))
    = subst (λ (l : List Bool). IsSetOf mid set (IsBy l at (λ there. there))) are
    (subst (λ (l : List ℕ). IsSetOf mid set (IsBy flags l (λ there. there))) same is) in
    after_sets old mid new kind to (IsBy tokens at test) steady ready
    (drawn_from mid new kind set to (IsBy tokens at test) (set_by mid set tokens at test here) adds)

-- ---- the value of an object

pub by_value : (dir : Directory) (old new : Graph) (kind : Kind) (number to : ℕ) (tokens : List Token) (at : List ℕ)
    (held : Held) (sd seen : Sd) → Some sd ≡ held_sd dir number held.attr → seen ≡ sd
    → Adds old new kind to (IsBy tokens at (λ (t : Token). sd_grants dir number t held.bit seen))
    → Adds old new kind to (IsBy tokens at (λ (t : Token). holds dir t number held))
unfolding holds
by_value dir old new kind number to tokens at held sd seen is same adds =
    adds_same old new kind to tokens at (λ (t : Token). sd_grants dir number t held.bit seen)
    (λ (t : Token). option_map_or (sd_grants dir number t held.bit) (held_sd dir number held.attr) false)
    (λ t. ap (sd_grants dir number t held.bit) same
    ∙ ap (λ (o : Option Sd). option_map_or (sd_grants dir number t held.bit) o false) is) adds

pub by_none : (dir : Directory) (graph : Graph) (kind : Kind) (number to : ℕ) (tokens : List Token) (at : List ℕ)
    (held : Held) → None ≡ held_sd dir number held.attr
    → Adds graph graph kind to (IsBy tokens at (λ (t : Token). holds dir t number held))
unfolding holds
by_none dir graph kind number to tokens at held is =
    adds_unmet graph kind to tokens at
    (λ (t : Token). option_map_or (sd_grants dir number t held.bit) (held_sd dir number held.attr) false)
    (λ t. ap (λ (o : Option Sd). option_map_or (sd_grants dir number t held.bit) o false) (sym is))

-- ---- the table

abbrev pub IsFew : Held → Type 0
IsFew held = IfSome held.bit (λ b. b < 32)

few_in : (kind : Kind) → AllByRecursion IsFew (row kind).held
unfolding row
few_in kind.Descriptor = tt
few_in kind.Reset = tt
few_in kind.Join = tt
few_in kind.Key = tt
few_in kind.Act = (tt, tt)
few_in kind.Secret = (lit< tt, tt)
few_in kind.Replicate = tt
few_in kind.All = tt
few_in kind.Child = tt
few_in kind.Protect = tt
few_in kind.Link = tt
few_in kind.Member = tt

few_at : (texts : List HeldText) (i : ℕ) (d : HeldText) → AllByRecursion IsFew (map held_seen texts) → i < length texts
    → IsFew (held_seen (get_or texts i d))
few_at [] i d few lt = absurd (omega (arith, lt))
few_at (t ∷ texts) zero d few lt = few.0
few_at (t ∷ texts) (suc i) d few lt = few_at texts i d few.1 (omega (arith, lt))

-- the rights that the table names have places in a mask
pub few : (kind : Kind) (texts : List HeldText) (i : ℕ) (d : HeldText) → map held_seen texts ≡ (row kind).held
    → i < length texts → IsFew (held_seen (get_or texts i d))
few kind texts i d are lt = few_at texts i d (subst (AllByRecursion IsFew) (sym are) (few_in kind)) lt
