-- The rows of the table, as texts that are there at run time.
use Rattle.std.specs.Prelude.{ℕ, List, map}
use Rattle.std.specs.Borrow.{Bor}
use Rattle.ad_control_graph.specs.declared.texts.Asking.{Asking}
use Rattle.ad_control_graph.specs.declared.texts.Held.{Held as HeldText}
use Rattle.ad_control_graph.specs.declared.texts.Of.{Of as OfText}
use Rattle.ad_control_graph.specs.declared.texts.Of.TheVariants as of
use Rattle.ad_control_graph.specs.declared.texts.Stand.{Stand}
use Rattle.ad_control_graph.specs.declared.texts.Stand.TheVariants as stand
use Rattle.ad_control_graph.specs.Kinds.{Of, Each, TheRoot, Groups, Having, Way, Held, From, TheRootItself}
use Rattle.ad_control_graph.specs.Kinds.{ItsParent, ItsHolder, ItsPolicies, Above, ItsMembers}

abbrev pub texts_seen : List (Bor (List ℕ)) → List (List ℕ)
texts_seen texts = map (λ (text : Bor (List ℕ)). text.now) texts

abbrev pub asking_seen : Asking → Way
asking_seen way = record { stored = texts_seen way.stored.now; asks = texts_seen way.asks.now }

abbrev pub held_seen : HeldText → Held
held_seen held = record { attr = held.attr.now; bit = held.bit }

abbrev pub of_seen : OfText → Of
of_seen of.Each = Each
of_seen of.TheRoot = TheRoot
of_seen of.Groups = Groups
of_seen (of.Having attr) = Having attr.now

abbrev pub stand_seen : Stand → From
stand_seen stand.TheRootItself = TheRootItself
stand_seen stand.ItsParent = ItsParent
stand_seen stand.ItsHolder = ItsHolder
stand_seen stand.ItsPolicies = ItsPolicies
stand_seen (stand.Above question) = Above question.now
stand_seen stand.ItsMembers = ItsMembers
