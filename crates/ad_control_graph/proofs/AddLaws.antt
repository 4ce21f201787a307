-- Laws of what is added to a graph.
use Rattle.std.proofs.Common.{◌≡◌, ◌∙◌, ℕ, ◌⊎◌, inl, inr, Some, List, sym, ap}
use Rattle.std.specs.Prelude.{slice_get}
use Rattle.ad_chains.specs.declared.arc.Arc.{Arc}
use Rattle.ad_chains.specs.Ways.{IsMember}
use Rattle.ad_control_graph.specs.declared.kind.Kind.{Kind}
use Rattle.ad_control_graph.specs.declared.graph.Graph.{Graph}
use Rattle.ad_control_graph.specs.Drawing.{IsLed, IsSteady, Adds, Readies, IsSetOf}
use Rattle.ad_control_graph.proofs.Sets.{member_there}

-- ---- nothing

abbrev pub Nobody : ℕ → Type 0
Nobody x = ⊥

pub adds_nothing : (graph : Graph) (kind : Kind) (to : ℕ) → Adds graph graph kind to Nobody
adds_nothing graph kind to = record {
  keeps = λ x place y pass. pass;
  kinds = λ place k is. is;
  only = λ x place y pass. inl pass;
  all = λ x nobody. absurd nobody;
}

-- sets alone add nothing
pub readies_adds : (old new : Graph) (kind : Kind) (to : ℕ) → IsSteady old → Readies old new
    → Adds old new kind to Nobody
readies_adds old new kind to steady ready = record {
  keeps = λ x place y pass. (
    pass.0,
    ap (λ (l : List Arc). slice_get l place) ready.arcs ∙ pass.1,
    ready.keeps.sets pass.0.set x (member_there old.sets.items pass.0.set x pass.2) pass.2,
    pass.3,
  );
  kinds = λ place k is. ap (λ (l : List Kind). slice_get l place) ready.kinds ∙ is;
  only = λ x place y pass.
      let at : slice_get old.arcs.items place ≡ Some pass.0
      = sym (ap (λ (l : List Arc). slice_get l place) ready.arcs) ∙ pass.1 in
      let ends = steady.ends place pass.0 at in
      inl (pass.0, at, ready.keeps.only pass.0.set x ends.0 pass.2, pass.3);
  all = λ x nobody. absurd nobody;
}

-- ---- one after the other

pub led_stays : (old new : Graph) (kind : Kind) (to : ℕ) (From : ℕ → Type 0) (k : Kind) (x y : ℕ)
    → Adds old new kind to From → IsLed old k x y → IsLed new k x y
led_stays old new kind to From k x y adds led = record {
  place = led.place;
  pass = adds.keeps x led.place y led.pass;
  is_kind = adds.kinds led.place k led.is_kind;
}

pub adds_both : (a b c : Graph) (kind : Kind) (to : ℕ) (First Second : ℕ → Type 0) → Adds a b kind to First
    → Adds b c kind to Second → Adds a c kind to (λ x. First x ⊎ Second x)
adds_both a b c kind to First Second first second = record {
  keeps = λ x place y pass. second.keeps x place y (first.keeps x place y pass);
  kinds = λ place k is. second.kinds place k (first.kinds place k is);
  only = λ x place y pass. elim (second.only x place y pass) [
    | inl before ↦ elim (first.only x place y before) [
      | inl old ↦ inl old
      | inr new ↦ inr (second.kinds place kind new.0, new.1, inl new.2)
    ]
    | inr new ↦ inr (new.0, new.1, inr new.2)
  ];
  all = λ x from. elim from [
    | inl one ↦ led_stays b c kind to Second kind x to second (first.all x one)
    | inr other ↦ second.all x other
  ];
}

pub adds_alike : (a b : Graph) (kind : Kind) (to : ℕ) (From Other : ℕ → Type 0) → ((x : ℕ) → From x → Other x)
    → ((x : ℕ) → Other x → From x) → Adds a b kind to From → Adds a b kind to Other
adds_alike a b kind to From Other on back adds = record {
  keeps = adds.keeps;
  kinds = adds.kinds;
  only = λ x place y pass. elim (adds.only x place y pass) [
    | inl old ↦ inl old
    | inr new ↦ inr (new.0, new.1, on x new.2)
  ];
  all = λ x from. adds.all x (back x from);
}

-- more after sets alone, and sets alone after more
pub after_sets : (a b c : Graph) (kind : Kind) (to : ℕ) (From : ℕ → Type 0) → IsSteady a → Readies a b
    → Adds b c kind to From → Adds a c kind to From
after_sets a b c kind to From steady ready adds =
    adds_alike a c kind to (λ x. Nobody x ⊎ From x) From
    (λ x from. elim from [ inl nobody ↦ absurd nobody | inr one ↦ one ]) (λ x from. inr from)
    (adds_both a b c kind to Nobody From (readies_adds a b kind to steady ready) adds)

pub before_sets : (a b c : Graph) (kind : Kind) (to : ℕ) (From : ℕ → Type 0) → IsSteady b → Adds a b kind to From
    → Readies b c → Adds a c kind to From
before_sets a b c kind to From steady adds ready =
    adds_alike a c kind to (λ x. From x ⊎ Nobody x) From
    (λ x from. elim from [ inl one ↦ one | inr nobody ↦ absurd nobody ]) (λ x from. inl from)
    (adds_both a b c kind to From Nobody adds (readies_adds b c kind to steady ready))

-- ---- from a set

-- what is drawn from a set is drawn from what the set is of
pub drawn_from : (a b : Graph) (kind : Kind) (set to : ℕ) (From : ℕ → Type 0) → IsSetOf a set From
    → Adds a b kind to (λ x. IsMember a.sets.items set x) → Adds a b kind to From
drawn_from a b kind set to From is adds =
    adds_alike a b kind to (λ x. IsMember a.sets.items set x) From is.only is.all adds
