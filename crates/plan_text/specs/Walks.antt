-- Which walk some names tell: names differ, and so do the ends of links (this project).
use Rattle.std.specs.Prelude.{◌≡◌, ℕ, ◌<◌, List, [], ◌∷◌, length, slice_index}
use Rattle.platform_file.specs.Ticks.{TimedView}
use Rattle.schedule_model.specs.declared.schedule.Series.{Series}
use Rattle.schedule_model.specs.declared.schedule.Series.TheVariants.{Tasking, Scatter}
use Rattle.schedule_model.specs.Operations.{sender_of, receiver_of}
use Rattle.plan_text.specs.Texts.{name_of}

-- the node exists and has the name
pub record IsNamed (t : TimedView) (name : List ℕ) (node : ℕ) : Type 0 where
  pub exists : node < length t.platform.nodes
  pub named : name_of t node ≡ name

-- the link leads from a node to one with the name
pub record IsHop (t : TimedView) (at : ℕ) (name : List ℕ) (link : ℕ) : Type 0 where
  pub exists : link < length t.platform.links
  pub leaves : sender_of t link ≡ at
  pub enters : name_of t (receiver_of t link) ≡ name

-- these links lead from a node over the nodes with these names to an end
abbrev pub IsNamedWalk : TimedView → ℕ → List (List ℕ) → List ℕ → ℕ → Type 0
IsNamedWalk t at [] [] end = end ≡ at
IsNamedWalk t at [] (link ∷ links) end = ⊥
IsNamedWalk t at (name ∷ names) [] end = ⊥
IsNamedWalk t at (name ∷ names) (link ∷ links) end = IsHop t at name link × IsNamedWalk t (receiver_of t link) names links end

-- the kind of the routes that end at a node; one and the same for tasks
abbrev pub IsKind : TimedView → Series → ℕ → ℕ → Type 0
IsKind t Tasking end kind = kind ≡ 0
IsKind t Scatter end kind = (kind < length t.platform.targets) × (end ≡ slice_index t.platform.targets kind)
