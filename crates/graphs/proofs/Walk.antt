-- Laws of walks: joined, made longer by a step, and staying among the states.
use Rattle.std.proofs.Common.{ℕ, ◌<◌}
use Rattle.graphs.specs.Graph.{Graph, Edge, Walk, stay, step, Far, Sound}

module _ {g : Graph} where
  pub walk_join : {s t u : ℕ} → Walk g s t → Walk g t u → Walk g s u
  walk_join stay w = w
  walk_join (step e v) w = step e (walk_join v w)

  pub walk_end : {s t u : ℕ} → Walk g s t → Edge g t u → Walk g s u
  walk_end w e = walk_join w (step e stay)

  pub far_walk : {s t : ℕ} → Far g s t → Walk g s t
  far_walk f = step f.edge f.walk

  pub far_join : {s t u : ℕ} → Far g s t → Walk g t u → Far g s u
  far_join f w = record { mid = f.mid; edge = f.edge; walk = walk_join f.walk w }

  pub walk_far : {s t u : ℕ} → Walk g s t → Far g t u → Far g s u
  walk_far stay f = f
  walk_far (step e v) f = record { mid = _; edge = e; walk = walk_join v (far_walk f) }

  pub edge_far : {s t : ℕ} → Edge g s t → Far g s t
  edge_far e = record { mid = _; edge = e; walk = stay }

pub walk_inside : {g : Graph} → Sound g → {s t : ℕ} → s < g.size → Walk g s t → t < g.size
walk_inside sound h stay = h
walk_inside sound h (step e w) = walk_inside sound (sound.bound _ _ h e) w
