-- Which successors are taken: after one more is taken, after the count is set back to 0, and where none is left.
use Rattle.std.proofs.Common.{ℕ, suc, ◌≡◌, subst, sym, List, [], ◌∷◌, ◌⊎◌, inl, inr, ◌≢◌, take, drop}
use Rattle.graphs.specs.Lists.{upd, Mem}
use Rattle.graphs.specs.Graph.{Graph, Edge, Sound}
use Rattle.graphs.proofs.Tests.{same?}
use Rattle.graphs.proofs.Change.{upd_same, upd_other}
use Rattle.graphs.proofs.Member.{take_one, drop_mem, all_taken}
use Rattle.moves.specs.Machine.{Worker}
use Rattle.moves.specs.Changes.{takes}
use Rattle.theory.specs.Invariant.{Taken}

module _ (g : Graph) (p : ℕ) (w : Worker) where
  pub took_one : (s x : ℕ) (k : List ℕ) → drop (w.taken s) (g.order p s) ≡ x ∷ k
      → (t y : ℕ) → Taken g p (takes w s) t y → Taken g p w t y ⊎ ((t ≡ s) × (y ≡ x))
  took_one s x k e t y h = go (same? t s)
    where
      at_s : t ≡ s → Taken g p w s y ⊎ (y ≡ x) → Taken g p w t y ⊎ ((t ≡ s) × (y ≡ x))
      at_s q (inl m) = inl (subst (λ r. Taken g p w r y) (sym q) m)
      at_s q (inr f) = inr (q, f)

      go : (t ≡ s) ⊎ (t ≢ s) → Taken g p w t y ⊎ ((t ≡ s) × (y ≡ x))
      go (inl q) =
          let m = rw (upd_same w.taken s (suc (w.taken s))) at (subst (λ r. Taken g p (takes w s) r y) q h) in
          at_s q (take_one (w.taken s) (g.order p s) x k e y m)
      go (inr ne) = inl (rw (upd_other w.taken s (suc (w.taken s)) t ne) at h)

  -- the count of s set back to 0
  pub set_back : (s t y : ℕ) → Mem y (take (upd w.taken s 0 t) (g.order p t)) → Taken g p w t y
  set_back s t y h = go (same? t s)
    where
      go : (t ≡ s) ⊎ (t ≢ s) → Taken g p w t y
      go (inl q) = absurd (rw (q, upd_same w.taken s 0) at h)
      go (inr ne) = rw (upd_other w.taken s 0 t ne) at h

  pub none_taken : (t y : ℕ) → w.taken t ≡ 0 → Taken g p w t y → ⊥
  none_taken t y e h = rw e at h

  -- no successor is left, so all are taken
  pub all_of : Sound g → (s : ℕ) → drop (w.taken s) (g.order p s) ≡ [] → (x : ℕ) → Edge g s x → Taken g p w s x
  all_of sound s e x h = rw (all_taken (w.taken s) (g.order p s) e) (sound.shown p s x h)

  pub next_edge : Sound g → (s x : ℕ) (k : List ℕ) → drop (w.taken s) (g.order p s) ≡ x ∷ k → Edge g s x
  next_edge sound s x k e = sound.seen p s x (drop_mem (w.taken s) (g.order p s) x k e)
