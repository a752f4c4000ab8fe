-- What each change of a worker's stacks keeps of `Stacks`, for any search: the first state, a state pushed, a successor taken, the top popped,
-- and a change of the inner stack only.
use Rattle.std.proofs.Common.{ℕ, suc, ◌≡◌, refl, subst, sym, ◌∙◌, Bool, true, false, List, [], ◌∷◌, ◌⊎◌, inl, inr, ◌≢◌}
use Rattle.graphs.specs.Lists.{upd, Mem, Once}
use Rattle.graphs.specs.Graph.{Graph, Edge}
use Rattle.graphs.proofs.Tests.{clash, same?}
use Rattle.graphs.proofs.Member.{mem_top, mem_under, mem_rest, mem_nil}
use Rattle.graphs.proofs.Change.{upd_same, upd_other, upd_cases, upd_up}
use Rattle.theory.specs.Stacks.{Stacked, Stacks}

module _ {g : Graph} {c : ℕ → Bool} {o i : List ℕ} {k : ℕ → ℕ} where
  -- only the inner stack and the counts change
  pub stacks_inner : Stacks g c o i k → (i' : List ℕ) (k' : ℕ → ℕ) → ((x : ℕ) → (Mem x o → ⊥) → (Mem x i' → ⊥) → k' x ≡ 0)
      → Stacks g c o i' k'
  stacks_inner st i' k' h = record { on = st.on; is = st.is; once = st.once; trail = st.trail; free = h }

  pub stacks_start : Stacks g c o i k → o ≡ [] → Stacks g (upd c 0 true) (0 ∷ []) i k
  stacks_start st e =
      record {
        on = λ x h. first x (upd_cases c 0 x h);
        is = λ x m. begun x m;
        once = (λ m. m, tt);
        trail = refl;
        free = λ x a b. st.free x (mem_nil x e) b;
      }
    where
      first : (x : ℕ) → (x ≡ 0) ⊎ (c x ≡ true) → Mem x (0 ∷ [])
      first x (inl q) = inl q
      first x (inr h) = absurd (mem_nil x e (st.on x h))

      begun : (x : ℕ) → Mem x (0 ∷ []) → upd c 0 true x ≡ true
      begun x (inl q) = rw q (upd_same c 0 true)
      begun x (inr m) = absurd m

  pub stacks_take : Stacks g c o i k → (s : ℕ) → Mem s o ⊎ Mem s i → Stacks g c o i (upd k s (suc (k s)))
  stacks_take st s h =
      stacks_inner st i (upd k s (suc (k s))) (λ x a b. upd_other k s (suc (k s)) x (apart x a b h) ∙ st.free x a b)
    where
      apart : (x : ℕ) → (Mem x o → ⊥) → (Mem x i → ⊥) → Mem s o ⊎ Mem s i → x ≢ s
      apart x a b (inl m) q = a (subst (λ y. Mem y o) (sym q) m)
      apart x a b (inr m) q = b (subst (λ y. Mem y i) (sym q) m)

  pub stacks_push : Stacks g c o i k → (s x : ℕ) (u : List ℕ) → o ≡ s ∷ u → Edge g s x → c x ≡ false
      → Stacks g (upd c x true) (x ∷ o) i (upd k s (suc (k s)))
  stacks_push st s x u e edge off =
      record {
        on = λ y h. pushed y (upd_cases c x y h);
        is = λ y m. shown y m;
        once = (λ m. clash (st.is x m) off, st.once);
        trail = path;
        free = λ y a b. (stacks_take st s (inl (mem_top e))).free y (λ m. a (inr m)) b;
      }
    where
      pushed : (y : ℕ) → (y ≡ x) ⊎ (c y ≡ true) → Mem y (x ∷ o)
      pushed y (inl q) = inl q
      pushed y (inr h) = inr (st.on y h)

      shown : (y : ℕ) → Mem y (x ∷ o) → upd c x true y ≡ true
      shown y (inl q) = rw q (upd_same c x true)
      shown y (inr m) = upd_up c x y (st.is y m)

      path : Stacked g 0 (x ∷ o)
      path = rw e (edge, subst (Stacked g 0) e st.trail)

  pub stacks_pop : Stacks g c o i k → (s : ℕ) (u : List ℕ) → o ≡ s ∷ u → Stacks g (upd c s false) u i (upd k s 0)
  stacks_pop st s u e =
      record {
        on = λ x h. popped x (same? x s) h;
        is = λ x m. upd_other c s false x (other x m) ∙ st.is x (mem_under x e m);
        once = (subst Once e st.once).1;
        trail = below u (subst (Stacked g 0) e st.trail);
        free = λ x a b. freed x a b (same? x s);
      }
    where
      other : (x : ℕ) → Mem x u → x ≢ s
      other x m q = (subst Once e st.once).0 (subst (λ y. Mem y u) q m)

      popped : (x : ℕ) → (x ≡ s) ⊎ (x ≢ s) → upd c s false x ≡ true → Mem x u
      popped x (inl q) h = absurd (clash h (rw q (upd_same c s false)))
      popped x (inr ne) h = mem_rest x e ne (st.on x (sym (upd_other c s false x ne) ∙ h))

      below : (v : List ℕ) → Stacked g 0 (s ∷ v) → Stacked g 0 v
      below [] t = tt
      below (y ∷ v) t = t.1

      freed : (x : ℕ) → (Mem x u → ⊥) → (Mem x i → ⊥) → (x ≡ s) ⊎ (x ≢ s) → upd k s 0 x ≡ 0
      freed x a b (inl q) = rw q (upd_same k s 0)
      freed x a b (inr ne) = upd_other k s 0 x ne ∙ st.free x (λ m. a (mem_rest x e ne m)) b
