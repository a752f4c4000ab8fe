-- Laws of `tab`, the values of a function as a list: their number, the value at a place, one more value, one store for one change, that equal
-- lists come from equal functions and give them, and whether every or some value passes a test.
use Rattle.std.proofs.Common.{ℕ, zero, suc, ◌+◌, ◌<◌, ◌≡◌, refl, sym, ap, ◌∙◌, Bool, true, false, List, [], ◌∷◌, ◌++◌, ◌≢◌, length, get_or, set, length-set}
use Rattle.std.proofs.Common.{ext_get_or, get_or-set_same, get_or-set_other, add-zero, zero-add, arith}
use Rattle.graphs.specs.Lists.{tab, upd, all, any}
use Rattle.graphs.proofs.Tests.{or_inl, or_inr}
use Rattle.graphs.proofs.Change.{upd_ind}

module _ {ℓ} {A : Type ℓ} where
  pub tab_long : (i n : ℕ) (f : ℕ → A) → length (tab i n f) ≡ n
  unfolding tab
  tab_long i zero f = refl
  tab_long i (suc n) f = ap suc (tab_long (suc i) n f)

  pub tab_at : (i n : ℕ) (f : ℕ → A) (j : ℕ) (d : A) → j < n → get_or (tab i n f) j d ≡ f (i + j)
  unfolding tab
  tab_at i zero f j d h = absurd (omega arith)
  tab_at i (suc n) f zero d h = rw (add-zero i)
  tab_at i (suc n) f (suc j) d h = tab_at (suc i) n f j d (omega arith) ∙ ap f (omega arith)

  -- one value more, at the end
  pub tab_more : (i n : ℕ) (f : ℕ → A) → tab i (suc n) f ≡ tab i n f ++ (f (i + n) ∷ [])
  unfolding tab
  tab_more i zero f = rw (add-zero i)
  tab_more i (suc n) f = ap (λ l. f i ∷ l) (tab_more (suc i) n f ∙ ap (λ k. tab (suc i) n f ++ (f k ∷ [])) (omega arith))

  ext_from : (i n : ℕ) (f h : ℕ → A) → ((s : ℕ) → s < n → f (i + s) ≡ h (i + s)) → tab i n f ≡ tab i n h
  unfolding tab
  ext_from i zero f h e = refl
  ext_from i (suc n) f h e =
      let here : f i ≡ h i = rw (add-zero i) at (e 0 (omega arith)) in
      let rest = ext_from (suc i) n f h (λ s k. let q : suc i + s ≡ i + suc s = omega arith in rw q (e (suc s) (omega arith))) in
      cc

  all_from : (i n : ℕ) (g : A → Bool) (h : ℕ → A) → ((s : ℕ) → s < n → g (h (i + s)) ≡ true) → all g (tab i n h) ≡ true
  unfolding tab all
  all_from i zero g h e = refl
  all_from i (suc n) g h e =
      let here : g (h i) ≡ true = rw (add-zero i) at (e 0 (omega arith)) in
      rw here (all_from (suc i) n g h (λ s k. let q : suc i + s ≡ i + suc s = omega arith in rw q (e (suc s) (omega arith))))

  none_from : (i n : ℕ) (g : A → Bool) (h : ℕ → A) → ((s : ℕ) → s < n → g (h (i + s)) ≡ false) → any g (tab i n h) ≡ false
  unfolding tab any
  none_from i zero g h e = refl
  none_from i (suc n) g h e =
      let here : g (h i) ≡ false = rw (add-zero i) at (e 0 (omega arith)) in
      rw here (none_from (suc i) n g h (λ s k. let q : suc i + s ≡ i + suc s = omega arith in rw q (e (suc s) (omega arith))))

  some_from : (i n : ℕ) (g : A → Bool) (h : ℕ → A) (s : ℕ) → s < n → g (h (i + s)) ≡ true → any g (tab i n h) ≡ true
  unfolding tab any
  some_from i zero g h s k e = absurd (omega arith)
  some_from i (suc n) g h zero k e = or_inl (g (h i)) _ (rw (add-zero i) at e)
  some_from i (suc n) g h (suc s) k e =
      let q : suc i + s ≡ i + suc s = omega arith in or_inr (g (h i)) _ (some_from (suc i) n g h s (omega arith) (rw q e))

  module _ (n : ℕ) where
    pub tab_word : (f : ℕ → A) (s : ℕ) (d : A) → s < n → get_or (tab 0 n f) s d ≡ f s
    tab_word f s d h = tab_at 0 n f s d h ∙ ap f (zero-add s)

    -- the values of f are any list of n that has them
    pub tab_is : (d : A) (f : ℕ → A) (l : List A) → length l ≡ n → ((s : ℕ) → s < n → f s ≡ get_or l s d) → tab 0 n f ≡ l
    tab_is d f l long e =
        ext_get_or d (tab 0 n f) l (tab_long 0 n f ∙ sym long) (λ s h. let k : s < n = rw (tab_long 0 n f) at h in tab_word f s d k ∙ e s k)

    pub tab_ext : (f h : ℕ → A) → ((s : ℕ) → s < n → f s ≡ h s) → tab 0 n f ≡ tab 0 n h
    tab_ext f h e = ext_from 0 n f h (λ s k. rw (zero-add s) (e s k))

    pub tab_same : (f h : ℕ → A) → tab 0 n f ≡ tab 0 n h → (s : ℕ) → s < n → f s ≡ h s
    tab_same f h e s k = sym (tab_word f s (f s) k) ∙ ap (λ l. get_or l s (f s)) e ∙ tab_word h s (f s) k

    -- one change is one store
    pub tab_upd : (f : ℕ → A) (s : ℕ) (v : A) → s < n → tab 0 n (upd f s v) ≡ set (tab 0 n f) s v
    tab_upd f s v h =
        let l = tab 0 n f in
        tab_is v (upd f s v) (set l s v) (simp (length-set, tab_long)) (upd_ind (λ i a. i < n → a ≡ get_or (set l s v) i v) f s v here there)
      where
        here : s < n → v ≡ get_or (set (tab 0 n f) s v) s v
        here k = sym (get_or-set_same (tab 0 n f) s v v (rw (tab_long 0 n f) h))

        there : (i : ℕ) → i ≢ s → i < n → f i ≡ get_or (set (tab 0 n f) s v) i v
        there i ne k = sym (get_or-set_other (tab 0 n f) s i v v ne ∙ tab_word f i v k)

    -- whether every value, and some value, passes a test
    pub all_tab : (g : A → Bool) (h : ℕ → A) → ((i : ℕ) → i < n → g (h i) ≡ true) → all g (tab 0 n h) ≡ true
    all_tab g h e = all_from 0 n g h (λ s k. rw (zero-add s) (e s k))

    pub any_tab_none : (g : A → Bool) (h : ℕ → A) → ((i : ℕ) → i < n → g (h i) ≡ false) → any g (tab 0 n h) ≡ false
    any_tab_none g h e = none_from 0 n g h (λ s k. rw (zero-add s) (e s k))

    pub any_tab_some : (g : A → Bool) (h : ℕ → A) (i : ℕ) → i < n → g (h i) ≡ true → any g (tab 0 n h) ≡ true
    any_tab_some g h i k e = some_from 0 n g h i k (rw (zero-add i) e)
