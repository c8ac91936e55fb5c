-- Why MixColumns four times changes nothing, and three times is InvMixColumns: over any sum in which each element is its own negative, and any additive `t`,
-- which stands for multiplication by x. Assumes nothing.
use mathlib.Core.Path.{◌≡◌, ◌∙◌, sym, ap}

module _ {A : Type 0} (◌⊕◌ : A → A → A) (o : A) (t : A → A)
    (assoc : (a b c : A) → (a ⊕ b) ⊕ c ≡ a ⊕ (b ⊕ c)) (comm : (a b : A) → a ⊕ b ≡ b ⊕ a)
    (self : (a : A) → a ⊕ a ≡ o) (unit : (a : A) → a ⊕ o ≡ a) (add : (a b : A) → t (a ⊕ b) ≡ t a ⊕ t b) where
  infixl 60 ◌⊕◌
  swap : (a b c : A) → a ⊕ (b ⊕ c) ≡ b ⊕ (a ⊕ c)
  swap a b c = sym (assoc a b c) ∙ ap (λ (x : A). x ⊕ c) (comm a b) ∙ assoc b a c

  unit_l : (a : A) → o ⊕ a ≡ a
  unit_l a = comm o a ∙ unit a

  cancel : (a b : A) → a ⊕ (a ⊕ b) ≡ b
  cancel a b = sym (assoc a a b) ∙ ap (λ (x : A). x ⊕ b) (self a) ∙ unit_l b

  -- 2 a + 3 b + c + d
  abbrev pub mix : A → A → A → A → A
  mix a b c d = t a ⊕ (b ⊕ t b) ⊕ c ⊕ d

  -- 14 a + 11 b + 13 c + 9 d
  abbrev pub unmix : A → A → A → A → A
  unmix a b c d = t a ⊕ (t (t a) ⊕ t (t (t a))) ⊕ (b ⊕ (t b ⊕ t (t (t b)))) ⊕ (c ⊕ (t (t c) ⊕ t (t (t c)))) ⊕ (d ⊕ t (t (t d)))

  -- mixed twice: 5 a + 4 c
  abbrev pub twice : A → A → A
  twice a c = a ⊕ t (t a) ⊕ t (t c)

  pub mix_mix : (a b c d : A) → mix (mix a b c d) (mix b c d a) (mix c d a b) (mix d a b c) ≡ twice a c
  mix_mix a b c d = simp (add, assoc, comm, swap, cancel)

  pub mix_twice : (a b c d : A) → mix (twice a c) (twice b d) (twice c a) (twice d b) ≡ unmix a b c d
  mix_twice a b c d = simp (add, assoc, comm, swap, cancel)

  pub twice_twice : (a c : A) → twice (twice a c) (twice c a) ≡ a
  twice_twice a c = simp (add, assoc, comm, swap, self, cancel, unit_l)
