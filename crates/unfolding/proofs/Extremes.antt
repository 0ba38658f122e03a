-- The greatest and the least so far, with one channel more.
use Rattle.std.proofs.Common.{◌≡◌, ℕ, ◌+◌, ◌^◌, ◌<◌, true, false, ◌⊎◌, ℤ, pos, ◌+ℤ◌, ◌-ℤ◌, neg_ℤ, ◌≤ℤ◌, ◌<ℤ◌, sym, subst, inl, inr, arith, below_more}
use borrow.Author.Differences.{lt-true, lt-false}
use lib.Signed.{lt_z}
use Rattle.residues.proofs.Ring.{lin}
use Rattle.unfolding.specs.Channels.{GreatestAt, LeastAt, Small}

same : (y : ℤ) → y ≤ℤ y
same y = omega (arith, lin)

through : (a x y : ℤ) → a ≤ℤ x → x ≤ℤ y → a ≤ℤ y
through a x y h l = omega (arith, lin)

pub weaker : (x y : ℤ) → x <ℤ y → x ≤ℤ y
weaker x y h = omega (arith, lin)

-- with one channel there is no choice
pub greatest_one : (f : ℕ → ℤ) (x : ℤ) → x ≡ f 0 → GreatestAt 1 f x 0
greatest_one f x e = record { within = omega arith; gives = sym e; most = below_more _ _ (λ i h. absurd (omega arith)) (subst (λ z. z ≤ℤ x) e (same x)); lowest = λ i h. absurd (omega arith) }

pub least_one : (f : ℕ → ℤ) (x : ℤ) → x ≡ f 0 → LeastAt 1 f x 0
least_one f x e = record { within = omega arith; gives = sym e; least = below_more _ _ (λ i h. absurd (omega arith)) (subst (λ z. x ≤ℤ z) e (same x)); lowest = λ i h. absurd (omega arith) }

-- one channel more, the m-th: it gives the extreme where it goes beyond the one so far
module _ (n m : ℕ) (f : ℕ → ℤ) (x y : ℤ) (k : ℕ) (count : m ≡ n + 1) (e : y ≡ f n) where
  pub greatest_kept : y ≤ℤ x → GreatestAt n f x k → GreatestAt m f x k
  greatest_kept h g = rw count (record { within = omega (arith, g.within); gives = g.gives; most = below_more _ _ g.most (subst (λ z. z ≤ℤ x) e h); lowest = g.lowest })

  pub greatest_taken : (c : ℕ) → c ≡ n → x <ℤ y → GreatestAt n f x k → GreatestAt m f y c
  greatest_taken c i h g = rw (count, i) (record {
    within = omega arith;
    gives = sym e;
    most = below_more _ _ (λ i l. through (f i) x y (g.most i l) (weaker x y h)) (subst (λ z. z ≤ℤ y) e (same y));
    lowest = λ i l. omega (arith, lin, g.most i l, h);
  })

  pub least_kept : x ≤ℤ y → LeastAt n f x k → LeastAt m f x k
  least_kept h g = rw count (record { within = omega (arith, g.within); gives = g.gives; least = below_more _ _ g.least (subst (λ z. x ≤ℤ z) e h); lowest = g.lowest })

  pub least_taken : (c : ℕ) → c ≡ n → y <ℤ x → LeastAt n f x k → LeastAt m f y c
  least_taken c i h g = rw (count, i) (record {
    within = omega arith;
    gives = sym e;
    least = below_more _ _ (λ i l. through y x (f i) (weaker y x h) (g.least i l)) (subst (λ z. y ≤ℤ z) e (same y));
    lowest = λ i l. omega (arith, lin, g.least i l, h);
  })

-- an end of a moderate reading is small
pub end_small : (c x : ℤ) (t : ℕ) → (neg_ℤ (pos (2 ^ 42)) ≤ℤ c) × (c ≤ℤ pos (2 ^ 42)) → t < 2 ^ 32 → (x ≡ c -ℤ pos t) ⊎ (x ≡ c +ℤ pos t) → Small x
end_small c x t (l, h) m (inl e) = (omega (arith, lin), omega (arith, lin))
end_small c x t (l, h) m (inr e) = (omega (arith, lin), omega (arith, lin))

-- the machine's test of two numbers, which are a and b
pub less : (x y a b : ℤ) → x ≡ a → y ≡ b → lt_z x y ≡ true → a <ℤ b
less x y a b e f t = omega (arith, lin, e, f, lt-true x y t)

pub not_less : (x y a b : ℤ) → x ≡ a → y ≡ b → lt_z x y ≡ false → b ≤ℤ a
not_less x y a b e f t = omega (arith, lin, e, f, lt-false x y t)
