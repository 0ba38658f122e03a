-- Checks in a row, of which the first that fails is told.
use Rattle.std.proofs.Common.{◌≡◌, ℕ, ◌<◌, ◌⊎◌, List, [], ◌∷◌, sym, ap, ◌∙◌, inl, inr, arith}
use Rattle.settings.specs.declared.refusals.SettingRefusal.{SettingRefusal}
use Rattle.settings.specs.Refusals.{FailsFirst, TellsLowest}

-- what it is to pass, and to fail with a refusal: never both, and with one refusal only
pub record Check : Type 1 where
  pub Pass : Type 0
  pub Fail : SettingRefusal → Type 0
  pub never_both : (e : SettingRefusal) → Fail e → Pass → ⊥
  pub one : (e f : SettingRefusal) → Fail e → Fail f → e ≡ f

abbrev pub FailsIn : List Check → SettingRefusal → Type 0
FailsIn [] e = ⊥
FailsIn (c ∷ cs) e = c.Fail e ⊎ (c.Pass × FailsIn cs e)

abbrev pub AllPass : List Check → Type 0
AllPass [] = Unit {0}
AllPass (c ∷ cs) = c.Pass × AllPass cs

pub fails_alone : (cs : List Check) (e : SettingRefusal) → FailsIn cs e → AllPass cs → ⊥
fails_alone [] e h p = h
fails_alone (c ∷ cs) e (inl h) (p, ps) = c.never_both e h p
fails_alone (c ∷ cs) e (inr (q, h)) (p, ps) = fails_alone cs e h ps

pub fails_once : (cs : List Check) (e f : SettingRefusal) → FailsIn cs e → FailsIn cs f → e ≡ f
fails_once [] e f h k = absurd h
fails_once (c ∷ cs) e f (inl h) (inl k) = c.one e f h k
fails_once (c ∷ cs) e f (inl h) (inr (p, k)) = absurd (c.never_both e h p)
fails_once (c ∷ cs) e f (inr (p, h)) (inl k) = absurd (c.never_both f k p)
fails_once (c ∷ cs) e f (inr (p, h)) (inr (q, k)) = fails_once cs e f h k

-- a check of one thing, with one refusal
unfoldable pub plain : (P : Type 0) → SettingRefusal → Check
plain P told = record {
  Pass = P;
  Fail = λ e. (e ≡ told) × (P → ⊥);
  never_both = λ e h p. h.1 p;
  one = λ e f h k. h.0 ∙ sym k.0;
}

-- two places, neither of which is before the other
pub same_place : (k l : ℕ) → (k < l → ⊥) → (l < k → ⊥) → k ≡ l
same_place k l a b = omega arith

-- the lowest of n at which P fails
pub lowest : (P : ℕ → Type 0) (n k l : ℕ) → FailsFirst P n k → FailsFirst P n l → k ≡ l
lowest P n k l (_, before, fails) (_, before', fails') = same_place k l (λ a. fails (before' k a)) (λ a. fails' (before l a))

-- a check over channels, which tells the lowest
unfoldable pub each : (P : ℕ → Type 0) (n : ℕ) → (ℕ → SettingRefusal) → Check
each P n told = record {
  Pass = (k : ℕ) → k < n → P k;
  Fail = TellsLowest P n told;
  never_both = λ e (k, _, h) p. h.2 (p k h.0);
  one = λ e f (k, a, h) (l, b, i). a ∙ ap told (lowest P n k l h i) ∙ sym b;
}
