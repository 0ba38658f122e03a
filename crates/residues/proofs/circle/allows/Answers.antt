use Rattle.std.proofs.Common.{ℕ, ◌≤◌, min, T, leb, ◌⊎◌, ◌↔◌, inl, inr, arith, le→leb, leb→le, rules}
use native.Mathlib.Decide.{dec_le}
use Rattle.residues.proofs.Machine.{remainder_is}
use Rattle.residues.proofs.Round.{way_ahead, allows_errs}
use Rattle.residues.proofs.circle.allows.Goals as goal

-- the shorter way is at most t where one of the two is
shorter : (a b t : ℕ) (Q : Type 0) → ((a ≤ t) ⊎ (b ≤ t)) ↔ Q → T (leb (min a b) t) ↔ Q
shorter a b t Q (to, from) = (λ x. to (pick (dec_le a t) (leb→le (min a b) t x)), λ q. le→leb (min a b) t (least (from q)))
  where
    pick : Dec (a ≤ t) → min a b ≤ t → (a ≤ t) ⊎ (b ≤ t)
    pick (yes h) l = inl h
    pick (no h) l = inr (omega arith)

    least : (a ≤ t) ⊎ (b ≤ t) → min a b ≤ t
    least (inl h) = omega arith
    least (inr h) = omega arith

pub returns : goal.returns
returns c =
    let o = remainder_is c.args.modulus c.args.position c.rem_euclid-on_circle.result (omega arith) c.ranges.position (search rules) (rw c.from.ensures at c.rem_euclid-on_circle.ensures.value) in
    record {
      distance = λ h. rw (c.shorter_way.ensures, c.from-length.ensures, c.from-2.ensures, c.from-3.ensures) (shorter _ _ _ _ (way_ahead _ _ _ _ _ h o));
      errors = allows_errs _ _ _ _;
      nowhere = λ e. absurd (omega arith);
    }
