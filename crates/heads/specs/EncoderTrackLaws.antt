-- An encoder track keeps the laws of a head. Assumes nothing.
use Rattle.std.proofs.Common.{arith, mod-lt, lit≤}
use Rattle.std.proofs.lemmas.Bool.Decides.{nat_tests}
use Rattle.std.specs.Prelude.{◌≡◌, ℕ, zero, suc, ◌+◌, ◌-◌, ◌*◌, ◌<◌, true}
use Rattle.heads.specs.Entries.{AllBelow}
use Rattle.heads.specs.Figures.{fits}
use Rattle.heads.specs.Laws.{HeadLaws, Lawful, head_laws}
use Rattle.heads.specs.PhaseTableLaws.{figures_laws, if_fit_empty, if_fit_below}
use Rattle.heads.specs.EncoderTracks.{track_readings, track_fits, track_told, track_waits}

readings_below : (m p v d k n : ℕ) → 0 < m → AllBelow m (track_readings m p v d k n)
readings_below m p v d k zero h = tt
readings_below m p v d k (suc n) h = (omega (arith, mod-lt (p + k * v) h), readings_below m p v d (suc k) n h)

pub track_plate : (m p v d n : ℕ) → track_fits m p v d n ≡ true → fits m (d - 1) ≡ true
track_plate m p v d n e = grind (arith, nat_tests)

pub track_modulus : (m p v d n : ℕ) → track_fits m p v d n ≡ true → p < m
track_modulus m p v d n e = grind (arith, nat_tests)

pub track_lawful : (m p v d n k : ℕ) → Lawful (track_told m p v d n) (track_waits m p v d n k)
track_lawful m p v d n k = record {
  plate = figures_laws (track_fits m p v d n) m (d - 1) 0 (track_plate m p v d n) (λ _. lit≤ tt) (lit≤ tt);
  unfit_empty = if_fit_empty (track_fits m p v d n) m (d - 1) 0 _;
  below = if_fit_below (track_fits m p v d n) m (d - 1) 0 _ (λ e. let h : p < m = track_modulus m p v d n e in readings_below m p v d k (n - k) (omega arith));
}

pub track_laws : {S : Type 0} (m p v d n k : S → ℕ) → HeadLaws (λ s. track_told (m s) (p s) (v s) (d s) (n s)) (λ s. track_waits (m s) (p s) (v s) (d s) (n s) (k s))
track_laws m p v d n k = head_laws _ _ (λ s. track_lawful (m s) (p s) (v s) (d s) (n s) (k s))
