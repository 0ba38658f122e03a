-- What makes a plate fit, and what an unfit one tells. Assumes nothing.
use Rattle.std.specs.Prelude.{ℕ, ◌*◌, ◌^◌, Bool, true, false, ◌&&◌, nat_le, nat_lt}
use Rattle.heads.specs.declared.plates.Figures.{Figures}

-- the modulus is 1 to 2^31, and four times the bound is below it
abbrev pub fits : (m t : ℕ) → Bool
fits m t = nat_le 1 m && (nat_le m (2 ^ 31) && nat_lt (4 * t) m)

-- an unfit plate tells modulus 1, bound 0 and the depth of its lowest unfit part
abbrev pub unfit : (d : ℕ) → Figures
unfit d = record { fit = false; modulus = 1; bound = 0; depth = d }

-- the figures of something with these numbers, fit or not
abbrev pub figures_of : Bool → (m t d : ℕ) → Figures
figures_of true m t d = record { fit = true; modulus = m; bound = t; depth = d }
figures_of false m t d = unfit d
