-- The range of the first factors of a list.
use Rattle.std.proofs.Common.{◌≡◌, ℕ, suc, ◌*◌, ◌<◌, List, length, get_or, take, sym, ap, ◌∙◌, mul_assoc}
use Rattle.residues.specs.Products.{product}
use Rattle.residues.proofs.Products.{product_more}
use Rattle.settings.specs.Settings.{range_of}

pub range_more : (u : ℕ) (gs : List ℕ) (i : ℕ) → i < length gs → range_of u (take i gs) * get_or gs i 0 ≡ range_of u (take (suc i) gs)
range_more u gs i h = mul_assoc u (product (take i gs)) (get_or gs i 0) ∙ ap (λ (x : ℕ). u * x) (sym (product_more gs i h))
