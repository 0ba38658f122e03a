-- A layer after some reads is the layer over what is left below.
use Rattle.std.proofs.Common.{◌≡◌, ℕ, zero, suc, ◌+◌, ◌*◌, ◌/◌, ◌≤◌, Bool, true, false, List, [], ◌∷◌, map, length, drop, sym, refl, ap, ◌∙◌, mul-one, arith}
use Rattle.std.proofs.lemmas.List.{drop-drop, drop-map}
use Rattle.std.proofs.lemmas.Bool.{and_parts}
use Rattle.heads.specs.Answers.{rest}
use Rattle.heads.specs.Channels.{channel_of}
use Rattle.heads.specs.Entries.{Entry}
use Rattle.heads.specs.PhaseTables.{if_fit}
use Rattle.layers.specs.Layering.{turned, zero_proper, zero_turns, gear_proper, layer_fits}
use Rattle.layers.specs.Bursts.{bursts, burst_proper}
use Rattle.layers.proofs.Bursting.{burst_rest, odd_some}
use Rattle.piles.specs.Piles.{zero_layer, gear_layer, burst_layer, LayersAdvance}

-- what waits where something is fit, n entries on
fit_drop : (b : Bool) (n : ℕ) (v u : List Entry) → (b ≡ true → drop n v ≡ u) → drop n (if_fit b v) ≡ if_fit b u
fit_drop true n v u h = h refl
fit_drop false zero v u h = refl
fit_drop false (suc n) v u h = refl

turned_drop : (f : Entry → Entry) (n : ℕ) (w : List Entry) → drop n (map f w) ≡ map f (drop (n * 1) w)
turned_drop f n w = drop-map f n w ∙ ap (λ (k : ℕ). map f (drop k w)) (sym (mul-one n))

pub rest_first : (n : ℕ) (v : List Entry) → drop (suc n) v ≡ drop n (rest v)
rest_first zero [] = refl
rest_first (suc n) [] = refl
rest_first n (e ∷ v) = refl

bursts_drop : (m t d b : ℕ) → 1 ≤ b → (n : ℕ) (w : List Entry) → drop n (bursts m t d b (length w / b) w) ≡ bursts m t d b (length (drop (n * b) w) / b) (drop (n * b) w)
bursts_drop m t d b h zero w = let e : 0 * b ≡ 0 = omega arith in ap (λ (k : ℕ). bursts m t d b (length (drop k w) / b) (drop k w)) (sym e)
bursts_drop m t d b h (suc n) w =
    let e : b + n * b ≡ suc n * b = omega arith in
    rest_first n (bursts m t d b (length w / b) w) ∙ ap (drop n) (sym (burst_rest m t d b w h)) ∙ bursts_drop m t d b h n (drop b w)
    ∙ ap (λ (v : List Entry). bursts m t d b (length v / b) v) (drop-drop (n * b) b w ∙ ap (λ (k : ℕ). drop k w) e)

pub layers_advance : LayersAdvance
layers_advance (zero_layer z) c n = ap (channel_of _) (fit_drop (layer_fits (zero_proper z c.figures) c.figures) n _ _ (λ _. turned_drop (turned (zero_turns z c.figures.modulus)) n c.waits))
layers_advance (gear_layer s w) c n = ap (channel_of _) (fit_drop (layer_fits (gear_proper s w c.figures) c.figures) n _ _ (λ _. turned_drop (turned (λ r. r * s)) n c.waits))
layers_advance (burst_layer b) c n = ap (channel_of _) (fit_drop (layer_fits (burst_proper b) c.figures) n _ _
    (λ e. bursts_drop c.figures.modulus c.figures.bound (c.figures.depth + 1) b (odd_some b (and_parts (burst_proper b) _ (and_parts c.figures.fit _ e).1).0) n c.waits))
