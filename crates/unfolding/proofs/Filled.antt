-- A short list of signed numbers that a loop fills, channel by channel.
use Rattle.std.proofs.Common.{◌≡◌, ℕ, ◌+◌, List, [], ◌∷◌, ◌++◌, ℤ, sym, ap, ◌∙◌, arith, w64, SFits, to_z, of_z}
use Rattle.std.proofs.lemmas.Int.{to_z-of_z}
use Rattle.std.proofs.lemmas.List.FromFn.{map-range_with_len_more}
use Rattle.unfolding.specs.Channels.{by_channel}

pub pushed : (f : ℕ → ℤ) (n : ℕ) (xs ys : List ℤ) (v : ℤ) → xs ≡ by_channel n f → SFits w64 v → v ≡ f n → ys ≡ xs ++ to_z w64 (of_z w64 v) ∷ [] → ys ≡ by_channel (n + 1) f
pushed f n xs ys v before fits is e =
    e ∙ ap (λ z. xs ++ z ∷ []) (to_z-of_z w64 v fits ∙ is) ∙ ap (λ l. l ++ f n ∷ []) before ∙ sym (map-range_with_len_more f 0 n n (omega arith))
