-- No bytes have two first checks that fail.
use Rattle.std.proofs.Common.{◌≡◌, ℕ, ◌<◌, List, refl, ap, ⊎_elim, arith}
use Rattle.std.proofs.lemmas.Bool.{cases_order}
use Rattle.recordings.specs.declared.refusals.CheckRefusal.TheVariants.{TooShort, Edition, Channels, Places, UnfitEntry}
use Rattle.recordings.specs.Refusals.{place_in, channel_count_in, UnfitFirst}
use Rattle.recordings.specs.Laws.{OneRefusal}

lowest : (bs : List ℕ) (k l : ℕ) → UnfitFirst bs (place_in bs) (channel_count_in bs) k → UnfitFirst bs (place_in bs) (channel_count_in bs) l → UnfitEntry k ≡ UnfitEntry l
lowest bs k l u v =
    ⊎_elim (λ (e : k ≡ l). ap UnfitEntry e)
    (⊎_elim (λ (h : k < l). absurd (u.unfit (v.fit_before k h))) (λ (h : l < k). absurd (v.unfit (u.fit_before l h))))
    (cases_order k l)

pub one_refusal : OneRefusal
one_refusal bs TooShort TooShort h g = refl
one_refusal bs TooShort Edition h g = absurd (omega (arith, h, g.0))
one_refusal bs TooShort Channels h g = absurd (omega (arith, h, g.0.long))
one_refusal bs TooShort Places h g = absurd (omega (arith, h, g.0.of_edition.long))
one_refusal bs TooShort (UnfitEntry l) h g = absurd (omega (arith, h, g.0.of_edition.long))
one_refusal bs Edition TooShort h g = absurd (omega (arith, g, h.0))
one_refusal bs Edition Edition h g = refl
one_refusal bs Edition Channels h g = absurd (h.1 g.0.edition_is)
one_refusal bs Edition Places h g = absurd (h.1 g.0.of_edition.edition_is)
one_refusal bs Edition (UnfitEntry l) h g = absurd (h.1 g.0.of_edition.edition_is)
one_refusal bs Channels TooShort h g = absurd (omega (arith, g, h.0.long))
one_refusal bs Channels Edition h g = absurd (g.1 h.0.edition_is)
one_refusal bs Channels Channels h g = refl
one_refusal bs Channels Places h g = absurd (h.1 g.0.some g.0.few)
one_refusal bs Channels (UnfitEntry l) h g = absurd (h.1 g.0.some g.0.few)
one_refusal bs Places TooShort h g = absurd (omega (arith, g, h.0.of_edition.long))
one_refusal bs Places Edition h g = absurd (g.1 h.0.of_edition.edition_is)
one_refusal bs Places Channels h g = absurd (g.1 h.0.some h.0.few)
one_refusal bs Places Places h g = refl
one_refusal bs Places (UnfitEntry l) h g = absurd (h.1 g.1)
one_refusal bs (UnfitEntry k) TooShort h g = absurd (omega (arith, g, h.0.of_edition.long))
one_refusal bs (UnfitEntry k) Edition h g = absurd (g.1 h.0.of_edition.edition_is)
one_refusal bs (UnfitEntry k) Channels h g = absurd (g.1 h.0.some h.0.few)
one_refusal bs (UnfitEntry k) Places h g = absurd (g.1 h.1)
one_refusal bs (UnfitEntry k) (UnfitEntry l) h g = lowest bs k l h.2 g.2
