use Rattle.std.proofs.Common.{◌≡◌, ◌*◌, ◌^◌, ◌≤◌, get_or, sym, ap, ◌∙◌, subst, arith, rules}
use Rattle.std.proofs.lemmas.List.{get_or_default}
use Rattle.settings.proofs.Mapped.{mapped, serves_list}
use Rattle.settings.proofs.Placed.{everywhere}
use Rattle.settings.proofs.candidates.Candidate.moduli.Goals as goal

pub map-requires : goal.map-requires
map-requires c =
    let s = c.args.self.now in
    let all = c.in_places.result in (
      search rules,
      (
        search rules,
        (
          search rules,
          serves_list _ _ _ (λ x q called. search rules) all
              (λ x k h is.
              let fits : s.unit * get_or all k 0 ≤ 2 ^ 31 =
              subst (λ x. s.unit * x ≤ 2 ^ 31) (sym (c.in_places.ensures.same k))
              (everywhere s.factors.now (λ x. s.unit * x ≤ 2 ^ 31) (omega arith) (λ i l. (c.in_default.ensures i l).1) k) in
              let here : s.unit * x ≤ 2 ^ 31 = subst (λ y. s.unit * y ≤ 2 ^ 31) (sym (is ∙ get_or_default all k x 0 h)) fits in
              search rules),
        ),
      ),
    )

pub returns-clause-made : goal.returns-clause-made
returns-clause-made c =
    let s = c.args.self.now in
    record {
      are = λ k h.
          mapped _ _ (λ x y. y ≡ s.unit * x) 0 0 (λ x y q called. search rules) 8 c.in_places.result c.map.result c.map.ensures.items.each k (omega arith)
          ∙ ap (λ x. s.unit * x) (c.in_places.ensures.same k);
      fit = c.in_default.ensures;
    }
