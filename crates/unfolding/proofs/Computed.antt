-- The worked unfoldings: each side computes to the other.
use Rattle.std.proofs.Common.{◌≡◌, ℕ, ◌<◌, T, ltb, ℤ, ◌<ℤ◌, refl, lit<, below_none, below_more}
use lib.Signed.{le_z}
use Rattle.unfolding.specs.Channels.{GreatestAt, LeastAt}
use Rattle.unfolding.specs.Worked.{ThreeReadingsAgree, QuotientBelowZero, OnePositionLeft, ContradictedByOne, ContradictedByTheLastChannel, PlainRemainders, FoldedBelowZero, Worked}

-- one, two and three channels, each by itself
one_of : (P : ℕ → Type 0) → P 0 → (i : ℕ) → i < 1 → P i
one_of P a = below_more P 0 (below_none P) a

two_of : (P : ℕ → Type 0) → P 0 → P 1 → (i : ℕ) → i < 2 → P i
two_of P a b = below_more P 1 (one_of P a) b

three_of : (P : ℕ → Type 0) → P 0 → P 1 → P 2 → (i : ℕ) → i < 3 → P i
three_of P a b c = below_more P 2 (two_of P a b) c

greatest : {f : ℕ → ℤ} {x : ℤ} {k : ℕ} → T (ltb k 3) → f k ≡ x → T (le_z (f 0) x) → T (le_z (f 1) x) → T (le_z (f 2) x) → ((i : ℕ) → i < k → f i <ℤ x) → GreatestAt 3 f x k
greatest w g a b c l = record { within = lit< w; gives = g; most = three_of _ (record { le = a }) (record { le = b }) (record { le = c }); lowest = l }

least : {f : ℕ → ℤ} {x : ℤ} {k : ℕ} → T (ltb k 3) → f k ≡ x → T (le_z x (f 0)) → T (le_z x (f 1)) → T (le_z x (f 2)) → ((i : ℕ) → i < k → x <ℤ f i) → LeastAt 3 f x k
least w g a b c l = record { within = lit< w; gives = g; least = three_of _ (record { le = a }) (record { le = b }) (record { le = c }); lowest = l }

agreeing : ThreeReadingsAgree
agreeing = record {
  folding_is = record { turns = record { below = lit< tt; agree = three_of _ refl refl refl }; quotients_as = refl; folds_as = refl; unfolded_as = refl };
  ends_are = record {
    lo_as = greatest tt refl tt tt tt (below_none _);
    hi_as = least tt refl tt tt tt (one_of _ (record { lt = tt }));
  };
  bracket_is = record { starts_as = refl; counts_as = refl; mean_as = refl; positions_as = refl };
}

quotient_below_zero : QuotientBelowZero
quotient_below_zero = record {
  folding_is = record { turns = record { below = lit< tt; agree = three_of _ refl refl refl }; quotients_as = refl; folds_as = refl; unfolded_as = refl };
  ends_are = record {
    lo_as = greatest tt refl tt tt tt (two_of _ (record { lt = tt }) (record { lt = tt }));
    hi_as = least tt refl tt tt tt (one_of _ (record { lt = tt }));
  };
  bracket_is = record { starts_as = refl; counts_as = refl; mean_as = refl; positions_as = refl };
}

one_position_left : OnePositionLeft
one_position_left = record {
  folding_is = record { turns = record { below = lit< tt; agree = three_of _ refl refl refl }; quotients_as = refl; folds_as = refl; unfolded_as = refl };
  ends_are = record {
    lo_as = greatest tt refl tt tt tt (below_none _);
    hi_as = least tt refl tt tt tt (two_of _ (record { lt = tt }) (record { lt = tt }));
  };
  bracket_is = record { starts_as = refl; counts_as = refl; mean_as = refl; positions_as = refl };
}

contradicted_by_one : ContradictedByOne
contradicted_by_one = record {
  turns = record { below = lit< tt; agree = three_of _ refl refl refl };
  ends_are = record {
    lo_as = greatest tt refl tt tt tt (below_none _);
    hi_as = least tt refl tt tt tt (two_of _ (record { lt = tt }) (record { lt = tt }));
  };
  none = refl;
}

contradicted_by_the_last : ContradictedByTheLastChannel
contradicted_by_the_last = record {
  turns = record { below = lit< tt; agree = three_of _ refl refl refl };
  ends_are = record {
    lo_as = greatest tt refl tt tt tt (two_of _ (record { lt = tt }) (record { lt = tt }));
    hi_as = least tt refl tt tt tt (one_of _ (record { lt = tt }));
  };
  none = refl;
}

plain_remainders : PlainRemainders
plain_remainders = record {
  folding_is = record { turns = record { below = lit< tt; agree = three_of _ refl refl refl }; quotients_as = refl; folds_as = refl; unfolded_as = refl };
  ends_are = record {
    lo_as = greatest tt refl tt tt tt (below_none _);
    hi_as = least tt refl tt tt tt (below_none _);
  };
  bracket_is = record { starts_as = refl; counts_as = refl; mean_as = refl; positions_as = refl };
}

folded_below_zero : FoldedBelowZero
folded_below_zero = record {
  folding_is = record { turns = record { below = lit< tt; agree = three_of _ refl refl refl }; quotients_as = refl; folds_as = refl; unfolded_as = refl };
  ends_are = record {
    lo_as = greatest tt refl tt tt tt (below_none _);
    hi_as = least tt refl tt tt tt (one_of _ (record { lt = tt }));
  };
  bracket_is = record { starts_as = refl; counts_as = refl; mean_as = refl; positions_as = refl };
}

pub worked : Worked
worked = record {
  agreeing = agreeing;
  quotient_below_zero = quotient_below_zero;
  one_position_left = one_position_left;
  contradicted_by_one = contradicted_by_one;
  contradicted_by_the_last = contradicted_by_the_last;
  plain_remainders = plain_remainders;
  folded_below_zero = folded_below_zero;
}
