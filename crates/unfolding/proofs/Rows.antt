-- Which channel a loop over several lists at once is at.
use Rattle.std.proofs.Common.{◌≡◌, ℕ, ◌+◌, ◌<◌, ◌≤◌, Option, Some, None, List, length, get_or, drop, refl, ap, ◌∙◌, arith, Iter, length-drop, get_or-drop}
use Rattle.std.proofs.iter.Yields.{fronts}
use Rattle.std.proofs.lemmas.Iterator.{YieldsList, YieldsList-from_slice, YieldsList-from_zip, zips}
use Rattle.std.proofs.lemmas.Iterator.Adapters.{YieldsList-from_skip}
use Rattle.std.proofs.lemmas.Iterator.Consumers.{YieldsList-from_enumerate, YieldsList-turn, YieldsList-end}
use Rattle.std.proofs.lemmas.List.{get_or_read}
use Rattle.std.proofs.lemmas.List.FromFn.{length-enumerate_from, get_or-enumerate_from}
use Rattle.std.proofs.lemmas.Slice.Zip.{length-zip, get_or-zip}
use Rattle.std.specs.Iterator.{Yields}
use Rattle.std.specs.Iterator.Adapters.{enumerate_source, enumerate_count, enumerate_steps, zip_first, zip_second, skip_source, skip_count, skip_steps}
use Rattle.std.specs.List.{zip, enumerate_from}
use Rattle.std.specs.Slice.Iter.{iter_rest}
use Rattle.std.specs.declared.iter.Enumerate.{Enumerate}
use Rattle.std.specs.declared.iter.Skip.{Skip}
use Rattle.std.specs.declared.iter.Zip.{Zip}
use denote.Ref.{Bor}

-- what is at place n of a list of pairs, and of a counted list
pub paired : {A B : Type 0} (xs : List A) (ys : List B) (n : ℕ) (p : A × B) → n < length (zip xs ys) → p ≡ get_or (zip xs ys) n p
    → (n < length xs) × (n < length ys) × (p.0 ≡ get_or xs n p.0) × (p.1 ≡ get_or ys n p.1)
paired xs ys n p h e =
    let l : n < length xs = omega (arith, length-zip xs ys) in
    let m : n < length ys = omega (arith, length-zip xs ys) in
    let f = e ∙ get_or-zip xs ys n p l m in
    (l, m, ap (λ q. q.0) f, ap (λ q. q.1) f)

pub counted : {A : Type 0} (xs : List A) (n : ℕ) (p : ℕ × A) → n < length (enumerate_from 0 xs) → p ≡ get_or (enumerate_from 0 xs) n p
    → (p.0 ≡ n) × (n < length xs) × (p.1 ≡ get_or xs n p.1)
counted xs n p h e =
    let l : n < length xs = omega (arith, length-enumerate_from 0 xs) in
    let f = e ∙ get_or-enumerate_from 0 xs n p l in
    (ap (λ q. q.0) f ∙ omega arith, l, ap (λ q. q.1) f)

-- a turn over two lists, which is counted k: it is at place n of both
pub record Turn {A B : Type 0} (xs : List A) (ys : List B) (n k : ℕ) (x : A) (y : B) : Type 0 where
  pub counts : k ≡ n
  pub in_first : n < length xs
  pub in_second : n < length ys
  pub first_is : (d : A) → x ≡ get_or xs n d
  pub second_is : (d : B) → y ≡ get_or ys n d

-- a loop that begins at s, and goes over two lists and counts its turns
pub record Counts {A B : Type 0} (xs : List A) (ys : List B) (s : Enumerate (Zip (Iter A) (Iter B))) : Type 0 where
  pub gives : YieldsList {B = ℕ × (A × B)} (enumerate_steps (zips fronts fronts)) (λ p. (p.0, (p.1.0.now, p.1.1.now))) s (enumerate_from 0 (zip xs ys))

pub counts_from : {A B : Type 0} {xs : List A} {ys : List B} {s : Enumerate (Zip (Iter A) (Iter B))} → iter_rest (zip_first (enumerate_source s)) ≡ xs → iter_rest (zip_second (enumerate_source s)) ≡ ys → enumerate_count s ≡ 0
    → Counts xs ys s
counts_from {xs = xs} {ys = ys} e f none = record { gives = YieldsList-from_enumerate (YieldsList-from_zip (YieldsList-from_slice xs e) (YieldsList-from_slice ys f)) none }

-- at t, from where it goes on to u
module _ {A B : Type 0} {xs : List A} {ys : List B} {s : Enumerate (Zip (Iter A) (Iter B))} (c : Counts xs ys s) (t u : Enumerate (Zip (Iter A) (Iter B))) (so_far : List (ℕ × (Bor A × Bor B))) (r : Option (ℕ × (Bor A × Bor B)))
    (gave : Yields (enumerate_steps (zips fronts fronts)) s so_far t) (step : enumerate_steps (zips fronts fronts) t r u) where
  pub counted_turn : {k : ℕ} {x : Bor A} {y : Bor B} → r ≡ Some (k, (x, y)) → Turn xs ys (length so_far) k x.now y.now
  counted_turn {k} {x} {y} is =
      let (h, g) = YieldsList-turn c.gives so_far t gave r u (k, (x, y)) is step in
      let (k_is, l, q) = counted (zip xs ys) (length so_far) (k, (x.now, y.now)) h g in
      let (a, b, v, w) = paired xs ys (length so_far) (x.now, y.now) l q in
      record { counts = k_is; in_first = a; in_second = b; first_is = get_or_read xs (length so_far) x.now a v; second_is = get_or_read ys (length so_far) y.now b w }

  pub counted_end : r ≡ None → length xs ≡ length ys → length so_far ≡ length xs
  counted_end is same =
      let (_, n) = YieldsList-end c.gives so_far t gave r u is step in
      omega (arith, n, length-enumerate_from 0 (zip xs ys), length-zip xs ys)

-- the same where the first turn is skipped
pub record CountsLater {A B : Type 0} (xs : List A) (ys : List B) (s : Skip (Enumerate (Zip (Iter A) (Iter B)))) : Type 0 where
  pub gives : YieldsList {B = ℕ × (A × B)} (skip_steps (enumerate_steps (zips fronts fronts))) (λ p. (p.0, (p.1.0.now, p.1.1.now))) s (drop 1 (enumerate_from 0 (zip xs ys)))

pub counts_later_from : {A B : Type 0} {xs : List A} {ys : List B} {s : Skip (Enumerate (Zip (Iter A) (Iter B)))} → iter_rest (zip_first (enumerate_source (skip_source s))) ≡ xs
    → iter_rest (zip_second (enumerate_source (skip_source s))) ≡ ys → enumerate_count (skip_source s) ≡ 0 → skip_count s ≡ 1 → CountsLater xs ys s
counts_later_from {xs = xs} {ys = ys} e f none one = record { gives = YieldsList-from_skip 1 (YieldsList-from_enumerate (YieldsList-from_zip (YieldsList-from_slice xs e) (YieldsList-from_slice ys f)) none) one }

module _ {A B : Type 0} {xs : List A} {ys : List B} {s : Skip (Enumerate (Zip (Iter A) (Iter B)))} (c : CountsLater xs ys s) (t u : Skip (Enumerate (Zip (Iter A) (Iter B)))) (so_far : List (ℕ × (Bor A × Bor B)))
    (r : Option (ℕ × (Bor A × Bor B))) (gave : Yields (skip_steps (enumerate_steps (zips fronts fronts))) s so_far t) (step : skip_steps (enumerate_steps (zips fronts fronts)) t r u) where
  pub later_turn : {k : ℕ} {x : Bor A} {y : Bor B} → r ≡ Some (k, (x, y)) → Turn xs ys (length so_far + 1) k x.now y.now
  later_turn {k} {x} {y} is =
      let all : List (ℕ × (A × B)) = enumerate_from 0 (zip xs ys) in
      let p : ℕ × (A × B) = (k, (x.now, y.now)) in
      let n : ℕ = length so_far + 1 in
      let (h, g) = YieldsList-turn c.gives so_far t gave r u (k, (x, y)) is step in
      let (k_is, l, q) = counted (zip xs ys) n p (omega (arith, h, length-drop 1 all)) (g ∙ get_or-drop 1 all (length so_far) p ∙ ap (λ i. get_or all i p) (omega arith)) in
      let (a, b, v, w) = paired xs ys n p.1 l q in
      record { counts = k_is; in_first = a; in_second = b; first_is = get_or_read xs n x.now a v; second_is = get_or_read ys n y.now b w }

  pub later_end : r ≡ None → length xs ≡ length ys → 1 ≤ length xs → length so_far + 1 ≡ length xs
  later_end is same some =
      let (_, n) = YieldsList-end c.gives so_far t gave r u is step in
      omega (arith, n, length-drop 1 (enumerate_from 0 (zip xs ys)), length-enumerate_from 0 (zip xs ys), length-zip xs ys)

-- a counted turn over three lists
pub counted_triple : {A B C : Type 0} (xs : List A) (ys : List B) (zs : List C) (s t u : Enumerate (Zip (Zip (Iter A) (Iter B)) (Iter C))) (so_far : List (ℕ × ((Bor A × Bor B) × Bor C)))
    (r : Option (ℕ × ((Bor A × Bor B) × Bor C))) → iter_rest (zip_first (zip_first (enumerate_source s))) ≡ xs → iter_rest (zip_second (zip_first (enumerate_source s))) ≡ ys → iter_rest (zip_second (enumerate_source s)) ≡ zs
    → enumerate_count s ≡ 0 → Yields (enumerate_steps (zips (zips fronts fronts) fronts)) s so_far t → enumerate_steps (zips (zips fronts fronts) fronts) t r u
    → {k : ℕ} {x : Bor A} {y : Bor B} {z : Bor C} → r ≡ Some (k, ((x, y), z)) → Turn xs ys (length so_far) k x.now y.now × ((d : C) → z.now ≡ get_or zs (length so_far) d)
counted_triple xs ys zs s t u so_far r e f g none gave step {k} {x} {y} {z} is =
    let n : ℕ = length so_far in
    let (h, at) = YieldsList-turn (YieldsList-from_enumerate (YieldsList-from_zip (YieldsList-from_zip (YieldsList-from_slice xs e) (YieldsList-from_slice ys f)) (YieldsList-from_slice zs g)) none) so_far t gave r u (k, ((x, y), z)) is step in
    let (k_is, l, q) = counted (zip (zip xs ys) zs) n (k, ((x.now, y.now), z.now)) h at in
    let (m, c, p, o) = paired (zip xs ys) zs n ((x.now, y.now), z.now) l q in
    let (a, b, v, w) = paired xs ys n (x.now, y.now) m p in
    (record { counts = k_is; in_first = a; in_second = b; first_is = get_or_read xs n x.now a v; second_is = get_or_read ys n y.now b w }, get_or_read zs n z.now c o)

-- a turn over two pairs of lists
module _ {A B C D : Type 0} (xs : List A) (ys : List B) (zs : List C) (ws : List D) (s t u : Zip (Zip (Iter A) (Iter B)) (Zip (Iter C) (Iter D))) (so_far : List ((Bor A × Bor B) × (Bor C × Bor D)))
    (r : Option ((Bor A × Bor B) × (Bor C × Bor D))) (e : iter_rest (zip_first (zip_first s)) ≡ xs) (f : iter_rest (zip_second (zip_first s)) ≡ ys) (g : iter_rest (zip_first (zip_second s)) ≡ zs)
    (h : iter_rest (zip_second (zip_second s)) ≡ ws) (gave : Yields (zips (zips fronts fronts) (zips fronts fronts)) s so_far t) (step : zips (zips fronts fronts) (zips fronts fronts) t r u) where
  pub pairs_turn : {x : Bor A} {y : Bor B} {z : Bor C} {w : Bor D} → r ≡ Some ((x, y), (z, w)) → Turn xs ys (length so_far) (length so_far) x.now y.now × Turn zs ws (length so_far) (length so_far) z.now w.now
  pairs_turn {x} {y} {z} {w} is =
      let n : ℕ = length so_far in
      let (l, at) = YieldsList-turn (YieldsList-from_zip (YieldsList-from_zip (YieldsList-from_slice xs e) (YieldsList-from_slice ys f)) (YieldsList-from_zip (YieldsList-from_slice zs g) (YieldsList-from_slice ws h))) so_far t gave r u ((x, y), (z, w)) is step in
      let (m, o, p, q) = paired (zip xs ys) (zip zs ws) n ((x.now, y.now), (z.now, w.now)) l at in
      let (a, b, i, j) = paired xs ys n (x.now, y.now) m p in
      let (c, d, k, v) = paired zs ws n (z.now, w.now) o q in (
        record { counts = refl; in_first = a; in_second = b; first_is = get_or_read xs n x.now a i; second_is = get_or_read ys n y.now b j },
        record { counts = refl; in_first = c; in_second = d; first_is = get_or_read zs n z.now c k; second_is = get_or_read ws n w.now d v },
      )

  pub pairs_end : r ≡ None → (n : ℕ) → length xs ≡ n → length ys ≡ n → length zs ≡ n → length ws ≡ n → length so_far ≡ n
  pairs_end is n a b c d =
      let (_, l) = YieldsList-end (YieldsList-from_zip (YieldsList-from_zip (YieldsList-from_slice xs e) (YieldsList-from_slice ys f)) (YieldsList-from_zip (YieldsList-from_slice zs g) (YieldsList-from_slice ws h))) so_far t gave r u is step in
      omega (arith, l, length-zip (zip xs ys) (zip zs ws), length-zip xs ys, length-zip zs ws)
