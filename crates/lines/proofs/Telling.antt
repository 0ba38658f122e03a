-- A line tells what was printed, since no digit is a space or a line feed. Assumes nothing.
use Rattle.std.proofs.Common.{◌≡◌, ℕ, ◌+◌, ◌%◌, ◌^◌, ◌<◌, List, [], ◌∷◌, ◌++◌, codes, decimal, refl, arith}
use Rattle.std.specs.List.{AllByRecursion}
use Rattle.std.proofs.lemmas.Fmt.{decimal_by_steps, decimal_injective}
use Rattle.std.proofs.ByRecursion.{All-push}
use Rattle.std.proofs.lemmas.List.{append_cancel_left}
use Rattle.lines.specs.LineLaws.{TellsFix, TellsFault}

-- lists up to a mark that is below all they hold
parted : (s : ℕ) (cs bs xs ys : List ℕ) → AllByRecursion (λ d. s < d) cs → AllByRecursion (λ d. s < d) bs → cs ++ s ∷ xs ≡ bs ++ s ∷ ys → (cs ≡ bs) × (xs ≡ ys)
parted s [] [] xs ys p q e = let t : xs ≡ ys = cc in (refl, t)
parted s [] (b ∷ bs) xs ys p q e = let t : s ≡ b = cc in absurd (omega (arith, q.0))
parted s (a ∷ cs) [] xs ys p q e = let t : a ≡ s = cc in absurd (omega (arith, p.0))
parted s (a ∷ cs) (b ∷ bs) xs ys p q e =
    let h : a ≡ b = cc in
    let t : cs ++ s ∷ xs ≡ bs ++ s ∷ ys = cc in
    let r = parted s cs bs xs ys p.1 q.1 t in
    let w : cs ≡ bs = r.0 in
    let v : a ∷ cs ≡ b ∷ bs = cc in
    (v, r.1)

digits_above : (s : ℕ) → s < 48 → (n : ℕ) → n < 2 ^ 64 → AllByRecursion (λ d. s < d) (decimal n)
digits_above s low =
    decimal_by_steps (λ _ ds. AllByRecursion (λ d. s < d) ds)
    (λ n h. (omega arith, tt))
    (λ n ds h r. All-push (λ d. s < d) ds (48 + n % 10) r (omega arith))

-- a number up to a mark that is no digit, and what stands after the mark
next_number : (s : ℕ) → s < 48 → (m n : ℕ) (xs ys : List ℕ) → m < 2 ^ 64 → n < 2 ^ 64 → decimal m ++ s ∷ xs ≡ decimal n ++ s ∷ ys → (m ≡ n) × (xs ≡ ys)
next_number s low m n xs ys p q e =
    let r = parted s (decimal m) (decimal n) xs ys (digits_above s low m p) (digits_above s low n q) e in
    (decimal_injective m n p q r.0, r.1)

pub tells_fix : TellsFix
tells_fix f g p q e =
    let a = next_number 32 (omega arith) f.start g.start _ _ p.start q.start e in
    let b = next_number 32 (omega arith) f.count g.count _ _ p.count q.count a.1 in
    let c = next_number 10 (omega arith) f.mean g.mean [] [] p.mean q.mean b.1 in
    λ i. record { start = a.0 i; count = b.0 i; mean = c.0 i }

pub tells_fault : TellsFault
tells_fault f g p q e =
    let a = next_number 32 (omega arith) f.code g.code _ _ p.code q.code (append_cancel_left (codes "refused ") _ _ e) in
    let b = next_number 32 (omega arith) f.channel g.channel _ _ p.channel q.channel (append_cancel_left (codes "channel ") _ _ a.1) in
    let c = next_number 10 (omega arith) f.depth g.depth [] [] p.depth q.depth (append_cancel_left (codes "depth ") _ _ b.1) in
    record { code = a.0; channel = b.0; depth = c.0 }
