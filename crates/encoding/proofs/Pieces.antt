-- Lists that are written part by part.
use Rattle.std.proofs.Common.{◌≡◌, ℕ, ◌+◌, ◌<◌, ◌≤◌, List, [], ◌∷◌, ◌++◌, length, get_or, take, drop, sym, refl, ap, ◌∙◌, arith, length-append}
use borrow.Rule.Slice.PartMut.{put_mid, post_of}
use Rattle.std.specs.List.{flat_map}
use Rattle.std.proofs.lemmas.List.{append_assoc, drop-drop, take_at, drop_at, take_more, take_all, flat_map_more}
use Rattle.std.proofs.lemmas.List.Concat.{flat_map-append}
use Rattle.std.proofs.lemmas.Slice.{take-put_mid}

-- a loop that writes the bytes of one item after another: one more item
pub part_more : {X : Type 0} (f : X → List ℕ) (i : ℕ) (ws : List X) (d : X) (a m n : ℕ) (xs ys : List ℕ) → i < length ws → a ≤ length xs → n ≡ a + length ys → ys ≡ f (get_or ws i d) → take a xs ≡ flat_map f (take i ws) → take n (put_mid a m xs ys) ≡ flat_map f (take (i + 1) ws)
part_more f i ws d a m n xs ys lt le en e inv =
    take-put_mid a m xs ys n en le
    ∙ ap (λ z. z ++ ys) inv
    ∙ ap (λ z. flat_map f (take i ws) ++ z) e
    ∙ flat_map_more f [] (take i ws) (get_or ws i d)
    ∙ ap (flat_map f) (sym (take_more ws i d lt))

-- and at its end
pub part_all : {X : Type 0} (f : X → List ℕ) (i : ℕ) (ws : List X) (n : ℕ) (xs : List ℕ) → length ws ≤ i → length xs ≤ n → take n xs ≡ flat_map f (take i ws) → xs ≡ flat_map f ws
part_all f i ws n xs lw lx inv = sym (take_all n xs lx) ∙ inv ∙ ap (flat_map f) (take_all i ws lw)

-- p is written in front: ys are written after it
pub put_next : (a k n : ℕ) (out p ys : List ℕ) → length p ≡ a → length ys ≡ k → n ≡ a + k → put_mid a k (p ++ drop a out) ys ≡ (p ++ ys) ++ drop n out
put_next a k n out p ys lp ly en =
    let e1 : take a (p ++ drop a out) ≡ p = take_at p _ a lp in
    let e2 : drop a (p ++ drop a out) ≡ drop a out = drop_at p _ a lp in
    simp (e1, e2, drop-drop, append_assoc, en)

-- four parts, one after another
pub four_parts : (a b c d k₀ k₁ k₂ k₃ : ℕ) (out p ys zs ws : List ℕ) → k₀ ≡ a → length p ≡ a → length ys ≡ k₁ → b ≡ a + k₁ → length zs ≡ k₂ → c ≡ b + k₂ → length ws ≡ k₃ → d ≡ c + k₃
    → put_mid c k₃ (put_mid b k₂ (put_mid a k₁ (p ++ post_of 0 k₀ out) ys) zs) ws ≡ (p ++ (ys ++ (zs ++ ws))) ++ drop d out
four_parts a b c d k₀ k₁ k₂ k₃ out p ys zs ws e0 lp ly eb lz ec lw ed =
    let s1 : put_mid a k₁ (p ++ post_of 0 k₀ out) ys ≡ (p ++ ys) ++ drop b out = simp e0 (put_next a k₁ b out p ys lp ly eb) in
    let l1 : length (p ++ ys) ≡ b = length-append p ys ∙ omega arith in
    let s2 : put_mid b k₂ ((p ++ ys) ++ drop b out) zs ≡ ((p ++ ys) ++ zs) ++ drop c out = put_next b k₂ c out (p ++ ys) zs l1 lz ec in
    let l2 : length ((p ++ ys) ++ zs) ≡ c = length-append (p ++ ys) zs ∙ omega arith in
    let s3 = put_next c k₃ d out ((p ++ ys) ++ zs) ws l2 lw ed in
    ap (λ o. put_mid c k₃ (put_mid b k₂ o zs) ws) s1 ∙ ap (λ o. put_mid c k₃ o ws) s2 ∙ s3 ∙ simp append_assoc

-- item by item, or all numbers at once
pub joined_twice : {X : Type 0} (f : ℕ → List ℕ) (g : X → List ℕ) (ws : List X) → flat_map (λ w. flat_map f (g w)) ws ≡ flat_map f (flat_map g ws)
joined_twice f g [] = refl
joined_twice f g (w ∷ ws) = ap (λ z. flat_map f (g w) ++ z) (joined_twice f g ws) ∙ sym (flat_map-append f (g w) (flat_map g ws))
