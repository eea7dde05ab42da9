-- The ring test of a list, and its length, depend on how often each segment is listed, and not on the order. Assumes nothing.
use Prim.Native.Nat.{ℕ, suc, ◌+◌}
use mathlib.Core.Path.{◌≡◌, refl, sym, ap, ◌∙◌}
use mathlib.Core.List.{List, [], ◌∷◌, ◌++◌}
use mathlib.Core.Bool.{Bool, true, false, not, cond}
use mathlib.Core.Logic.{⊎_elim}
use native.Mathlib.Omega.{arith}
use lib.Dec.{eqb}
use lib.ListN.{length, length-append}
use borrow.Author.Tests.{eq-eqb, ne_eqb}
use Rattle.room.specs.Numbers.{bit, count}
use Rattle.room.proofs.Cases.{eq_or}
use Rattle.room.proofs.Count.{count_append}
use Rattle.rings.specs.RingTest.{test_from}

count_first : (x : ℕ) (xs : List ℕ) → count x (x ∷ xs) ≡ suc (count x xs)
unfolding count
count_first x xs = rw (eq-eqb x x refl) (omega arith)

count_none : (k : ℕ) → count k [] ≡ 0
unfolding count
count_none k = refl

count_cons : (k x : ℕ) (xs : List ℕ) → count k (x ∷ xs) ≡ bit (eqb x k) + count k xs
unfolding count
count_cons k x xs = refl

-- x taken out of two lists
less : (k x : ℕ) (xs ys us vs : List ℕ) → ys ≡ us ++ (x ∷ vs) → count k (x ∷ xs) ≡ count k ys → count k xs ≡ count k (us ++ vs)
less k x xs ys us vs e h =
    omega (arith, h, ap (count k) e, count_append k us (x ∷ vs), count_append k us vs, count_cons k x vs, count_cons k x xs)

-- a list that has x somewhere
abbrev Has : ℕ → List ℕ → Type 0
Has x ys = (us : List ℕ) × (vs : List ℕ) × (ys ≡ us ++ (x ∷ vs))

find : (x n : ℕ) (ys : List ℕ) → count x ys ≡ suc n → Has x ys
unfolding count
find x n [] e = absurd (omega arith)
find x n (y ∷ ys) e =
    ⊎_elim
    (λ (s : y ≡ x). ([], ys, ap (λ (z : ℕ). z ∷ ys) s))
    (λ (d : y ≡ x → ⊥). let r = find x n ys (sym (rest d) ∙ e) in (y ∷ r.0, r.1, ap (λ (zs : List ℕ). y ∷ zs) r.2))
    (eq_or y x)
  where
    rest : (y ≡ x → ⊥) → count x (y ∷ ys) ≡ count x ys
    rest d = rw (ne_eqb y x d) (omega arith)

none : (xs : List ℕ) → ((k : ℕ) → 0 ≡ count k xs) → [] ≡ xs
none [] h = refl
none (x ∷ xs) h = absurd (let e = h x in let f = count_first x xs in omega arith)

module _ (on inside : ℕ → Bool) (edge : Bool) where
  abbrev test : Bool → List ℕ → Bool
  test answer xs = test_from on inside edge answer xs

  -- two neighbours in the other order
  swap : (x y : ℕ) (answer : Bool) (zs : List ℕ) → test answer (x ∷ y ∷ zs) ≡ test answer (y ∷ x ∷ zs)
  unfolding test_from
  swap x y answer zs = go (on x) (on y) (inside x) (inside y) answer
    where
      go : (a b i j z : Bool) → cond a edge (cond b edge (test (cond j (not (cond i (not z) z)) (cond i (not z) z)) zs)) ≡ cond b edge (cond a edge (test (cond i (not (cond j (not z) z)) (cond j (not z) z)) zs))
      go true true i j z = refl
      go true false i j z = refl
      go false true i j z = refl
      go false false true true z = refl
      go false false true false z = refl
      go false false false true z = refl
      go false false false false z = refl

  after_one : (x : ℕ) (xs ys : List ℕ) → ((answer : Bool) → test answer xs ≡ test answer ys) → (answer : Bool) → test answer (x ∷ xs) ≡ test answer (x ∷ ys)
  unfolding test_from
  after_one x xs ys h answer = ap (λ (b : Bool). cond (on x) edge b) (h (cond (inside x) (not answer) answer))

  to_front : (x : ℕ) (us vs : List ℕ) (answer : Bool) → test answer (us ++ (x ∷ vs)) ≡ test answer (x ∷ (us ++ vs))
  to_front x [] vs answer = refl
  to_front x (u ∷ us) vs answer = after_one u (us ++ (x ∷ vs)) (x ∷ (us ++ vs)) (to_front x us vs) answer ∙ swap u x answer (us ++ vs)

  pub any_order : (xs ys : List ℕ) → ((k : ℕ) → count k xs ≡ count k ys) → (answer : Bool) → test answer xs ≡ test answer ys
  any_order [] ys h answer = ap (test answer) (none ys (λ k. sym (count_none k) ∙ h k))
  any_order (x ∷ xs) ys h answer =
      let r = find x (count x xs) ys (sym (h x) ∙ count_first x xs) in
      after_one x xs (r.0 ++ r.1) (any_order xs (r.0 ++ r.1) (λ k. less k x xs ys r.0 r.1 r.2 (h k))) answer
      ∙ sym (to_front x r.0 r.1 answer)
      ∙ ap (test answer) (sym r.2)

pub same_length : (xs ys : List ℕ) → ((k : ℕ) → count k xs ≡ count k ys) → length xs ≡ length ys
same_length [] ys h = ap length (none ys (λ k. sym (count_none k) ∙ h k))
same_length (x ∷ xs) ys h =
    let r = find x (count x xs) ys (sym (h x) ∙ count_first x xs) in
    let s = same_length xs (r.0 ++ r.1) (λ k. less k x xs ys r.0 r.1 r.2 (h k)) in
    omega (arith, s, ap length r.2, length-append r.0 (x ∷ r.1), length-append r.0 r.1)
