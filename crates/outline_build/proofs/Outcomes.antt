-- The ways through building, each as a law. Assumes nothing.
use Rattle.std.specs.Prelude.{Ok, Err}
use Prim.Native.Nat.{ℕ, zero, suc, ◌*◌, ◌≤◌, ◌<◌}
use mathlib.Core.Path.{◌≡◌, refl, sym, ap, ap₂, ◌∙◌}
use mathlib.Core.List.{List}
use mathlib.Core.Bool.{Bool, true, false, ◌&&◌, ◌||◌, false≢true}
use native.Mathlib.Omega.{arith}
use lib.ListN.{length, replicate, length-replicate}
use lib.Dec.{ltb}
use borrow.Author.Tests.{ltb-true, ltb-false}
use lib.IntN.{ℤ}
use lib.Ieee.{Float}
use Rattle.answers.specs.declared.Refusal.{Refusal}
use Rattle.answers.specs.declared.Refusal.TheVariants.{NoRoom}
use Rattle.outline_check.specs.Outline.{rings, size_at, ring_of}
use Rattle.outline_check.specs.Rules.{shape_checked}
use Rattle.outline_index.specs.declared.BuildOptions.{BuildOptions}
use Rattle.outline_index.specs.Pools.{every}
use Rattle.outline_index.specs.Parts.{no_height, span_part, few_stripes, enough_work}
use Rattle.outline_index.proofs.Pools.{turn_like}
use Rattle.rings.specs.Ring.{wide}
use Rattle.outline_build.specs.Indexes.{Built, Outcome, zeroed, row_at, calls, roomy, indexed, indexes_built}
use Rattle.outline_build.specs.Inner.Standing.{Zero, AllBuilt}
use Rattle.outline_build.proofs.Roomy.{roomy_is}

-- the same answer, and room for room the same
pub alike : (r : Built) (t t' : List ℕ) (f f' : List Float) (s s' l l' b b' w w' : List ℕ) → t ≡ t' → f ≡ f' → s ≡ s' → l ≡ l' → b ≡ b' → w ≡ w'
    → ◌≡◌ {A = Outcome} (r, t, f, s, l, b, w) (r, t', f', s', l', b', w')
alike r t t' f f' s s' l l' b b' w w' p q u v x y =
    ap₂ (λ (i : List ℕ) (j : List Float). (r, i, j, s, l, b, w)) p q
    ∙ ap₂ (λ (i j : List ℕ). (r, t', f', i, j, b, w)) u v
    ∙ ap₂ (λ (i j : List ℕ). (r, t', f', s', l', i, j)) x y

every_like : (t t' : ℕ → Bool) (m : ℕ) → ((k : ℕ) → t k ≡ t' k) → every t m ≡ every t' m
unfolding every
every_like t t' zero h = refl
every_like t t' (suc m) h = ap₂ ◌&&◌ (every_like t t' m h) (h m)

work_room : (options : BuildOptions) (ring : ℕ → Float) (points : ℕ) (w w' : List ℕ) → length w ≡ length w' → enough_work options ring points w ≡ enough_work options ring points w'
unfolding enough_work
work_room options ring points w w' e = rw e

module _ (options : BuildOptions) (sizes : List ℕ) (coords : List ℤ) (T : List ℕ) (F : List Float) (S L B W : List ℕ) where
  no_rows : length T < 10 * rings sizes → roomy T F S L B W options sizes coords ≡ false
  no_rows h = go (roomy T F S L B W options sizes coords) refl
    where
      go : (x : Bool) → roomy T F S L B W options sizes coords ≡ x → x ≡ false
      go true y = absurd (omega (arith, (roomy_is options sizes coords T F S L B W y).rows, turn_like (row_at options sizes coords) 10 (rings sizes) (λ j. refl)))
      go false y = refl

  no_spans : length F < 2 * rings sizes → roomy T F S L B W options sizes coords ≡ false
  no_spans h = go (roomy T F S L B W options sizes coords) refl
    where
      go : (x : Bool) → roomy T F S L B W options sizes coords ≡ x → x ≡ false
      go true y =
          absurd
          (omega (
            arith,
            (roomy_is options sizes coords T F S L B W y).heights,
            turn_like (λ j. span_part options (wide (ring_of sizes coords j)) (size_at sizes j)) 2 (rings sizes) (λ j. refl),
          ))
      go false y = refl

  pub lacking : roomy T F S L B W options sizes coords ≡ false → indexed T F S L B W options sizes coords ≡ zeroed T F S L B W (Err NoRoom)
  unfolding indexed
  lacking e = rw e

  -- rooms that are zero, of which those for the rows or the spans are too short
  pub lacks_first : (ltb (length T) (10 * rings sizes) || ltb (length F) (2 * rings sizes)) ≡ true → Zero T F S L B W
      → indexed T F S L B W options sizes coords ≡ (Err NoRoom, T, F, S, L, B, W)
  lacks_first e z =
      lacking (go (ltb (length T) (10 * rings sizes)) (ltb (length F) (2 * rings sizes)) refl refl e)
      ∙ alike (Err NoRoom) _ T _ F _ S _ L _ B _ W (sym z.rows) (sym z.heights) (sym z.pairs) (sym z.entries) (sym z.packed) (sym z.numbers)
    where
      go : (x y : Bool) → ltb (length T) (10 * rings sizes) ≡ x → ltb (length F) (2 * rings sizes) ≡ y → (x || y) ≡ true
          → roomy T F S L B W options sizes coords ≡ false
      go true y p q h = no_rows (ltb-true _ _ p)
      go false true p q h = no_spans (ltb-true _ _ q)
      go false false p q h = absurd (false≢true h)

  pub holds_first : (ltb (length T) (10 * rings sizes) || ltb (length F) (2 * rings sizes)) ≡ false
      → (10 * rings sizes ≤ length T) × (2 * rings sizes ≤ length F)
  holds_first e = go (ltb (length T) (10 * rings sizes)) (ltb (length F) (2 * rings sizes)) refl refl e
    where
      go : (x y : Bool) → ltb (length T) (10 * rings sizes) ≡ x → ltb (length F) (2 * rings sizes) ≡ y → (x || y) ≡ false
          → (10 * rings sizes ≤ length T) × (2 * rings sizes ≤ length F)
      go false false p q h = (ltb-false _ _ p, ltb-false _ _ q)
      go false true p q h = absurd (false≢true (sym h))
      go true y p q h = absurd (false≢true (sym h))

  module _ (t : List ℕ) (f : List Float) (s l b w : List ℕ) where
    pub built_all_lem : AllBuilt options sizes coords T F S L B W true t f s l b w → indexed T F S L B W options sizes coords ≡ (Ok (rings sizes), t, f, s, l, b, w)
    unfolding indexed AllBuilt
    built_all_lem a =
        rw a.0
        (alike (Ok (rings sizes)) _ t _ f _ s _ l _ b _ w (sym a.1) (sym a.2) (sym a.3) (sym a.4) (sym a.5) (sym a.6))

    -- only the rooms' lengths count
    module _ (p : length t ≡ length T) (q : length f ≡ length F) (u : length s ≡ length S) (v : length l ≡ length L) (x : length b ≡ length B)
        (y : length w ≡ length W) where
      pub built_short : AllBuilt options sizes coords T F S L B W false t f s l b w
          → indexed T F S L B W options sizes coords ≡ zeroed t f s l b w (Err NoRoom)
      unfolding AllBuilt
      built_short a = lacking a ∙ rw (p, q, u, v, x, y)

      pub indexed_room : indexed T F S L B W options sizes coords ≡ indexed t f s l b w options sizes coords
      unfolding indexed roomy
      indexed_room = rw (p, q, u, v, x, y, every_like (calls options sizes coords w) (calls options sizes coords W) (rings sizes) called)
        where
          called : (k : ℕ) → calls options sizes coords w k ≡ calls options sizes coords W k
          called k = ap (λ (c : Bool). few_stripes options (wide (ring_of sizes coords k)) (size_at sizes k) && c) (work_room options (wide (ring_of sizes coords k)) (size_at sizes k) w W y)

-- rooms that were filled with zeros are zero
pub cleared : (T : List ℕ) (F : List Float) (S L B W : List ℕ) (r : Built) (t : List ℕ) (f : List Float) (s l b w : List ℕ)
    → zeroed T F S L B W (Err NoRoom) ≡ (r, t, f, s, l, b, w) → Zero t f s l b w
cleared T F S L B W r t f s l b w e = record {
  rows = zeros T t (ap (λ (o : Outcome). o.1) e);
  heights = let h = ap (λ (o : Outcome). o.2) e in sym h ∙ ap (λ (n : ℕ). replicate n no_height) (sym (length-replicate (length F) no_height) ∙ ap length h);
  pairs = zeros S s (ap (λ (o : Outcome). o.3) e);
  entries = zeros L l (ap (λ (o : Outcome). o.4) e);
  packed = zeros B b (ap (λ (o : Outcome). o.5) e);
  numbers = zeros W w (ap (λ (o : Outcome). o.6) e);
}
  where
    zeros : (xs ys : List ℕ) → replicate (length xs) 0 ≡ ys → ys ≡ replicate (length ys) 0
    zeros xs ys h = sym h ∙ ap (λ (n : ℕ). replicate n 0) (sym (length-replicate {A = ℕ} (length xs) 0) ∙ ap length h)

module _ (sizes : List ℕ) (coords : List ℤ) (options : BuildOptions) (T : List ℕ) (F : List Float) (S L B W : List ℕ) where
  pub built_faulty : (why : Refusal) → shape_checked sizes coords ≡ Err why → indexes_built sizes coords options T F S L B W ≡ (Err why, T, F, S, L, B, W)
  unfolding indexes_built
  built_faulty why e = rw e

  pub built_sound : shape_checked sizes coords ≡ Ok tt → indexes_built sizes coords options T F S L B W ≡ indexed T F S L B W options sizes coords
  unfolding indexes_built
  built_sound e = rw e
