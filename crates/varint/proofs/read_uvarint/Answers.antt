-- `varint::read_uvarint` meets its contract. The loop's invariant: the whole reading is the reading from here on, what was
-- read is below the next byte's weight, the tenth byte's weight is 2 ^ 63, and ten bytes are read or left.
use Rattle.std.specs.Prelude.{Ok, Err}
use mathlib.Core.Path.{◌≡◌, refl, sym, ◌∙◌}
use mathlib.Core.Bool.{true, false, ◌&&◌}
use mathlib.Core.List.{List}
use mathlib.Core.Logic.{⊎_elim}
use Prim.Native.Nat.{ℕ, ◌<◌, ◌≤◌, ◌+◌, ◌-◌, ◌*◌, ◌^◌, min}
use lib.ListN.{get_or, length, take}
use lib.Dec.{lit<, eqb, ltb}
use native.Mathlib.Omega.{arith}
use native.Mathlib.Nat.{one-mul}
use borrow.Author.Tests.{lt-ltb, le-ltb, eq-eqb, ne_eqb}
use Rattle.answers.specs.declared.Refusal.TheVariants.{Damaged, Loose}
use Rattle.room.proofs.Cases.{lt_or}
use Rattle.varint.specs.Uvarint.{read_uvarint}
use Rattle.varint.specs.Uvarint.{ReadUvarint}
use Rattle.varint.proofs.Reading.{read_at_lem, read_at, at_past, at_last, at_zero, at_high, at_more, at_out}
use Rattle.varint.proofs.Weights.{Weight, weight_more, weight_128, weight_last, digit, below_top}
use Rattle.varint.proofs.read_uvarint.Invariants.{top}
use Rattle.varint.proofs.read_uvarint.Goals as goal
use Rattle.varint.proofs.read_uvarint.Goals.{After-from-b}

-- a 0 behind other bytes, which is loose
zero_behind : (b start p : ℕ) → b ≡ 0 → start < p → (eqb b 0 && ltb start p) ≡ true
zero_behind b start p z l = rw (eq-eqb b 0 z, lt-ltb start p l)

not_behind : (b start p : ℕ) → (b ≡ 0 → p ≤ start) → (eqb b 0 && ltb start p) ≡ false
not_behind b start p z = grind (arith, ne_eqb, le-ltb, eq-eqb, lt-ltb)

-- the whole reading is the reading from the byte b at p on
record At (src : List ℕ) (start end p x v b : ℕ) (whole : ReadUvarint) : Type 0 where
  is : b ≡ get_or src p 0
  inside : p < min end (length src)
  low : start ≤ p
  few : p < start + 10
  onward : whole ≡ read_at_lem 64 start src end (start + 10 - p) p x v
  weighs : Weight top (start + 10 - p) v
  below : x < v

module _ {src : List ℕ} {start end p x v b : ℕ} {whole : ReadUvarint} (r : At src start end p x v b whole) where
  loose : b ≡ 0 → start < p → Err (Loose start) ≡ whole
  loose z l = sym (r.onward ∙ at_zero 64 start src end (start + 10 - p) p x v r.inside (omega arith) (omega arith) (zero_behind (get_or src p 0) start p (omega arith) l))

  -- one of the first nine bytes
  module _ (early : (p - start ≡ 9) → ⊥) where
    small : b < 128 → x + b * v < top
    small l = below_top top x v (start + 10 - p) b r.below (omega arith) r.weighs l

    last : b < 128 → (b ≡ 0 → p ≤ start) → Ok (x + b * v, p + 1) ≡ whole
    last l z =
        rw r.is (sym (r.onward ∙ at_last 64 start src end (start + 10 - p) p x v r.inside (omega arith) (omega arith)
        (not_behind (get_or src p 0) start p (rw r.is at z)) (omega (arith, rw r.is at (small l)))))

    module _ (l : 128 ≤ b) (u : b < 256) where
      more : whole ≡ read_at_lem 64 start src end (start + 10 - (p + 1)) (p + 1) (x + (b - 128) * v) (v * 128)
      more =
          let e : start + 10 - p - 1 ≡ start + 10 - (p + 1) = omega arith in
          rw r.is (rw e at (r.onward ∙ at_more 64 start src end (start + 10 - p) p x v r.inside (omega arith) r.low (omega arith) (omega arith)))

      low_bits : b - 128 < 128
      low_bits = omega arith

      sum_more : x + (b - 128) * v < top
      sum_more = below_top top x v (start + 10 - p) (b - 128) r.below (omega arith) r.weighs low_bits

      next_weight : v * 128 ≤ top
      next_weight = weight_128 top (start + 10 - p) v (omega arith) r.weighs

      next_weighs : Weight top (start + 10 - (p + 1)) (v * 128)
      next_weighs =
          let e : start + 10 - p - 1 ≡ start + 10 - (p + 1) = omega arith in
          rw e at (weight_more top (start + 10 - p) v (omega arith) r.weighs)

  -- the tenth byte
  module _ (ten : p - start ≡ 9) where
    v_top : v ≡ top
    v_top = weight_last top (start + 10 - p) v (omega arith) (omega arith) r.weighs

    out : 128 ≤ b → Err (Damaged start) ≡ whole
    out l = sym (r.onward ∙ at_out 64 start src end (start + 10 - p) p x v r.inside (omega arith) (omega arith))

    high : b < 128 → 1 < b → Err (Loose start) ≡ whole
    high l h = sym (r.onward ∙ at_high 64 start src end (start + 10 - p) p x v r.inside (omega arith) (omega arith) (rw v_top (omega arith)))

    not_one : b < 128 → (b ≡ 1 → ⊥) → Err (Loose start) ≡ whole
    not_one l n = ⊎_elim (λ (z : b < 1). loose (omega arith) (omega arith)) (λ (h : 1 ≤ b). high l (omega arith)) (lt_or b 1)

    sum_ten : x + v < 2 ^ 64
    sum_ten = omega (arith, v_top)

    one : b ≡ 1 → Ok (x + v, p + 1) ≡ whole
    one e =
        let m : b * v ≡ v = rw e (one-mul v) in
        let s : x + b * v < 2 ^ 64 = rw m sum_ten in
        rw (← m) (rw r.is (sym (r.onward ∙ at_last 64 start src end (start + 10 - p) p x v r.inside (omega arith) (omega arith)
        (not_behind (get_or src p 0) start p (omega arith)) (rw r.is at s))))

reading : (c : After-from-b) → let l = c.loop-p in
    At c.args.src.now c.args.at c.args.end l.p l.x l.weight c.from-b.result (read_uvarint 64 (take c.args.end c.args.src.now) c.args.at)
reading c = let i = c.loop-p.invariant in record {
  is = c.from-b.ensures;
  inside = omega (arith, c.min-stop.ensures);
  low = omega arith;
  few = i.ten;
  onward = i.onward;
  weighs = i.weighs;
  below = i.below;
}

byte : (c : After-from-b) → c.from-b.result < 256
byte c = omega (arith, c.type_inv.src c.loop-p.p, c.from-b.ensures)

pub loop-p-init : goal.loop-p-init
unfolding Weight
loop-p-init c =
    let e : c.args.at + 10 - c.args.at ≡ 10 = omega arith in
    rw e (record { onward = read_at 64 _ _ _; weighs = refl; below = lit< tt; ten = omega arith })

pub returns-then-b-ge128 : goal.returns-then-b-ge128
returns-then-b-ge128 c = out (reading (goal.at.returns-then-b-ge128 c).After-from-b) c.if-p-at-eq-LAST.true c.if-b-ge128.true

pub returns-then-b-ne1 : goal.returns-then-b-ne1
returns-then-b-ne1 c = not_one (reading (goal.at.returns-then-b-ne1 c).After-from-b) c.if-p-at-eq-LAST.true c.if-b-ge128.false c.if-b-ne1.true

pub overflow_add-result : goal.overflow_add-result
overflow_add-result c = omega (arith, sum_ten (reading (goal.at.overflow_add-result c).After-from-b) c.if-p-at-eq-LAST.true)

pub returns-then-p-at-eq-LAST : goal.returns-then-p-at-eq-LAST
returns-then-p-at-eq-LAST c = one (reading (goal.at.returns-then-p-at-eq-LAST c).After-from-b) c.if-p-at-eq-LAST.true c.if-b-ne1.false

pub returns-then-at-p : goal.returns-then-at-p
returns-then-at-p c = loose (reading (goal.at.returns-then-at-p c).After-from-b) c.if-b-eq0.true c.if-at-p.true

pub overflow_mul-result : goal.overflow_mul-result
overflow_mul-result c = omega (arith, small (reading (goal.at.overflow_mul-result c).After-from-b) c.if-p-at-eq-LAST.false c.if-b-lt128.true)

pub overflow_add-result-then-b-lt128 : goal.overflow_add-result-then-b-lt128
overflow_add-result-then-b-lt128 c = omega (arith, small (reading (goal.at.overflow_add-result-then-b-lt128 c).After-from-b) c.if-p-at-eq-LAST.false c.if-b-lt128.true)

pub returns-then-b-lt128 : goal.returns-then-b-lt128
returns-then-b-lt128 c =
    last (reading (goal.at.returns-then-b-lt128 c).After-from-b) c.if-p-at-eq-LAST.false c.if-b-lt128.true
    (λ z. grind (arith, c.else-b-eq0.either))

pub overflow_mul-x : goal.overflow_mul-x
overflow_mul-x c = let x = (goal.at.overflow_mul-x c).After-from-b in omega (arith, sum_more (reading x) c.if-p-at-eq-LAST.false c.if-b-lt128.false (byte x))

pub overflow_add-x : goal.overflow_add-x
overflow_add-x c = let x = (goal.at.overflow_add-x c).After-from-b in omega (arith, sum_more (reading x) c.if-p-at-eq-LAST.false c.if-b-lt128.false (byte x))

pub overflow_mul-weight : goal.overflow_mul-weight
overflow_mul-weight c = let x = (goal.at.overflow_mul-weight c).After-from-b in omega (arith, next_weight (reading x) c.if-p-at-eq-LAST.false c.if-b-lt128.false (byte x))

pub loop-p-preserved : goal.loop-p-preserved
loop-p-preserved c =
    let x = (goal.at.loop-p-preserved c).After-from-b in
    let early = c.if-p-at-eq-LAST.false in
    let l = c.if-b-lt128.false in
    record {
      onward = more (reading x) early l (byte x);
      weighs = next_weighs (reading x) early l (byte x);
      below = digit _ _ _ c.loop-p.invariant.below (low_bits (reading x) early l (byte x));
      ten = omega arith;
    }

pub returns : goal.returns
returns c = let i = c.loop-p.invariant in sym (i.onward ∙ at_past 64 _ _ _ _ _ _ _ (omega (arith, c.min-stop.ensures)))
