-- `varint::write_uvarint` meets its contract. The loop's invariant: what is left, written here, gives the room that the
-- whole number written at its place gives, and ends where that ends.
use mathlib.Core.Path.{sym, ap, ◌∙◌}
use mathlib.Core.List.{List}
use Prim.Native.Nat.{ℕ}
use lib.ListN.{length, length-set}
use native.Mathlib.Omega.{arith}
use Rattle.room.specs.Room.{write}
use Rattle.varint.proofs.Leb128.{encode_last, encode_more, encode_some}
use Rattle.varint.proofs.write_uvarint.Goals as goal

pub bounds-out-p : goal.bounds-out-p
bounds-out-p c = omega (arith, encode_some c.loop-rest.rest)

pub loop-rest-preserved : goal.loop-rest-preserved
unfolding write
loop-rest-preserved c = let l = c.loop-rest in
    let e = encode_more l.rest c.loop-rest-test.true in (
      sym (ap (λ (vs : List ℕ). write l.out l.p vs) e) ∙ l.invariant.0,
      omega (arith, ap length e),
      simp length-set l.invariant.2,
    )

pub bounds-out-p-2 : goal.bounds-out-p-2
bounds-out-p-2 c = omega (arith, encode_some c.loop-rest.rest)

pub returns : goal.returns
unfolding write
returns c = let l = c.loop-rest in
    let e = encode_last l.rest c.loop-rest-test.false in
    (omega (arith, ap length e), sym (ap (λ (vs : List ℕ). write l.out l.p vs) e) ∙ l.invariant.0)
