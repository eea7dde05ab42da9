use Prim.Native.Nat.{ℕ, ◌+◌, ◌*◌}
use native.Mathlib.Omega.{arith}
use mathlib.Core.Path.{◌≡◌, subst, ◌∙◌}
use mir.Syntax.{w32}
use mir.Facts.{to_z-of_z}
use Rattle.wkb_read.proofs.Put.{Putting, putting, x_ok, y_ok, putting_on, putting_done}
use Rattle.wkb_read.proofs.Polygon.put_ring.Goals as goal

pub loop-i-init : goal.loop-i-init
loop-i-init c =
    let a = c.args in
    let p = c.requires in
    let e : a.start ≡ a.start + 16 * 0 = omega arith in
    let d : a.to ≡ a.to + 2 * 0 = omega arith in
    subst (λ (at : ℕ). Putting a.self.bytes.now a.self.order a.self.scale a.n a.start a.to a.coords.now at (a.to + 2 * 0) 0 a.coords.now) e
    (subst (λ (q : ℕ). Putting a.self.bytes.now a.self.order a.self.scale a.n a.start a.to a.coords.now a.start q 0 a.coords.now) d
    (putting _ _ _ _ _ _ _ p.0 p.1 p.2))

pub stored_at-requires : goal.stored_at-requires
stored_at-requires c =
    let l = c.loop-i in (omega (arith, l.invariant.inside), x_ok _ _ _ _ _ _ _ _ _ _ _ l.invariant c.loop-i-test.true)

pub stored_at-requires-in-loop-i : goal.stored_at-requires-in-loop-i
stored_at-requires-in-loop-i c =
    let l = c.loop-i in (omega (arith, l.invariant.inside), y_ok _ _ _ _ _ _ _ _ _ _ _ l.invariant c.loop-i-test.true)

pub loop-i-preserved : goal.loop-i-preserved
loop-i-preserved c =
    let a = c.args in
    let l = c.loop-i in
    let x = to_z-of_z {w = w32} {z = c.stored_at.result} (record { sfits = c.stored_at.type_inv }) ∙ c.stored_at.ensures in
    let y = to_z-of_z {w = w32} {z = c.stored_at-in-loop-i.result} (record { sfits = c.stored_at-in-loop-i.type_inv }) ∙ c.stored_at-in-loop-i.ensures in
    let e : a.start + 16 * l.i + 16 ≡ a.start + 16 * (l.i + 1) = omega arith in
    let d : a.to + 2 * l.i + 2 ≡ a.to + 2 * (l.i + 1) = omega arith in
    rw (x, y, ← e, ← d) (putting_on _ _ _ _ _ _ _ _ _ _ _ l.invariant c.loop-i-test.true)

pub returns : goal.returns
returns c = putting_done _ _ _ _ _ _ _ _ _ _ _ c.loop-i.invariant c.loop-i-test.false
