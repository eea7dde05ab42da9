-- Points on one line.
use Rattle.std.specs.Prelude.{ℕ, ◌<◌, ◌≡◌, List, ℤ, pos, ◌+ℤ◌, ◌*ℤ◌}
use Rattle.rings.specs.Ring.{point_at}

-- the line a x + b y = c, of which a and b are not both 0. Whole numbers lose no case: two different points of a ring have a line of whole
-- numbers through them, with a = y' - y and b = x - x'
pub record Line : Type 0 where
  pub a : ℤ
  pub b : ℤ
  pub c : ℤ
  pub runs : (a ≡ pos 0) → (b ≡ pos 0) → ⊥

-- each of the ring's points is on the line
abbrev pub OnLine : Line → List ℤ → ℕ → Type 0
OnLine l ring points = (i : ℕ) → i < points → l.a *ℤ (point_at ring i).x +ℤ l.b *ℤ (point_at ring i).y ≡ l.c
