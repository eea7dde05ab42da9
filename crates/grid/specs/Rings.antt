-- 01, "Ring test", by the whole-number test, on every segment of a ring: "Integer mode: .. without index".
use Rattle.std.specs.Prelude.{ℕ, Bool, List, ℤ}
use Rattle.answers.specs.Answers.{Answer, said}
use Rattle.rings.specs.Ring.{segment_at, segments, numbers}
use Rattle.rings.specs.Checks.{ring_checked, when_sound}
use Rattle.rings.specs.RingTest.{ring_test}
use Rattle.grid.specs.Grid.{is_on, is_flip}

abbrev pub on_at : List ℤ → ℤ → ℤ → ℕ → Bool
on_at ring px py i = let s = segment_at ring i in is_on s.a.x s.a.y s.b.x s.b.y px py

abbrev pub flip_at : List ℤ → ℤ → ℤ → ℕ → Bool
flip_at ring px py i = let s = segment_at ring i in is_flip s.a.x s.a.y s.b.x s.b.y px py

-- p is inside by the first n segments
abbrev pub grid_inside : List ℤ → ℕ → ℤ → ℤ → Bool → Bool
grid_inside ring n px py edge = ring_test (on_at ring px py) (flip_at ring px py) edge (numbers n)

-- rules 1 to 4, then the ring test
unfoldable pub grid_ring : List ℤ → ℕ → ℤ → ℤ → Bool → Answer
grid_ring ring points px py edge = when_sound (ring_checked ring points) (said (grid_inside ring (segments points) px py edge))
